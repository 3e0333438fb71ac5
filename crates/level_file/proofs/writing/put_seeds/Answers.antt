-- `put_seeds`: what is left from the present place on (`Putting`). Assumes nothing.
use Rattle.level_file.proofs.PutLaws.{drop_as, drop_all, putting_start, putting_room, putting_step, putting_end, putting_done}
use mathlib.Core.Path.{refl}
use Rattle.level_file.proofs.writing.put_seeds.Goals as goal

pub loop-seed-init : goal.loop-seed-init
loop-seed-init c = putting_start _ _ _ _ refl

pub put_groups-place-requires : goal.put_groups-place-requires
put_groups-place-requires c =
    putting_room _ _ _ _ _ _ c.loop-seed.invariant _ _ (drop_as _ _ _ refl c.loop-seed-test.true) c.requires

pub loop-seed-preserved : goal.loop-seed-preserved
loop-seed-preserved c =
    let g = c.put_groups-place.ensures in
    putting_step _ _ _ _ _ _ c.loop-seed.invariant _ _ (drop_as _ _ _ refl c.loop-seed-test.true) _ _ g.out_after g.value

pub returns : goal.returns
returns c =
    let e = drop_all _ _ c.loop-seed-test.false in
    record {
      value = putting_end _ _ _ _ _ _ c.loop-seed.invariant e;
      out_after = putting_done _ _ _ _ _ _ c.loop-seed.invariant e;
    }
