-- `put_holes`: as `put_seeds`, with the hole before; a hole is never below it (`Climbs`). Assumes nothing.
use Rattle.level_file.proofs.PutLaws.{gaps_next, gaps_all, climbs_next, putting_start, putting_room, putting_step, putting_end, putting_done}
use mathlib.Core.Path.{refl}
use Rattle.level_file.proofs.writing.put_holes.Goals as goal

pub loop-hole-init : goal.loop-hole-init
loop-hole-init c = (putting_start _ _ _ _ refl, c.requires.climbs)

pub overflow_sub-hole : goal.overflow_sub-hole
overflow_sub-hole c = (climbs_next _ _ _ _ refl c.loop-hole-test.true c.loop-hole.invariant.1).0

pub put_groups-place-requires : goal.put_groups-place-requires
put_groups-place-requires c =
    putting_room _ _ _ _ _ _ c.loop-hole.invariant.0 _ _ (gaps_next _ _ _ _ refl c.loop-hole-test.true) c.requires.holes_in_bounds

pub loop-hole-preserved : goal.loop-hole-preserved
loop-hole-preserved c =
    let t = c.loop-hole-test.true in
    let g = c.put_groups-place.ensures in
    (putting_step _ _ _ _ _ _ c.loop-hole.invariant.0 _ _ (gaps_next _ _ _ _ refl t) _ _ g.out_after g.value, (climbs_next _ _ _ _ refl t c.loop-hole.invariant.1).1)

pub returns : goal.returns
returns c =
    let e = gaps_all _ _ _ c.loop-hole-test.false in
    record {
      value = putting_end _ _ _ _ _ _ c.loop-hole.invariant.0 e;
      out_after = putting_done _ _ _ _ _ _ c.loop-hole.invariant.0 e;
    }
