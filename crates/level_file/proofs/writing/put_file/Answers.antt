-- `put_file`: four parts, each behind the one before. Assumes nothing.
use Rattle.level_file.proofs.WriteLaws.{file_length, file_put}
use Rattle.level_file.specs.Format.{level_of}
use lib.ListN.{length}
use mathlib.Core.Path.{◌≡◌}
use native.Mathlib.Omega.{arith}
use borrow.Author.Rules.{rules}
use Rattle.level_file.proofs.writing.put_file.Goals as goal

pub put_head-first-requires : goal.put_head-first-requires
put_head-first-requires c =
    let a = c.args in
    omega (arith, c.requires.holes_in_bounds, file_length (level_of a.settings a.seeds.now a.holes.now))

pub put_seeds-second-requires : goal.put_seeds-second-requires
put_seeds-second-requires c =
    let a = c.args in
    let n₁ : length c.put_head-first.new.out ≡ length a.out.now = search rules in
    omega (arith, c.requires.holes_in_bounds, file_length (level_of a.settings a.seeds.now a.holes.now), c.put_head-first.ensures.value, n₁)

pub put_groups-third-requires : goal.put_groups-third-requires
put_groups-third-requires c =
    let a = c.args in
    let n₂ : length c.put_seeds-second.new.out ≡ length a.out.now = search rules in
    omega (arith, c.requires.holes_in_bounds, file_length (level_of a.settings a.seeds.now a.holes.now), c.put_head-first.ensures.value, c.put_seeds-second.ensures.value, n₂)

pub put_holes-requires : goal.put_holes-requires
put_holes-requires c =
    let a = c.args in
    let n₃ : length c.put_groups-third.new.out ≡ length a.out.now = search rules in
    record {
      climbs = c.requires.climbs;
      holes_in_bounds = omega (arith, c.requires.holes_in_bounds, file_length (level_of a.settings a.seeds.now a.holes.now), c.put_head-first.ensures.value, c.put_seeds-second.ensures.value, c.put_groups-third.ensures.value, n₃);
    }

pub returns : goal.returns
returns c =
    let a = c.args in
    let h = c.put_head-first.ensures in
    let s = c.put_seeds-second.ensures in
    let g = c.put_groups-third.ensures in
    let d = c.put_holes.ensures in
    record {
      value = omega (arith, file_length (level_of a.settings a.seeds.now a.holes.now), h.value, s.value, g.value, d.value);
      out_after = file_put (level_of a.settings a.seeds.now a.holes.now) _ _ _ _ _ _ _ _ h.out_after h.value s.out_after s.value g.out_after g.value d.out_after c.requires.holes_in_bounds;
    }
