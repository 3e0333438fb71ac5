-- `measure_holes`: as `measure_seeds`, with the hole before and the least difference; holes that rise below m are at most m, so the sum fits. Assumes nothing.
use Rattle.level_file.proofs.PutLaws.{gaps_next, gaps_all}
use Rattle.level_file.proofs.MeasureLaws.{measuring_bad, measuring_step, measuring_done, hole_rises, hole_low, hole_high, holes_end}
use Rattle.house_numbers.specs.EncodeLaws.{length_ten}
use lib.ListN.{get_or}
use mathlib.Core.Path.{refl, ap}
use native.Mathlib.Omega.{arith}
use Prim.Native.Nat.{ℕ, ◌+◌, ◌-◌}
use Rattle.level_file.proofs.writing.measure_holes.Goals as goal
use Rattle.level_file.proofs.writing.measure_holes.Goals.{then-hole-before-via-then-hole-before, then-hole-before-via-else-hole-before+then-hole-m}

pub returns-then-hole-before : goal.returns-then-hole-before
returns-then-hole-before c =
    elim c.then-hole-before.branch [
      | then-hole-before-via-then-hole-before w ↦ measuring_bad _ _ _ _ _ c.loop-hole.invariant.0 (hole_low _ _ _ _ _ _ refl c.loop-hole-test.true w.if-hole-before.true)
      | then-hole-before-via-else-hole-before+then-hole-m w ↦ measuring_bad _ _ _ _ _ c.loop-hole.invariant.0 (hole_high _ _ _ _ _ _ refl c.loop-hole-test.true w.if-hole-before.false w.if-hole-m.true)
    ]

pub overflow_add-total : goal.overflow_add-total
overflow_add-total c = omega (arith, c.group_count-total.ensures, length_ten (get_or c.args.holes.now c.loop-hole.hole-index 0 - c.loop-hole.before))

pub loop-hole-preserved : goal.loop-hole-preserved
loop-hole-preserved c =
    let t = c.loop-hole-test.true in
    let g = c.group_count-total.ensures in (
      measuring_step _ _ _ _ _ c.loop-hole.invariant.0 _ _ _ _ (hole_rises _ _ _ _ _ _ refl t c.if-hole-before.false c.if-hole-m.false) (gaps_next _ _ _ _ refl t) (ap (λ (k : ℕ). c.loop-hole.total + k) g),
      omega (arith, g, length_ten (get_or c.args.holes.now c.loop-hole.hole-index 0 - c.loop-hole.before)),
      omega arith,
      omega arith,
      omega arith,
    )

pub returns : goal.returns
returns c = measuring_done _ _ _ _ _ c.loop-hole.invariant.0 (holes_end _ _ _ _ _ c.loop-hole-test.false) (gaps_all _ _ _ c.loop-hole-test.false)
