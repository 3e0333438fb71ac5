use Rattle.sweep.proofs.CountLaws.{counted_as}
use Rattle.sweep.proofs.CountLaws.{counted_zero, counted_placed}
use native.Mathlib.Omega.{arith}
use Rattle.sweep.proofs.counting.counted.Goals as goal
use Rattle.sweep.proofs.counting.counted.Goals.{then-seed-eq0, else-seed-eq0}

pub loop-b-preserved : goal.loop-b-preserved
loop-b-preserved c =
    let e = c.size_of-size.ensures.0 in
    let s = c.size_of-size.ensures.1 in
    elim c.if-seed-eq0.branch [
      | then-seed-eq0 w ↦ (
        counted_as (counted_zero c.loop-b.invariant.0 e w.if-seed-eq0.true) w.placed-is w.bumped-is w.zero-is,
        omega (arith, w.placed-is),
        omega (arith, w.bumped-is),
        omega (arith, w.zero-is),
      )
      | else-seed-eq0 w ↦ (
        counted_as (counted_placed c.loop-b.invariant.0 e w.if-seed-eq0.false) w.placed-is w.bumped-is w.zero-is,
        omega (arith, w.placed-is),
        omega (arith, w.bumped-is),
        omega (arith, w.zero-is),
      )
    ]
