-- `measure_seeds`: what is told of the seeds is told of those that are left (`Measuring`). Assumes nothing.
use Rattle.level_file.proofs.PutLaws.{drop_as, drop_all}
use Rattle.level_file.proofs.MeasureLaws.{measuring_bad, measuring_step, measuring_done, seeds_low, seeds_high, seeds_end}
use Rattle.house_numbers.specs.EncodeLaws.{length_ten}
use lib.ListN.{get_or}
use mathlib.Core.Path.{refl, ap}
use native.Mathlib.Omega.{arith}
use Prim.Native.Nat.{ℕ, ◌+◌}
use Rattle.level_file.proofs.writing.measure_seeds.Goals as goal

pub returns-then-seed-limit : goal.returns-then-seed-limit
returns-then-seed-limit c = measuring_bad _ _ _ _ _ c.loop-seed.invariant.0 (seeds_high _ _ _ _ refl c.loop-seed-test.true c.if-seed-limit.true)

pub overflow_add-total : goal.overflow_add-total
overflow_add-total c = omega (arith, c.group_count-total.ensures, length_ten (get_or c.args.seeds.now c.loop-seed.seed-index 0))

pub loop-seed-preserved : goal.loop-seed-preserved
loop-seed-preserved c =
    let t = c.loop-seed-test.true in
    let g = c.group_count-total.ensures in (
      measuring_step _ _ _ _ _ c.loop-seed.invariant.0 _ _ _ _ (seeds_low _ _ _ _ refl t c.if-seed-limit.false) (drop_as _ _ _ refl t) (ap (λ (k : ℕ). c.loop-seed.total + k) g),
      omega (arith, g, length_ten (get_or c.args.seeds.now c.loop-seed.seed-index 0)),
    )

pub returns : goal.returns
returns c = measuring_done _ _ _ _ _ c.loop-seed.invariant.0 (seeds_end _ _ _ c.loop-seed-test.false) (drop_all _ _ c.loop-seed-test.false)
