-- `read_seeds`: at each turn the whole gives what the seeds so far and what is left to read give (`Filling`). Assumes nothing.
use Rattle.level_file.proofs.FillLaws.{filling_start, filling_step, filling_refused, filling_done, number_got, number_no, numbers_next, numbers_bad, numbers_no, numbers_start, numbers_none}
use Rattle.level_file.specs.Reading.{read_into}
use Rattle.std.proofs.lemmas.Result.{err_from_is_err_and}
use mathlib.Core.Path.{refl, ◌∙◌}
use native.Mathlib.Omega.{arith}
use Rattle.level_file.proofs.reading.read_seeds.Goals as goal

pub loop-seed-init : goal.loop-seed-init
loop-seed-init c = (refl, filling_start _ _ _ (numbers_start _ _ _ _))

pub returns-in_err-value-clause-value : goal.returns-in_err-value-clause-value
unfolding read_into
returns-in_err-value-clause-value c =
    let p = err_from_is_err_and c.from_residual.result c.from_residual.ensures.1 in
    rw (p.1, p.2) (filling_refused _ _ _ _ c.loop-seed.invariant.1 _ (numbers_no _ _ _ _ _ (omega arith) _ (number_no _ _ _ _ c.loop-seed.invariant.0 _ c.in_err-value.ensures.value)))

pub returns-then-value-limit-clause-value : goal.returns-then-value-limit-clause-value
unfolding read_into
returns-then-value-limit-clause-value c =
    filling_refused _ _ _ _ c.loop-seed.invariant.1 24
    (numbers_bad _ _ _ _ _ (omega arith) _ _ (number_got _ _ _ _ c.loop-seed.invariant.0 _ c.in_ok-value.ensures.value) c.if-value-limit.true)

pub loop-seed-preserved : goal.loop-seed-preserved
loop-seed-preserved c = (
  c.in_ok-value.ensures.same ∙ c.loop-seed.invariant.0,
  filling_step _ _ _ _ c.loop-seed.invariant.1 _ _ (omega arith)
      (numbers_next _ _ _ _ _ (omega arith) _ _ (number_got _ _ _ _ c.loop-seed.invariant.0 _ c.in_ok-value.ensures.value) (omega arith)),
)

pub returns-clause-value : goal.returns-clause-value
unfolding read_into
returns-clause-value c = filling_done _ _ _ _ c.loop-seed.invariant.1 _ (omega arith) (numbers_none _ _ _ _ _ (omega arith))
