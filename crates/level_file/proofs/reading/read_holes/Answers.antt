-- `read_holes`: as `read_seeds`, with the hole before and the least difference as what goes on. Assumes nothing.
use Rattle.level_file.proofs.FillLaws.{filling_start, filling_step, filling_refused, filling_done, number_got, number_no, holes_next, holes_low, holes_high, holes_no, holes_start, holes_none}
use Rattle.level_file.specs.Reading.{read_into}
use Rattle.std.proofs.lemmas.Result.{err_from_is_err_and}
use mathlib.Core.Path.{refl, ◌∙◌}
use native.Mathlib.Omega.{arith}
use Rattle.level_file.proofs.reading.read_holes.Goals as goal
use Rattle.level_file.proofs.reading.read_holes.Goals.{then-value-least-via-then-value-least, then-value-least-via-else-value-least+then-value-m}

pub loop-hole-init : goal.loop-hole-init
loop-hole-init c = (refl, filling_start _ _ _ (holes_start _ _ _ _), omega arith)

pub returns-in_err-value-clause-value : goal.returns-in_err-value-clause-value
unfolding read_into
returns-in_err-value-clause-value c =
    let p = err_from_is_err_and c.from_residual.result c.from_residual.ensures.1 in
    rw (p.1, p.2) (filling_refused _ _ _ _ c.loop-hole.invariant.1 _ (holes_no _ _ _ _ _ _ _ (omega arith) _ (number_no _ _ _ _ c.loop-hole.invariant.0 _ c.in_err-value.ensures.value)))

pub returns-then-value-least-clause-value : goal.returns-then-value-least-clause-value
unfolding read_into
returns-then-value-least-clause-value c =
    let e = number_got _ _ _ _ c.loop-hole.invariant.0 _ c.in_ok-value.ensures.value in
    elim c.then-value-least.branch [
      | then-value-least-via-then-value-least w ↦ filling_refused _ _ _ _ c.loop-hole.invariant.1 24 (holes_low _ _ _ _ _ _ _ (omega arith) _ _ e w.if-value-least.true)
      | then-value-least-via-else-value-least+then-value-m w ↦ filling_refused _ _ _ _ c.loop-hole.invariant.1 24 (holes_high _ _ _ _ _ _ _ (omega arith) _ _ e w.if-value-least.false w.if-value-m.true)
    ]

pub loop-hole-preserved : goal.loop-hole-preserved
loop-hole-preserved c = (
  c.in_ok-value.ensures.same ∙ c.loop-hole.invariant.0,
  filling_step _ _ _ _ c.loop-hole.invariant.1 _ _ (omega arith)
      (holes_next _ _ _ _ _ _ _ (omega arith) _ _ (number_got _ _ _ _ c.loop-hole.invariant.0 _ c.in_ok-value.ensures.value) (omega arith) (omega arith)),
  omega arith,
)

pub returns-clause-value : goal.returns-clause-value
unfolding read_into
returns-clause-value c = filling_done _ _ _ _ c.loop-hole.invariant.1 _ (omega arith) (holes_none _ _ _ _ _ _ _ (omega arith))
