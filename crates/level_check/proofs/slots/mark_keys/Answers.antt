-- The scratch marks what has been met (`Marking`), so a bit that is set is a slot that is met again.
use Rattle.level_check.proofs.Marking.{next, hit, done}
use mathlib.Core.Path.{sym, ◌∙◌}
use native.Mathlib.Omega.{arith}
use Rattle.level_check.proofs.slots.mark_keys.Goals as goal

pub returns-then-is_occupied : goal.returns-then-is_occupied
returns-then-is_occupied c =
    hit _ _ _ _ c.loop-key.key-index _ (omega arith) _
    c.position-x.ensures.0 c.position-x.ensures.1
    c.loop-key.invariant (sym c.is_occupied.ensures ∙ c.if-is_occupied.true)

pub loop-key-preserved : goal.loop-key-preserved
loop-key-preserved c =
    next _ _ _ _ c.loop-key.key-index _ (omega arith) _ c.position-x.ensures.0 c.position-x.ensures.1 c.loop-key.invariant _ c.set_bit.ensures (sym c.is_occupied.ensures ∙ c.if-is_occupied.false)

pub returns : goal.returns
returns c = done _ _ _ _ c.loop-key.key-index _ (omega arith) c.loop-key.invariant
