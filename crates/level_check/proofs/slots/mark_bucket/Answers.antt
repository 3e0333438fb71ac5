-- A seed of 0 has no slots, and any other its keys' positions.
use Rattle.level_check.proofs.Walking.{met_none, met_as, slots_some}
use mathlib.Core.Path.{refl}
use Rattle.level_check.proofs.slots.mark_bucket.Goals as goal

pub returns-then-seed-ne0 : goal.returns-then-seed-ne0
returns-then-seed-ne0 c = met_as c.mark_keys.ensures (slots_some _ _ _ c.if-seed-ne0.true) refl

pub returns-else-seed-ne0 : goal.returns-else-seed-ne0
returns-else-seed-ne0 c = met_as (met_none _ _ _ _ _ c.if-seed-ne0.false) refl (rw c.if-seed-ne0.false refl)
