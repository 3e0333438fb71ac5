-- Ring and bitmap are unmarked from the last key to the first (`Unmarking`, `Clearing`); the keys lie above the ring, so nothing changes them. The measure is
-- the number of keys left. Assumes nothing.
use mathlib.Core.Path.{◌≡◌, sym, ◌∙◌}
use native.Mathlib.Omega.{arith}
use Rattle.rings.specs.PlaceLaws.{unmarking_more, unmarked_to_zero}
use Rattle.search.proofs.BothLaws.{clearing_more, cleared_none, slot_back}
use Rattle.search.proofs.settle.unmark_both.Goals as goal

pub loop-i-preserved : goal.loop-i-preserved
loop-i-preserved c = let l = c.loop-i.invariant in let h = c.loop-i-test.true in (unmarking_more c.requires.settling.shape l.0 c.requires.settling.above h (omega (arith, l.0.le)) c.slot_of-p.ensures c.unmark.ensures, clearing_more l.1 h (slot_back c.requires.settling.shape l.0 c.requires.settling.above h (omega (arith, l.0.le)) c.slot_of-p.ensures) c.clear_bit.ensures)

pub returns : goal.returns
returns c = let l = c.loop-i.invariant in let e : c.loop-i.i ≡ 0 = omega arith in (sym (unmarked_to_zero _ _ _ _ _) ∙ (rw e at l.0.is), sym (cleared_none _ _ _ _ _) ∙ (rw e at l.1.is))
