-- `unmark_keys` unmarks from the last key to the first; the keys lie above the ring, so no mark changes them.
use native.Mathlib.Omega.{arith}
use mathlib.Core.Path.{◌≡◌, sym, ◌∙◌}
use Rattle.rings.specs.PlaceLaws.{unmarking_more, unmarked_to_zero}
use Rattle.rings.proofs.place.unmark_keys.Goals as goal

pub loop-i-preserved : goal.loop-i-preserved
loop-i-preserved c =
    unmarking_more c.requires.shape c.loop-i.invariant c.requires.words_le_at.0 c.loop-i-test.true (omega arith) c.slot_of-p.ensures c.unmark.ensures

pub returns : goal.returns
returns c =
    let e : c.loop-i.i ≡ 0 = omega arith in
    sym (unmarked_to_zero _ _ _ _ _) ∙ (rw e at c.loop-i.invariant.is)
