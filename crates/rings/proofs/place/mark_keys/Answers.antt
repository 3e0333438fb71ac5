-- `mark_keys` marks key after key up to one whose slot is marked already; the keys lie above the ring, so no mark changes them.
use borrow.Author.Tests.{not-true, not-false}
use native.Mathlib.Omega.{arith}
use mathlib.Core.Path.{◌≡◌}
use Rattle.rings.specs.PlaceLaws.{marking_none, marking_ok, marking_met, marking_more, marking_all}
use Rattle.rings.proofs.place.mark_keys.Goals as goal

pub loop-i-init : goal.loop-i-init
loop-i-init c = marking_none _ _ _ _ _ _

pub slot_of-p-requires : goal.slot_of-p-requires
slot_of-p-requires c =
    record {
      shape = c.requires.shape;
      key = marking_ok c.requires.shape c.loop-i.invariant c.requires.words_le_at.0 c.loop-i-test.true c.requires.words_le_at.1 c.requires.keys;
      start_bound = c.requires.start_bound;
    }

pub returns-then-not-take_slot : goal.returns-then-not-take_slot
returns-then-not-take_slot c =
    marking_met c.requires.shape c.loop-i.invariant c.requires.words_le_at.0 c.loop-i-test.true c.slot_of-p.ensures c.take_slot.ensures (not-true _ c.if-not-take_slot.true-raw)

pub loop-i-preserved : goal.loop-i-preserved
loop-i-preserved c =
    marking_more c.requires.shape c.loop-i.invariant c.requires.words_le_at.0 c.loop-i-test.true c.slot_of-p.ensures c.take_slot.ensures (not-false _ c.if-not-take_slot.false-raw)

pub returns : goal.returns
returns c =
    let e : c.loop-i.i ≡ c.args.size = omega arith in
    rw e at (marking_all c.loop-i.invariant c.loop-i-test.false)
