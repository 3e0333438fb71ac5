-- `is_occupied` reads the last bit of the word shifted down by p % 64, which is the slot.
-- Assumes nothing.
use Rattle.words.specs.MapLaws.{test_slot}
use Rattle.words.proofs.is_occupied.Goals as goal

pub returns : goal.returns
returns c = test_slot c.args.bits.now c.args.p
