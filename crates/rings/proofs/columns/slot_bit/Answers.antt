-- The slot's bit, by its definition, or 0 past the bitmap's end.
use Rattle.std.proofs.Common.{rules}
use Rattle.words.specs.Bit.{bit}
use Rattle.words.specs.Map.{slot}
use Rattle.rings.proofs.columns.slot_bit.Goals as goal

pub returns : goal.returns
unfolding slot bit
returns c = search rules
