-- `bit_of` gives the slot's bit, by its definition.
use borrow.Author.Rules.{rules}
use Rattle.rings.specs.Ring.{bit_of}
use Rattle.rings.proofs.slots.bit_of.Goals as goal

pub returns : goal.returns
unfolding bit_of
returns c = search rules
