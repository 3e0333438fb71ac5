-- The words before the index are turned over, and their bits are counted.
use Rattle.rings.specs.Blocked.{TurnedOver}
use Rattle.rings.proofs.free.turn_over.Given as goal

abbrev pub invariant-loop-word : goal.invariant-loop-word
invariant-loop-word l = TurnedOver l.initial.word-items 0 l.word-index l.own l.total l.word-items
