-- `or_ring` adds word after word: k is the ring's word with which the next begins, low is what the ring has there, and the word after it is read.
use Rattle.rings.specs.StreamLaws.{Streaming}
use Rattle.rings.proofs.stream.or_ring.Given as goal

abbrev pub invariant-loop-i : goal.invariant-loop-i
invariant-loop-i l = Streaming l.g l.initial.work l.first l.x l.to l.i l.k l.low l.work
