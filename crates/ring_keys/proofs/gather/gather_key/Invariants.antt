-- `gather_key` goes layout by layout: the row that is added is that of the key that was stored.
use Rattle.ring_keys.specs.Gathered.{HashGathered}
use Rattle.ring_keys.proofs.gather.gather_key.Given as goal

abbrev pub invariant-loop-r : goal.invariant-loop-r
invariant-loop-r g l = HashGathered l.g.settings l.ring l.h l.start l.at l.size l.to l.r l.initial.work l.work
