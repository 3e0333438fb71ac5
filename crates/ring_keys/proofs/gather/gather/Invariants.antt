-- `gather` goes hash by hash between the two calls that begin and finish the free words; what is left is the laws of the pass.
use Rattle.ring_keys.specs.GatherLaws.{Gathering}
use Rattle.ring_keys.proofs.gather.gather.Given as goal

abbrev pub invariant-loop-i : goal.invariant-loop-i
invariant-loop-i g l = Gathering l.g.settings l.ring l.hashes l.start l.at l.to l.i l.initial.work l.work
