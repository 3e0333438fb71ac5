-- The set has the points of the keys below i (`Pointing`), which lie below the set and stay.
use Rattle.best.specs.WrapLaws.{Pointing}
use Rattle.best.proofs.wraps.fill_wraps.Given as goal

abbrev pub invariant-loop-i : goal.invariant-loop-i
invariant-loop-i l = Pointing l.g l.initial.work l.at l.size l.up l.count l.i l.work
