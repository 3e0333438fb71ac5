-- `fill_free` begins with the barred rotation, adds key after key to the words of all layouts, and turns the words over.
use Rattle.rings.specs.StreamLaws.{Keyed}
use Rattle.rings.proofs.free.fill_free.Given as goal

abbrev pub invariant-loop-i : goal.invariant-loop-i
invariant-loop-i l = Keyed l.g l.initial.work l.at l.size l.layouts l.start l.to l.count l.i l.work
