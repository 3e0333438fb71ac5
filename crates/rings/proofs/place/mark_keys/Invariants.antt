-- `mark_keys` marks key after key up to one whose slot is marked already; the keys lie above the ring, so no mark changes them.
use Rattle.rings.specs.PlaceLaws.{Marking}
use Rattle.rings.proofs.place.mark_keys.Given as goal

abbrev pub invariant-loop-i : goal.invariant-loop-i
invariant-loop-i l = Marking l.g l.initial.work l.at l.size l.start l.j l.i l.work
