-- `unmark_keys` unmarks from the last key to the first; the keys lie above the ring, so no mark changes them.
use Rattle.rings.specs.Parts.{part}
use Rattle.rings.specs.PlaceLaws.{Unmarking}
use Rattle.rings.proofs.place.unmark_keys.Given as goal

abbrev pub invariant-loop-i : goal.invariant-loop-i
invariant-loop-i l = Unmarking l.g l.initial.work (part l.initial.work l.at l.size) l.at l.size l.start l.j l.count l.i l.work
