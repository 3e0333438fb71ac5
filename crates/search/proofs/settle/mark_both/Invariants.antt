-- Ring and bitmap are marked key after key (`Marking`, `Mapping`), up to a key whose slot the ring has marked already; the keys lie above the ring, so no mark
-- changes them. Assumes nothing.
use Rattle.rings.specs.Parts.{part}
use Rattle.rings.specs.PlaceLaws.{Marking, Mapping}
use Rattle.search.proofs.settle.mark_both.Given as goal

abbrev pub invariant-loop-i : goal.invariant-loop-i
invariant-loop-i l = Marking l.g l.initial.work l.row.a l.row.size l.row.start l.j l.i l.work × Mapping l.g l.initial.bitmap (part l.initial.work l.row.a l.row.size) l.row.start l.j l.i l.bitmap
