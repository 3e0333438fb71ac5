-- Ring and bitmap are unmarked from the last key to the first (`Unmarking`, `Clearing`); the keys lie above the ring, so nothing changes them. Assumes nothing.
use Rattle.rings.specs.Parts.{part}
use Rattle.rings.specs.PlaceLaws.{Unmarking}
use Rattle.search.proofs.BothLaws.{Clearing}
use Rattle.search.proofs.settle.unmark_both.Given as goal

abbrev pub invariant-loop-i : goal.invariant-loop-i
invariant-loop-i l = Unmarking l.g l.initial.work (part l.initial.work l.row.a l.row.size) l.row.a l.row.size l.row.start l.j l.count l.i l.work × Clearing l.g l.initial.bitmap (part l.initial.work l.row.a l.row.size) l.row.start l.j l.count l.i l.bitmap
