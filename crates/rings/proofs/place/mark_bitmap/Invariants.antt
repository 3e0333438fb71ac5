-- `mark_bitmap` marks key after key in the bitmap.
use Rattle.rings.specs.PlaceLaws.{Mapping}
use Rattle.rings.proofs.place.mark_bitmap.Given as goal

abbrev pub invariant-loop-d : goal.invariant-loop-d
invariant-loop-d l = Mapping l.g l.initial.bitmap l.keys l.start l.j l.d-index l.bitmap
