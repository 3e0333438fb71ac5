-- How many holes there are. The total so far and the holes from word w on make all of them, and one turn moves a free word's ones across.
use Prim.Native.Nat.{◌+◌}
use mathlib.Core.Path.{◌≡◌}
use lib.ListN.{length}
use Rattle.rules.specs.Holes.{holes_of}
use Rattle.holes.proofs.Walk.{rest_from}
use Rattle.holes.proofs.count_holes.Given as goal

abbrev pub invariant-loop-w : goal.invariant-loop-w
invariant-loop-w l = l.total + length (rest_from l.m l.bitmap l.w) ≡ length (holes_of l.m l.bitmap)
