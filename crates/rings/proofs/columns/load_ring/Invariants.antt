-- `load_ring` loads one column after another, as many as the ring has; then the ring is a cache of the bitmap from column c on.
use Rattle.rings.specs.Columns.{Cached}
use Rattle.rings.proofs.columns.load_ring.Given as goal

abbrev pub invariant-loop-k : goal.invariant-loop-k
invariant-loop-k l = Cached l.g l.work l.bitmap l.c l.k
