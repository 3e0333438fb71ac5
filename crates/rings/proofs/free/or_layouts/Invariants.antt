-- `or_layouts` adds a key to layout after layout: the words stand above the keys and the ring, and each layout has its own.
use Prim.Native.Nat.{◌+◌}
use Rattle.rings.specs.Stream.{LayoutsAdded}
use Rattle.rings.proofs.free.or_layouts.Given as goal

abbrev pub invariant-loop-r : goal.invariant-loop-r
invariant-loop-r l = LayoutsAdded l.g l.initial.work (l.at + l.i) l.size l.start l.to l.count l.r l.work
