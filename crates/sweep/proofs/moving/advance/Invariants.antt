use Rattle.rings.specs.Columns.{Caches}
use lib.ListN.{length}
use Prim.Native.Nat.{◌-◌, ◌≤◌}
use mathlib.Core.Path.{◌≡◌}
use Rattle.sweep.proofs.moving.advance.Given as goal

abbrev pub invariant-loop-at : goal.invariant-loop-at
invariant-loop-at l = (length l.work ≡ length l.initial.work) × (l.at ≤ l.to) × Caches l.ring l.work l.bitmap l.at

abbrev pub decreases-loop-at : goal.decreases-loop-at
decreases-loop-at l = l.to - l.at
