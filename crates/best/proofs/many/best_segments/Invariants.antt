-- The best so far is that of the rotations below `begin`; from there to the next wrap point costs never fall. The measure is n - begin. Assumes nothing.
use mathlib.Core.Path.{◌≡◌}
use Prim.Native.Nat.{◌≤◌, ◌-◌}
use Rattle.rings.specs.Keys.{cost_at}
use Rattle.best.specs.Best.{best_from}
use Rattle.best.specs.Prices.{is_free}
use Rattle.best.proofs.many.best_segments.Given as goal

abbrev pub invariant-loop-begin : goal.invariant-loop-begin
invariant-loop-begin l = (l.begin ≤ l.n) × (l.best ≡ best_from (cost_at l.g l.table l.keys) (is_free l.free) l.r l.initial.best 0 l.begin)

abbrev pub decreases-loop-begin : goal.decreases-loop-begin
decreases-loop-begin l = l.n - l.begin
