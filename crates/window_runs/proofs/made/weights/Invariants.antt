-- The weights so far lie within their bounds.
use Rattle.window.specs.Key.{Within}
use lib.ListN.{length}
use Prim.Native.Nat.{◌<◌}
use mathlib.Core.Path.{◌≡◌}
use Rattle.window_runs.proofs.made.weights.Given as goal

abbrev pub invariant-loop-k : goal.invariant-loop-k
invariant-loop-k l = (length l.w ≡ 7) × ((l.x < 2147483648) × Within l.w)
