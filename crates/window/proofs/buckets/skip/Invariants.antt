-- None of the buckets that the loop has passed has keys.
use Rattle.groups.specs.Groups.{size_in}
use Prim.Native.Nat.{ℕ, ◌≤◌, ◌<◌}
use mathlib.Core.Path.{◌≡◌}
use Rattle.window.proofs.buckets.skip.Given as goal

abbrev pub invariant-loop-b : goal.invariant-loop-b
invariant-loop-b l = (x : ℕ) → l.from ≤ x → x < l.b → size_in l.begins x ≡ 0
