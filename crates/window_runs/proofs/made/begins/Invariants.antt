-- The begins of the buckets below b are there.
use Prim.Native.Nat.{◌-◌}
use Rattle.window_runs.proofs.Grown.{Grown}
use Rattle.window_runs.proofs.made.begins.Given as goal

abbrev pub invariant-loop-b : goal.invariant-loop-b
invariant-loop-b l = Grown l.out l.x l.total (l.b - 1)
