use Rattle.checks.specs.Largest.{Largest}
use Prim.Native.Nat.{◌^◌, ◌<◌}
use Rattle.checks.proofs.largest_size.Given as goal

abbrev pub invariant-loop-b : goal.invariant-loop-b
invariant-loop-b l = Largest l.begins l.b l.largest × (l.largest < 2 ^ 32)
