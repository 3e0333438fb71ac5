use Rattle.sweep.proofs.CountLaws.{counts_at}
use Rattle.sweep.specs.Counting.{Counted}
use Prim.Native.Nat.{◌*◌, ◌≤◌}
use Rattle.sweep.proofs.counting.counted.Given as goal

abbrev pub invariant-loop-b : goal.invariant-loop-b
invariant-loop-b l = Counted l.begins l.seeds l.b (counts_at l.placed l.bumped l.zero) × (l.placed ≤ l.b * 4294967296) × (l.bumped ≤ l.b * 4294967296) × (l.zero ≤ l.b)
