-- `split` takes the groups apart as `hashes_of` and `begins_of` say: each turn keeps `Splitting`. Assumes nothing.
use Rattle.list_input.specs.SplitLaws.{Splitting}
use Prim.Native.Nat.{◌+◌}
use Rattle.list_input.proofs.asked.split.Given as goal

abbrev pub invariant-loop-n : goal.invariant-loop-n
invariant-loop-n l = Splitting l.ns l.initial.hashes l.initial.begins l.hashes l.begins l.h l.b l.keys (13 + l.n-index)
