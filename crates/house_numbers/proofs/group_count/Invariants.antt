-- `group_count` counts the bytes of a number: those counted and those of the rest are at each turn all of them, and one more. Assumes nothing.
use Rattle.house_numbers.specs.Encode.{encoded}
use lib.ListN.{length}
use mathlib.Core.Path.{◌≡◌}
use Prim.Native.Nat.{◌+◌, ◌^◌, ◌<◌}
use Rattle.house_numbers.proofs.group_count.Given as goal

abbrev pub invariant-loop-rest : goal.invariant-loop-rest
invariant-loop-rest l = (l.count + length (encoded l.rest) ≡ 1 + length (encoded l.value)) × (l.rest < 2 ^ 64)

abbrev pub decreases-loop-rest : goal.decreases-loop-rest
decreases-loop-rest l = l.rest
