-- `put_groups` stores the bytes of a number one after the other: storing the rest from the present place on gives at each turn what
-- storing all of them gives. Assumes nothing.
use Rattle.house_numbers.specs.Encode.{encoded}
use lib.Seq.{sets}
use lib.ListN.{length}
use mathlib.Core.Path.{◌≡◌}
use Prim.Native.Nat.{◌+◌, ◌^◌, ◌<◌}
use Rattle.house_numbers.proofs.put_groups.Given as goal

abbrev pub invariant-loop-rest : goal.invariant-loop-rest
invariant-loop-rest l = (l.place + length (encoded l.rest) ≡ l.at + length (encoded l.value)) × (length l.out ≡ length l.initial.out) × (sets l.out l.place (encoded l.rest) ≡ sets l.initial.out l.at (encoded l.value)) × (l.rest < 2 ^ 64)

abbrev pub decreases-loop-rest : goal.decreases-loop-rest
decreases-loop-rest l = l.rest
