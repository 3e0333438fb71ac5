-- `decode` reads the number at a place as `decoded_at` says. What the bytes from the present place make of the present part is at each turn
-- what all of them make of no groups. Assumes nothing.
use Rattle.house_numbers.specs.Decode.{decoded_from, decoded_at}
use lib.ListN.{drop}
use mathlib.Core.Path.{◌≡◌}
use Rattle.house_numbers.proofs.decode.Given as goal

abbrev pub invariant-loop-place : goal.invariant-loop-place
invariant-loop-place l = decoded_from l.place (drop l.place l.bytes) l.part ≡ decoded_at l.bytes l.at
