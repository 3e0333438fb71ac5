-- The numbers kept and the scan are at each turn those of the bytes read so far, so that what is printed is their listing.
-- Assumes nothing.
use Rattle.listing.specs.Fed.{Fed}
use mathlib.Core.Path.{◌≡◌}
use lib.ListN.{length}
use Rattle.sweep_list.proofs.main.Given as goal

abbrev pub invariant-loop : goal.invariant-loop
invariant-loop l = Fed l.scan l.numbers × (length l.buffer ≡ 65536)
