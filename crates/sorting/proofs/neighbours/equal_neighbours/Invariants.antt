-- `sorting::neighbours::equal_neighbours` meets its contract. The invariant: whether the run has equal neighbours is whether what is left
-- to look at has. Assumes nothing.
use Rattle.std.proofs.Common.{◌≡◌}
use Rattle.std.specs.Slice.Iter.{windows_size, windows_rest}
use Rattle.sorting.specs.Runs.{twins}
use Rattle.sorting.proofs.neighbours.equal_neighbours.Given as goal

abbrev pub invariant-loop-pair : goal.invariant-loop-pair
invariant-loop-pair l = (windows_size l.pair-iterator ≡ 2) × (twins (windows_rest l.pair-iterator) ≡ twins l.run)
