-- A run left in the first words of the lent work: its beginning is what neighbours are looked at in, and what lies behind it is as it
-- was. Assumes nothing.
use mathlib.Core.Path.{◌≡◌, ap, ◌∙◌}
use mathlib.Core.Bool.{Bool, not}
use mathlib.Core.List.{List, ◌++◌}
use Prim.Native.Nat.{ℕ, ◌*◌, ◌≤◌}
use native.Mathlib.Omega.{arith}
use lib.ListN.{length, take, drop}
use lib.Seq.{length-take-le, length_front, take-append-le, drop_at}
use Rattle.rules.specs.Lists.{distinct}
use Rattle.sorting.specs.Runs.{Sorts, twins}
use Rattle.sorting.proofs.Twins.{sorted_twins}

module _ (keys work run : List ℕ) (room : 2 * length keys ≤ length work) (kept : length run ≡ length (take (2 * length keys) work)) where
  run_length : length run ≡ 2 * length keys
  run_length = kept ∙ length-take-le (2 * length keys) work room

  front : take (length keys) (run ++ drop (2 * length keys) work) ≡ take (length keys) run
  front = take-append-le (length keys) run (drop (2 * length keys) work) (omega (arith, run_length))

  pub answer : Sorts keys (take (length keys) run) → (r : Bool) → r ≡ twins (take (length keys) (run ++ drop (2 * length keys) work))
      → r ≡ not (distinct keys)
  answer s r e = e ∙ ap twins front ∙ sorted_twins keys (take (length keys) run) s

  pub beyond : drop (2 * length keys) (run ++ drop (2 * length keys) work) ≡ drop (2 * length keys) work
  beyond = drop_at run (drop (2 * length keys) work) (2 * length keys) run_length

  pub long : length (run ++ drop (2 * length keys) work) ≡ length work
  long = length_front work run (2 * length keys) kept
