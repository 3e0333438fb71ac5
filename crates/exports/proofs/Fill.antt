-- A loop that writes a function of each number of a list into its place of another list of that length. What is written after i turns is the kit's `paste`;
-- here are its turn and its end. Assumes nothing.
use mathlib.Core.Path.{◌≡◌, sym, ap, ap₂, ◌∙◌}
use mathlib.Core.List.{List, [], ◌++◌, map, append-nil}
use Prim.Native.Nat.{ℕ, ◌+◌, ◌≤◌, ◌<◌}
use native.Mathlib.Nat.{zero-add}
use native.Mathlib.Numerals.{add-one}
use native.Mathlib.Omega.{arith}
use lib.ListN.{length, get_or, set, take, drop, length-map, drop_of_length-le, get_or-map}
use lib.Seq.{paste, paste-suc, length-paste, take_all}

module _ (f : ℕ → ℕ) (xs into : List ℕ) (same : length into ≡ length xs) where
  pub filled_length : (i : ℕ) → i ≤ length xs → length (paste into 0 (map f xs) i) ≡ length into
  filled_length i h = length-paste into 0 (map f xs) i (omega arith) (omega (arith, length-map xs f))

  pub filled_more : (i : ℕ) → i < length xs → set (paste into 0 (map f xs) i) i (f (get_or xs i 0)) ≡ paste into 0 (map f xs) (i + 1)
  filled_more i h =
      ap₂ (λ (k v : ℕ). set (paste into 0 (map f xs) i) k v) (sym (zero-add i)) (sym (get_or-map f xs i 0))
      ∙ paste-suc into 0 (map f xs) i (f 0) (omega arith) (omega (arith, length-map xs f))
      ∙ ap (λ (k : ℕ). paste into 0 (map f xs) k) (sym (add-one i))

  pub filled_all : (i : ℕ) → length xs ≤ i → paste into 0 (map f xs) i ≡ map f xs
  filled_all i h =
      let all : take i (map f xs) ≡ map f xs = take_all i (map f xs) (omega (arith, length-map xs f)) in
      let none : drop (0 + i) into ≡ [] = drop_of_length-le into {i = 0 + i} (omega arith) in
      ap₂ (λ (a z : List ℕ). a ++ z) all none ∙ append-nil (map f xs)
