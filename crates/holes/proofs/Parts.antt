-- A count in two parts, the filter of a list in two parts, and its length. Each goes by induction on the list or the count.
-- Assumes nothing.
use mathlib.Core.Path.{◌≡◌, refl, sym, ap, ◌∙◌}
use mathlib.Core.List.{List, [], ◌∷◌, ◌++◌}
use mathlib.Core.Bool.{Bool, true, false}
use Prim.Native.Nat.{ℕ, zero, suc, ◌+◌, ◌≤◌}
use native.Mathlib.Omega.{arith}
use native.Mathlib.Nat.{suc-add, add-suc, add-zero, zero-add}
use lib.ListN.{length}
use Rattle.rules.specs.Lists.{count_from, keep, filter}

pub from_append : (i a b : ℕ) → count_from i (a + b) ≡ count_from i a ++ count_from (i + a) b
from_append i zero b = rw (zero-add, add-zero) refl
from_append i (suc a) b =
    rw suc-add (ap (λ (l : List ℕ). i ∷ l) (from_append (suc i) a b ∙ ap (λ (x : ℕ). count_from (suc i) a ++ count_from x b) (suc-add i a ∙ sym (add-suc i a))))

module _ {A : Type 0} where
  keep_append : (t : Bool) (x : A) (xs ys : List A) → keep t x (xs ++ ys) ≡ keep t x xs ++ ys
  keep_append true x xs ys = refl
  keep_append false x xs ys = refl

  keep_length : (t : Bool) (x : A) (xs : List A) (n : ℕ) → length xs ≤ n → length (keep t x xs) ≤ suc n
  keep_length true x xs n h = omega arith
  keep_length false x xs n h = omega arith

  module _ (p : A → Bool) where
    pub filter_append : (xs ys : List A) → filter p (xs ++ ys) ≡ filter p xs ++ filter p ys
    filter_append [] ys = refl
    filter_append (x ∷ xs) ys = ap (keep (p x) x) (filter_append xs ys) ∙ keep_append (p x) x (filter p xs) (filter p ys)

    pub filter_length : (xs : List A) → length (filter p xs) ≤ length xs
    filter_length [] = omega arith
    filter_length (x ∷ xs) = keep_length (p x) x (filter p xs) (length xs) (filter_length xs)
