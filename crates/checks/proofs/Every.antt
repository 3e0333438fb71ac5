-- A test of every element, as a loop meets it: it is true where each element passes, and false where one fails. Assumes nothing.
use mathlib.Core.Path.{◌≡◌, refl, ap, ◌∙◌, subst}
use mathlib.Core.Logic.{inl, inr}
use mathlib.Core.Bool.{Bool, true, false, not, ◌&&◌, ◌||◌}
use mathlib.Core.List.{List, [], ◌∷◌}
use Prim.Native.Nat.{ℕ, zero, suc, ◌<◌}
use native.Mathlib.Omega.{arith}
use Rattle.std.proofs.Math.Numerals.{add-one}
use Rattle.std.specs.List.{list_any, range_with_len}
use lib.Dec.{T}
use lib.ListN.{length, get_or}
use Rattle.rules.specs.Lists.{every, count_from, below}
use Rattle.rules.proofs.Tests.{split, is_true, is_false, of_true}
use Rattle.rules.proofs.Ranges.{every_below, below_every}

-- a test that one case would make absurd is false
refuted : (t : Bool) → (T t → ⊥) → t ≡ false
refuted t never = elim (split t) [ inl y ↦ absurd (never y) | inr n ↦ is_false t n ]

-- nothing and false
pub never : (a : Bool) → (a && false) ≡ false
never true = refl
never false = refl

-- one of a list fails exactly where not every one passes
either : (a b : Bool) → (not a || not b) ≡ not (a && b)
either true b = refl
either false b = refl

pub some_fails : {A : Type 0} (p : A → Bool) (xs : List A) → list_any (λ x. not (p x)) xs ≡ not (every p xs)
some_fails p [] = refl
some_fails p (x ∷ xs) = ap (λ t. not (p x) || t) (some_fails p xs) ∙ either (p x) (every p xs)

-- the numbers that a range yields
range_from : (n a : ℕ) → range_with_len a n ≡ count_from a n
range_from zero a = refl
range_from (suc n) a = rw add-one (ap (λ xs. a ∷ xs) (range_from n (suc a)))

pub some_below : (p : ℕ → Bool) (n : ℕ) → list_any (λ k. not (p k)) (range_with_len 0 n) ≡ not (every p (below n))
some_below p n = rw (range_from n 0) (some_fails p (below n))

-- over the numbers below n
module _ (p : ℕ → Bool) (n : ℕ) where
  pub every_each : ((k : ℕ) → k < n → p k ≡ true) → every p (below n) ≡ true
  every_each h = is_true (every p (below n)) (below_every p n (λ k l. of_true (h k l)))

  pub every_fails : (k : ℕ) → k < n → p k ≡ false → every p (below n) ≡ false
  every_fails k l e = refuted (every p (below n)) (λ t. subst T e (every_below p n t k l))

  pub every_at : every p (below n) ≡ true → (k : ℕ) → k < n → p k ≡ true
  every_at e k l = is_true (p k) (every_below p n (of_true e) k l)

-- over a list, by index
module _ {A : Type 0} (p : A → Bool) (d : A) where
  pub every_list : (xs : List A) → ((k : ℕ) → k < length xs → p (get_or xs k d) ≡ true) → every p xs ≡ true
  every_list [] h = refl
  every_list (x ∷ xs) h = rw (h 0 (omega arith)) (every_list xs (λ k l. h (suc k) (omega arith)))

-- a test, from the answer that it fails
pub fails : (t : Bool) → true ≡ not t → t ≡ false
fails true e = e
fails false e = refl
