-- Only the set of marked slots matters to the seed of a bucket, since a slot is tested by whether it is in the list; so a bitmap serves. Assumes nothing.
use mathlib.Core.Path.{◌≡◌, refl, ap}
use mathlib.Core.Bool.{Bool, not, ◌&&◌, ◌||◌}
use mathlib.Core.List.{List, [], ◌∷◌, ◌++◌}
use Prim.Native.Nat.{ℕ}
use lib.Dec.{eqb}
use Rattle.rules.specs.Lists.{elem, keep, filter, all_free}
use Rattle.rules.specs.Order.{Input}
use Rattle.rules.specs.Seed.{candidates, seed_of, fits, candidate_fits, fitting, seed_for, seed_of_least, slots_of}
use Rattle.rules.specs.Sweep.{Given, takes, given}

-- two lists with the same elements
abbrev pub SameSet : List ℕ → List ℕ → Type 0
SameSet xs ys = (x : ℕ) → elem x xs ≡ elem x ys

pub free_same : (xs ys : List ℕ) → SameSet xs ys → (zs : List ℕ) → all_free xs zs ≡ all_free ys zs
free_same xs ys h [] = refl
free_same xs ys h (z ∷ zs) = rw (h z) (ap (λ (c : Bool). not (elem z ys) && c) (free_same xs ys h zs))

pub filter_same : {A : Type 0} (p q : A → Bool) → ((a : A) → p a ≡ q a) → (zs : List A) → filter p zs ≡ filter q zs
filter_same p q h [] = refl
filter_same p q h (a ∷ zs) = rw (h a) (ap (keep (q a) a) (filter_same p q h zs))

-- the same slots put before both
pub append_same : (zs xs ys : List ℕ) → SameSet xs ys → SameSet (zs ++ xs) (zs ++ ys)
append_same [] xs ys h x = h x
append_same (z ∷ zs) xs ys h x = ap (λ (c : Bool). eqb x z || c) (append_same zs xs ys h x)

module _ (i : Input) where
  pub fits_same : (xs ys : List ℕ) → SameSet xs ys → (b v : ℕ) → fits i xs b v ≡ fits i ys b v
  unfolding fits
  fits_same xs ys h b v = rw (free_same xs ys h (slots_of i b v)) refl

  pub seed_same : (xs ys : List ℕ) → SameSet xs ys → (b : ℕ) → seed_for i xs b ≡ seed_for i ys b
  unfolding seed_for fitting candidate_fits
  seed_same xs ys h b = ap (seed_of_least i b) (filter_same (candidate_fits i xs b) (candidate_fits i ys b) (λ c. fits_same xs ys h b (seed_of i c)) (candidates i))

  -- and so of whole sweeps
  pub given_same : (bs xs ys : List ℕ) → SameSet xs ys → given i xs bs ≡ given i ys bs
  unfolding given
  given_same [] xs ys h = refl
  given_same (b ∷ bs) xs ys h =
      rw (seed_same xs ys h b)
      (ap (λ (l : List Given). record { bucket = b; seed = seed_for i ys b } ∷ l) (given_same bs (takes i b (seed_for i ys b) ++ xs) (takes i b (seed_for i ys b) ++ ys) (append_same (takes i b (seed_for i ys b)) xs ys h)))
