-- How often a number stands in a list. Assumes nothing.
use mathlib.Core.Path.{◌≡◌, refl, sym, ap}
use mathlib.Core.Logic.{◌⊎◌, inl, inr}
use mathlib.Core.Bool.{Bool, true, false, not, cond}
use mathlib.Core.List.{List, [], ◌∷◌, ◌++◌}
use Prim.Native.Nat.{ℕ, zero, suc, ◌+◌, ◌<◌, ◌≤◌}
use native.Mathlib.Nat.{zero-add, le_of_suc-le-suc, not-suc-le-zero}
use native.Mathlib.Omega.{arith}
use lib.Dec.{T, T_not, not_T, eqb, eqb→eq, eqb_refl}
use lib.ListN.{length, get_or, take, drop}
use lib.Seq.{split_at}
use Rattle.rules.specs.Lists.{count_from, below, elem, count, remove, indicator, keep, filter}
use Rattle.rules.proofs.Tests.{split, is_true, is_false, or_cases, or_left, or_right, not_or_left, not_or_right, neq, neq→neqb, mem_filter, elem_mem}

pub ind_true : (b : Bool) → T b → indicator b ≡ 1
ind_true true t = refl
ind_true false t = absurd t

pub ind_false : (b : Bool) → T (not b) → indicator b ≡ 0
ind_false true t = absurd t
ind_false false t = refl

pub ind_le : (b : Bool) → indicator b ≤ 1
ind_le true = omega arith
ind_le false = omega arith

pub count_append : (x : ℕ) (xs ys : List ℕ) → count x (xs ++ ys) ≡ count x xs + count x ys
count_append x [] ys = sym (zero-add (count x ys))
count_append x (y ∷ xs) ys = omega (arith, count_append x xs ys)

pub elem_count : (x : ℕ) (xs : List ℕ) → T (elem x xs) → 1 ≤ count x xs
elem_count x [] t = absurd t
elem_count x (y ∷ ys) t = go (elem_count x ys) (or_cases (eqb x y) (elem x ys) t)
  where
    go : (T (elem x ys) → 1 ≤ count x ys) → T (eqb x y) ⊎ T (elem x ys) → 1 ≤ indicator (eqb x y) + count x ys
    go ih (inl e) = omega (arith, ind_true (eqb x y) e)
    go ih (inr s) = omega (arith, ih s)

pub not_elem_count : (x : ℕ) (xs : List ℕ) → T (not (elem x xs)) → count x xs ≡ 0
not_elem_count x [] t = refl
not_elem_count x (y ∷ ys) t =
    omega (arith, ind_false (eqb x y) (not_or_left (eqb x y) (elem x ys) t), not_elem_count x ys (not_or_right (eqb x y) (elem x ys) t))

pub count_elem : (x : ℕ) (xs : List ℕ) → 1 ≤ count x xs → T (elem x xs)
count_elem x xs h = elim (split (elem x xs)) [ inl t ↦ t | inr t ↦ absurd (let z = not_elem_count x xs t in omega arith) ]

pub count_not_elem : (x : ℕ) (xs : List ℕ) → count x xs ≡ 0 → T (not (elem x xs))
count_not_elem x xs h = elim (split (elem x xs)) [ inl t ↦ absurd (let z = elem_count x xs t in omega arith) | inr t ↦ t ]

pub length_remove : (b : ℕ) (xs : List ℕ) → T (elem b xs) → suc (length (remove b xs)) ≡ length xs
length_remove b [] t = absurd t
length_remove b (y ∷ ys) t = go (split (eqb b y)) (length_remove b ys)
  where
    go : T (eqb b y) ⊎ T (not (eqb b y)) → (T (elem b ys) → suc (length (remove b ys)) ≡ length ys)
        → suc (length (cond (eqb b y) ys (y ∷ remove b ys))) ≡ suc (length ys)
    go (inl e) ih = rw (is_true (eqb b y) e) refl
    go (inr n) ih = rw (is_false (eqb b y) n) (ap suc (ih (rw (is_false (eqb b y) n) at t)))

pub count_remove : (x b : ℕ) (xs : List ℕ) → T (elem b xs) → indicator (eqb x b) + count x (remove b xs) ≡ count x xs
count_remove x b [] t = absurd t
count_remove x b (y ∷ ys) t = go (split (eqb b y)) (count_remove x b ys)
  where
    go : T (eqb b y) ⊎ T (not (eqb b y)) → (T (elem b ys) → indicator (eqb x b) + count x (remove b ys) ≡ count x ys)
        → indicator (eqb x b) + count x (cond (eqb b y) ys (y ∷ remove b ys)) ≡ indicator (eqb x y) + count x ys
    go (inl e) ih = rw (is_true (eqb b y) e) (rw (eqb→eq b y e) refl)
    go (inr n) ih = rw (is_false (eqb b y) n) (omega (arith, ih (rw (is_false (eqb b y) n) at t)))

module _ (p : ℕ → Bool) (x : ℕ) where
  pub count_filter_in : T (p x) → (xs : List ℕ) → count x (filter p xs) ≡ count x xs
  count_filter_in t [] = refl
  count_filter_in t (y ∷ ys) = go (split (p y)) (count_filter_in t ys)
    where
      differ : T (not (p y)) → T (not (eqb x y))
      differ n = not_T (eqb x y) (λ e. T_not (p y) n (rw (eqb→eq x y e) at t))

      go : T (p y) ⊎ T (not (p y)) → count x (filter p ys) ≡ count x ys → count x (keep (p y) y (filter p ys)) ≡ indicator (eqb x y) + count x ys
      go (inl k) ih = rw (is_true (p y) k) (omega arith)
      go (inr n) ih = rw (is_false (p y) n) (omega (arith, ind_false (eqb x y) (differ n)))

  pub count_filter_out : T (not (p x)) → (xs : List ℕ) → count x (filter p xs) ≡ 0
  count_filter_out n xs = not_elem_count x (filter p xs) (not_T (elem x (filter p xs)) (λ t. T_not (p x) n (mem_filter p xs (elem_mem x (filter p xs) t)).1))

pub count_from_low : (x i n : ℕ) → x < i → count x (count_from i n) ≡ 0
count_from_low x i zero h = refl
count_from_low x i (suc n) h = omega (arith, ind_false (eqb x i) (neq→neqb x i (omega arith)), count_from_low x (suc i) n (omega arith))

pub count_from_high : (x i n : ℕ) → i + n ≤ x → count x (count_from i n) ≡ 0
count_from_high x i zero h = refl
count_from_high x i (suc n) h = omega (arith, ind_false (eqb x i) (neq→neqb x i (omega arith)), count_from_high x (suc i) n (omega arith))

pub count_from_in : (x i n : ℕ) → i ≤ x → x < i + n → count x (count_from i n) ≡ 1
count_from_in x i zero h k = absurd (omega arith)
count_from_in x i (suc n) h k = go (split (eqb x i)) (count_from_in x (suc i) n)
  where
    go : T (eqb x i) ⊎ T (not (eqb x i)) → (suc i ≤ x → x < suc i + n → count x (count_from (suc i) n) ≡ 1) → indicator (eqb x i) + count x (count_from (suc i) n) ≡ 1
    go (inl e) ih = omega (arith, ind_true (eqb x i) e, count_from_low x (suc i) n (omega (arith, eqb→eq x i e)))
    go (inr m) ih = let d = neq x i m in omega (arith, ind_false (eqb x i) m, ih (omega arith) (omega arith))

pub count_below_in : (x n : ℕ) → x < n → count x (below n) ≡ 1
count_below_in x n h = count_from_in x 0 n (omega arith) (omega arith)

pub count_below_out : (x n : ℕ) → n ≤ x → count x (below n) ≡ 0
count_below_out x n h = count_from_high x 0 n (omega arith)

pub length_from : (i n : ℕ) → length (count_from i n) ≡ n
length_from i zero = refl
length_from i (suc n) = ap suc (length_from (suc i) n)

-- ---- at most once each, and below m

abbrev pub Once : List ℕ → Type 0
Once xs = (x : ℕ) → count x xs ≤ 1

abbrev pub Under : ℕ → List ℕ → Type 0
Under m xs = (x : ℕ) → T (elem x xs) → x < m

-- an entry is an element, and where nothing stands twice it does not stand before its place
pub get_d_elem : (xs : List ℕ) (k : ℕ) → k < length xs → T (elem (get_or xs k 0) xs)
get_d_elem [] k h = absurd (not-suc-le-zero h)
get_d_elem (x ∷ xs) zero h = or_left (eqb x x) (elem x xs) (eqb_refl x)
get_d_elem (x ∷ xs) (suc k) h = or_right (eqb (get_or xs k 0) x) (elem (get_or xs k 0) xs) (get_d_elem xs k (le_of_suc-le-suc h))

pub once_fresh : (xs : List ℕ) → Once xs → (k : ℕ) → k < length xs → count (get_or xs k 0) (take k xs) ≡ 0
once_fresh xs once k h =
    let b : ℕ = get_or xs k 0 in
    let s = ap (count b) (split_at xs k 0 h) in
    let one = ind_true (eqb b b) (eqb_refl b) in
    omega (arith, once b, count_append b (take k xs) (b ∷ drop (suc k) xs))
