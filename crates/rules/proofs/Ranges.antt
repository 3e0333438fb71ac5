-- The numbers of a range, what is mapped over them, and tests that pass at each of them. Assumes nothing.
use mathlib.Core.Path.{◌≡◌, refl, sym, ap, ◌∙◌, subst}
use mathlib.Core.Logic.{◌⊎◌, inl, inr}
use mathlib.Core.Bool.{Bool, not}
use mathlib.Core.List.Memᴰ
use mathlib.Core.List.{List, [], ◌∷◌, map, Memᴰ}
use Prim.Native.Nat.{ℕ, zero, suc, ◌+◌, ◌<◌}
use native.Mathlib.Nat.{add-zero, zero-add, le_of_suc-le-suc, not-suc-le-zero}
use native.Mathlib.Omega.{arith}
use lib.Dec.{T, eqb, ltb, eqb→eq, ltb→lt, nltb→le}
use lib.ListN.{length, get_or, length-map}
use Rattle.rules.specs.Lists.{below, count_from, elem, every}
use Rattle.rules.proofs.Tests.{split, and_left, and_right, and_both, or_cases, elem_mem, mem_elem}
use Rattle.rules.proofs.Counting.{count_elem, count_below_in, count_below_out, elem_count, length_from}

pub mem_below : (x n : ℕ) → x < n → Memᴰ x (below n)
mem_below x n h = elem_mem x (below n) (count_elem x (below n) (omega (arith, count_below_in x n h)))

pub below_mem : (x n : ℕ) → Memᴰ x (below n) → x < n
below_mem x n m = go (split (ltb x n))
  where
    go : T (ltb x n) ⊎ T (not (ltb x n)) → x < n
    go (inl t) = ltb→lt x n t
    go (inr t) = absurd (let z = count_below_out x n (nltb→le x n t) in let y = elem_count x (below n) (mem_elem m) in omega arith)

pub below_elem : (x n : ℕ) → T (elem x (below n)) → x < n
below_elem x n t = below_mem x n (elem_mem x (below n) t)

-- entry k of what is mapped over a range
pub get_d_from : {A : Type 0} (f : ℕ → A) (d : A) (i n k : ℕ) → k < n → get_or (map f (count_from i n)) k d ≡ f (i + k)
get_d_from f d i zero k h = absurd (not-suc-le-zero h)
get_d_from f d i (suc n) zero h = ap f (sym (add-zero i))
get_d_from f d i (suc n) (suc k) h = get_d_from f d (suc i) n k (le_of_suc-le-suc h) ∙ ap f (omega arith)

pub get_d_below : {A : Type 0} (f : ℕ → A) (d : A) (n k : ℕ) → k < n → get_or (map f (below n)) k d ≡ f k
get_d_below f d n k h = get_d_from f d 0 n k h ∙ ap f (zero-add k)

pub length_below : {A : Type 0} (f : ℕ → A) (n : ℕ) → length (map f (below n)) ≡ n
length_below f n = length-map (below n) f ∙ length_from 0 n

-- ---- tests

pub every_at : {A : Type 0} (p : A → Bool) (xs : List A) → T (every p xs) → (x : A) → Memᴰ x xs → T (p x)
every_at p [] t x m = absurd (Memᴰ.not-nil m)
every_at {A} p (y ∷ ys) t x m = elim (Memᴰ.cases_cons m)
    [ inl e ↦ subst (λ (a : A). T (p a)) (sym e) (and_left (p y) (every p ys) t) | inr k ↦ every_at p ys (and_right (p y) (every p ys) t) x k ]

pub at_every : {A : Type 0} (p : A → Bool) (xs : List A) → ((x : A) → Memᴰ x xs → T (p x)) → T (every p xs)
at_every p [] h = tt
at_every p (y ∷ ys) h = and_both (p y) (every p ys) (h y (Memᴰ.head refl)) (at_every p ys (λ x m. h x (Memᴰ.tail m)))

pub every_below : (p : ℕ → Bool) (n : ℕ) → T (every p (below n)) → (k : ℕ) → k < n → T (p k)
every_below p n t k h = every_at p (below n) t k (mem_below k n h)

pub below_every : (p : ℕ → Bool) (n : ℕ) → ((k : ℕ) → k < n → T (p k)) → T (every p (below n))
below_every p n h = at_every p (below n) (λ k m. h k (below_mem k n m))

-- by entries, where the test passes at the default too
pub every_get_d : {A : Type 0} (p : A → Bool) (d : A) (xs : List A) → T (every p xs) → T (p d) → (k : ℕ) → T (p (get_or xs k d))
every_get_d p d [] t h k = h
every_get_d p d (x ∷ xs) t h zero = and_left (p x) (every p xs) t
every_get_d p d (x ∷ xs) t h (suc k) = every_get_d p d xs (and_right (p x) (every p xs) t) h k

pub get_d_every : {A : Type 0} (p : A → Bool) (d : A) (xs : List A) → ((k : ℕ) → T (p (get_or xs k d))) → T (every p xs)
get_d_every p d [] h = tt
get_d_every p d (x ∷ xs) h = and_both (p x) (every p xs) (h 0) (get_d_every p d xs (λ k. h (suc k)))

-- an element is an entry
pub elem_get_d : (P : ℕ → Type 0) (xs : List ℕ) → ((k : ℕ) → P (get_or xs k 0)) → (x : ℕ) → T (elem x xs) → P x
elem_get_d P [] h x t = absurd t
elem_get_d P (y ∷ ys) h x t = elim (or_cases (eqb x y) (elem x ys) t) [ inl e ↦ subst P (sym (eqb→eq x y e)) (h 0) | inr u ↦ elem_get_d P ys (λ k. h (suc k)) x u ]
