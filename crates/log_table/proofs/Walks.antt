-- Tests of a whole list, one place after the other, and what they say of each place. Assumes nothing.
use mathlib.Core.Path.{◌≡◌, refl, sym, ap, ◌∙◌, subst}
use mathlib.Core.Bool.{Bool, true, false, ◌&&◌}
use mathlib.Core.List.{List, [], ◌∷◌}
use Prim.Native.Nat.{ℕ, zero, suc, ◌+◌, ◌*◌, ◌<◌}
use native.Mathlib.Nat.{add-zero, add-suc, suc-add, le_of_suc-le-suc, not-suc-le-zero}
use native.Mathlib.Omega.{arith}
use lib.Dec.{T}
use lib.ListN.{length, get_or}

pub both_left : (a b : Bool) → T (a && b) → T a
both_left true b t = tt
both_left false b t = absurd t

pub both_right : (a b : Bool) → T (a && b) → T b
both_right true b t = t
both_right false b t = absurd t

-- a test at each place, from i on, of one list; and of two lists as far as both go
unfoldable pub each : (ℕ → ℕ → Bool) → ℕ → List ℕ → Bool
each f i [] = true
each f i (x ∷ xs) = f i x && each f (suc i) xs

unfoldable pub pairs : (ℕ → ℕ → ℕ → Bool) → ℕ → List ℕ → List ℕ → Bool
pairs f i [] ys = true
pairs f i (x ∷ xs) [] = true
pairs f i (x ∷ xs) (y ∷ ys) = f i x y && pairs f (suc i) xs ys

-- the entries at even places
unfoldable pub evens : List ℕ → List ℕ
evens [] = []
evens (x ∷ []) = x ∷ []
evens (x ∷ y ∷ xs) = x ∷ evens xs

pub each_at : (f : ℕ → ℕ → Bool) (i : ℕ) (xs : List ℕ) → T (each f i xs) → (k : ℕ) → k < length xs → T (f (i + k) (get_or xs k 0))
unfolding each
each_at f i [] t k h = absurd (not-suc-le-zero h)
each_at f i (x ∷ xs) t zero h = rw (add-zero i) (both_left (f i x) (each f (suc i) xs) t)
each_at f i (x ∷ xs) t (suc k) h =
    subst (λ (m : ℕ). T (f m (get_or xs k 0))) (suc-add i k ∙ sym (add-suc i k)) (each_at f (suc i) xs (both_right (f i x) (each f (suc i) xs) t) k (le_of_suc-le-suc h))

pub pairs_at : (f : ℕ → ℕ → ℕ → Bool) (i : ℕ) (xs ys : List ℕ) → T (pairs f i xs ys) → (k : ℕ) → k < length xs → k < length ys → T (f (i + k) (get_or xs k 0) (get_or ys k 0))
unfolding pairs
pairs_at f i [] ys t k h g = absurd (not-suc-le-zero h)
pairs_at f i (x ∷ xs) [] t k h g = absurd (not-suc-le-zero g)
pairs_at f i (x ∷ xs) (y ∷ ys) t zero h g = rw (add-zero i) (both_left (f i x y) (pairs f (suc i) xs ys) t)
pairs_at f i (x ∷ xs) (y ∷ ys) t (suc k) h g =
    subst (λ (m : ℕ). T (f m (get_or xs k 0) (get_or ys k 0))) (suc-add i k ∙ sym (add-suc i k))
    (pairs_at f (suc i) xs ys (both_right (f i x y) (pairs f (suc i) xs ys) t) k (le_of_suc-le-suc h) (le_of_suc-le-suc g))

next : (k : ℕ) → 2 * suc k ≡ suc (suc (2 * k))
next k = omega arith

pub evens_at : (xs : List ℕ) (k : ℕ) → get_or (evens xs) k 0 ≡ get_or xs (2 * k) 0
unfolding evens
evens_at [] k = refl
evens_at (x ∷ []) zero = refl
evens_at (x ∷ []) (suc k) = rw (next k) refl
evens_at (x ∷ y ∷ xs) zero = refl
evens_at (x ∷ y ∷ xs) (suc k) = rw (next k) (evens_at xs k)

pub evens_length : (xs : List ℕ) (n : ℕ) → length xs ≡ n + n → length (evens xs) ≡ n
unfolding evens
evens_length [] n e = omega arith
evens_length (x ∷ []) n e = absurd (omega arith)
evens_length (x ∷ y ∷ xs) zero e = absurd (omega arith)
evens_length (x ∷ y ∷ xs) (suc n) e = ap suc (evens_length xs n (omega arith))
