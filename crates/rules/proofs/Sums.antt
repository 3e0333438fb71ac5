-- Sums over a list: two lists with the same counts have the same sums, so the same lengths. Assumes nothing.
use mathlib.Core.Path.{◌≡◌, refl, sym, ap, ◌∙◌}
use mathlib.Core.Logic.{◌⊎◌, inl, inr}
use mathlib.Core.Bool.{Bool, not, cond}
use mathlib.Core.List.{List, [], ◌∷◌, ◌++◌, append_assoc}
use Prim.Native.Nat.{ℕ, ◌+◌, ◌≤◌}
use native.Mathlib.Omega.{arith}
use lib.Dec.{T, eqb, eqb→eq, eqb_refl}
use lib.ListN.{length, length-append}
use Rattle.rules.specs.Lists.{elem, count, remove, keep, filter, concat_map, total}
use Rattle.rules.proofs.Tests.{split, is_true, is_false, or_left, or_right}
use Rattle.rules.proofs.Counting.{ind_true, count_append, count_elem, count_remove}

-- the same numbers, each as often
abbrev pub Same : List ℕ → List ℕ → Type 0
Same xs ys = (x : ℕ) → count x xs ≡ count x ys

pub total_congr : (f g : ℕ → ℕ) (xs : List ℕ) → ((x : ℕ) → T (elem x xs) → f x ≡ g x) → total f xs ≡ total g xs
total_congr f g [] h = refl
total_congr f g (x ∷ xs) h = omega (arith, h x (or_left (eqb x x) (elem x xs) (eqb_refl x)), total_congr f g xs (λ y t. h y (or_right (eqb y x) (elem y xs) t)))

pub total_le : (f g : ℕ → ℕ) (xs : List ℕ) → ((x : ℕ) → f x ≤ g x) → total f xs ≤ total g xs
total_le f g [] h = omega arith
total_le f g (x ∷ xs) h = omega (arith, h x, total_le f g xs h)

pub total_append : (f : ℕ → ℕ) (xs ys : List ℕ) → total f (xs ++ ys) ≡ total f xs + total f ys
total_append f [] ys = omega arith
total_append f (x ∷ xs) ys = omega (arith, total_append f xs ys)

-- two sums at once
pub total_add : (f g : ℕ → ℕ) (xs : List ℕ) → total f xs + total g xs ≡ total (λ (x : ℕ). f x + g x) xs
total_add f g [] = refl
total_add f g (x ∷ xs) = omega (arith, total_add f g xs)

total_remove : (f : ℕ → ℕ) (b : ℕ) (xs : List ℕ) → T (elem b xs) → f b + total f (remove b xs) ≡ total f xs
total_remove f b [] t = absurd t
total_remove f b (y ∷ ys) t = go (split (eqb b y)) (total_remove f b ys)
  where
    go : T (eqb b y) ⊎ T (not (eqb b y)) → (T (elem b ys) → f b + total f (remove b ys) ≡ total f ys)
        → f b + total f (cond (eqb b y) ys (y ∷ remove b ys)) ≡ f y + total f ys
    go (inl e) ih = rw (is_true (eqb b y) e) (rw (eqb→eq b y e) refl)
    go (inr n) ih = rw (is_false (eqb b y) n) (omega (arith, ih (rw (is_false (eqb b y) n) at t)))

pub total_same : (f : ℕ → ℕ) (xs ys : List ℕ) → Same xs ys → total f xs ≡ total f ys
total_same f [] [] h = refl
total_same f [] (y ∷ ys) h = absurd (let c = ind_true (eqb y y) (eqb_refl y) in omega (arith, h y))
total_same f (x ∷ xs) ys h =
    let c = ind_true (eqb x x) (eqb_refl x) in
    let t = count_elem x ys (omega (arith, h x)) in
    omega (arith, total_remove f x ys t, total_same f xs (remove x ys) (λ y. let r = count_remove y x ys t in omega (arith, h y)))

-- what a filter leaves out adds nothing
pub total_filter : (f : ℕ → ℕ) (p : ℕ → Bool) (xs : List ℕ) → ((x : ℕ) → T (not (p x)) → f x ≡ 0) → total f (filter p xs) ≡ total f xs
total_filter f p [] h = refl
total_filter f p (x ∷ xs) h = go (split (p x)) (total_filter f p xs h)
  where
    go : T (p x) ⊎ T (not (p x)) → total f (filter p xs) ≡ total f xs → total f (keep (p x) x (filter p xs)) ≡ f x + total f xs
    go (inl t) ih = rw (is_true (p x) t) (omega arith)
    go (inr t) ih = rw (is_false (p x) t) (omega (arith, h x t))

pub total_one : (xs : List ℕ) → total (λ (x : ℕ). 1) xs ≡ length xs
total_one [] = refl
total_one (x ∷ xs) = omega (arith, total_one xs)

pub same_length : (xs ys : List ℕ) → Same xs ys → length xs ≡ length ys
same_length xs ys h = sym (total_one xs) ∙ total_same (λ (x : ℕ). 1) xs ys h ∙ total_one ys

-- ---- lists of lists put together

pub count_concat : (x : ℕ) (f : ℕ → List ℕ) (bs : List ℕ) → count x (concat_map f bs) ≡ total (λ (b : ℕ). count x (f b)) bs
count_concat x f [] = refl
count_concat x f (b ∷ bs) = omega (arith, count_append x (f b) (concat_map f bs), count_concat x f bs)

pub length_concat : (f : ℕ → List ℕ) (bs : List ℕ) → length (concat_map f bs) ≡ total (λ (b : ℕ). length (f b)) bs
length_concat f [] = refl
length_concat f (b ∷ bs) = omega (arith, length-append (f b) (concat_map f bs), length_concat f bs)

pub concat_append : (f : ℕ → List ℕ) (ys zs : List ℕ) → concat_map f (ys ++ zs) ≡ concat_map f ys ++ concat_map f zs
concat_append f [] zs = refl
concat_append f (y ∷ ys) zs = ap (λ (l : List ℕ). f y ++ l) (concat_append f ys zs) ∙ sym (append_assoc (f y) (concat_map f ys) (concat_map f zs))

pub concat_concat : (f g : ℕ → List ℕ) (xs : List ℕ) → concat_map f (concat_map g xs) ≡ concat_map (λ (b : ℕ). concat_map f (g b)) xs
concat_concat f g [] = refl
concat_concat f g (x ∷ xs) = concat_append f (g x) (concat_map g xs) ∙ ap (λ (l : List ℕ). concat_map f (g x) ++ l) (concat_concat f g xs)
