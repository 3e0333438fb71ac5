-- Rule W has one answer: a list that follows the rule is the order, because no two buckets of one window are level. Assumes nothing.
use mathlib.Core.Path.{◌≡◌, refl, ap, ◌∙◌, subst}
use mathlib.Core.Logic.{inl, inr}
use mathlib.Core.Bool.{Bool, not}
use mathlib.Core.List.Memᴰ
use mathlib.Core.List.{List, [], ◌∷◌, Memᴰ, cons≢nil}
use Prim.Native.Nat.{ℕ, zero, suc, ◌+◌, ◌<◌, ◌≤◌}
use native.Mathlib.Nat.{le_refl, not-suc-le-zero}
use native.Mathlib.Omega.{arith}
use lib.Dec.{T, lt→ltb, ltb→lt, eqb, eqb→eq, eqb_refl}
use lib.ListN.{length}
use Rattle.rules.specs.Lists.{elem, remove, filter}
use Rattle.rules.specs.Order.{Input, Tie, by_low_bits, in_window, priority, goes_first, nonempty, turn, turns, order}
use Rattle.rules.proofs.Tests.{or_cases, mem_elem, elem_mem, mem_filter, filter_mem}
use Rattle.rules.proofs.Orders.{Strict, best_is, strict_smaller, strict_greater, then_level, smaller_level}
use Rattle.rules.proofs.Counting.{ind_true, elem_count, count_elem, length_remove}
use Rattle.rules.proofs.TurnLaws.{Ascending, Untaken, Next, now, turn_elem, ascending_remove, ascending_nonempty, strict_order}

-- the list takes all of `all`, each the next at its turn
abbrev pub Follows : (ℕ → ℕ → Bool) → List ℕ → List ℕ → Type 0
Follows before all [] = all ≡ []
Follows before all (b ∷ bs) = Next before all [] b × Follows before (remove b all) bs

-- no two buckets of one window are level
abbrev pub Apart : (ℕ → ℕ → Bool) → Type 0
Apart before = (x y : ℕ) → x < y + 256 → y < x + 256 → T (not (before x y)) → T (not (before y x)) → x ≡ y

module _ (before : ℕ → ℕ → Bool) (F : Strict before) where
  pub turns_follows : (f : ℕ) (all : List ℕ) → length all ≤ f → Ascending all → Follows before all (turns before f all)
  unfolding turns
  turns_follows zero [] l h = refl
  turns_follows zero (o ∷ rest) l h = absurd (not-suc-le-zero l)
  turns_follows (suc f) [] l h = refl
  turns_follows (suc f) (o ∷ rest) l h =
      (now before F o rest h, turns_follows f (remove b (o ∷ rest)) (omega (arith, length_remove b (o ∷ rest) (turn_elem before o rest))) (ascending_remove b (o ∷ rest) h))
    where
      b : ℕ
      b = turn before o rest

  module _ (A : Apart before) where
    -- for the code: the bucket that the rule names is the turn's
    pub next_is : (o : ℕ) (rest : List ℕ) (b : ℕ) → Ascending (o ∷ rest) → Next before (o ∷ rest) [] b → b ≡ turn before o rest
    unfolding turn
    next_is o rest b h n = best_is F o window b (inside b n.b_untaken (near b n.b_near)) (λ y m. n.b_first y (left y m) (close y m)) (λ y m s t. A b y (side b y (near b n.b_near) (low y m)) (side y b (narrow y m) (low_of b n.b_untaken)) s t)
      where
        window : List ℕ
        window = filter (in_window o) rest

        low_of : (x : ℕ) → Untaken (o ∷ rest) [] x → o ≤ x
        low_of x u = elim (or_cases (eqb x o) (elem x rest) (count_elem x (o ∷ rest) u)) [ inl e ↦ omega (arith, eqb→eq x o e) | inr t ↦ omega (arith, h.0 x t) ]

        same_o : n.o ≡ o
        same_o = let e = ind_true (eqb o o) (eqb_refl o) in omega (arith, low_of n.o n.o_untaken, n.o_least o (omega arith))

        near : (x : ℕ) → x < n.o + 256 → x < o + 256
        near x k = omega (arith, same_o)

        inside : (x : ℕ) → Untaken (o ∷ rest) [] x → x < o + 256 → Memᴰ x (o ∷ window)
        inside x u l = elim (or_cases (eqb x o) (elem x rest) (count_elem x (o ∷ rest) u))
            [ inl e ↦ Memᴰ.head (eqb→eq x o e) | inr t ↦ Memᴰ.tail (filter_mem (in_window o) rest (elem_mem x rest t) (lt→ltb x _ (omega arith))) ]

        left : (y : ℕ) → Memᴰ y (o ∷ window) → Untaken (o ∷ rest) [] y
        left y m = elim (Memᴰ.cases_cons m)
            [ inl e ↦ elem_count y (o ∷ rest) (mem_elem {ys = o ∷ rest} (Memᴰ.head e)) | inr k ↦ elem_count y (o ∷ rest) (mem_elem {ys = o ∷ rest} (Memᴰ.tail (mem_filter (in_window o) rest k).0)) ]

        narrow : (y : ℕ) → Memᴰ y (o ∷ window) → y < o + 256
        narrow y m = elim (Memᴰ.cases_cons m) [ inl e ↦ omega (arith, e) | inr k ↦ omega (arith, ltb→lt y _ (mem_filter (in_window o) rest k).1) ]

        close : (y : ℕ) → Memᴰ y (o ∷ window) → y < n.o + 256
        close y m = omega (arith, same_o, narrow y m)

        low : (y : ℕ) → Memᴰ y (o ∷ window) → o ≤ y
        low y m = low_of y (left y m)

        side : (x y : ℕ) → x < o + 256 → o ≤ y → x < y + 256
        side x y l k = omega arith

    pub follows_one : (f : ℕ) (all ord : List ℕ) → length all ≤ f → Ascending all → Follows before all ord → ord ≡ turns before f all
    unfolding turns
    follows_one zero [] [] l h n = refl
    follows_one (suc f) [] [] l h n = refl
    follows_one f [] (b ∷ bs) l h n = absurd (not-suc-le-zero n.0.b_untaken)
    follows_one f (o ∷ rest) [] l h n = absurd (cons≢nil n)
    follows_one zero (o ∷ rest) (b ∷ bs) l h n = absurd (not-suc-le-zero l)
    follows_one (suc f) (o ∷ rest) (b ∷ bs) l h n =
        let e : b ≡ turn before o rest = next_is o rest b h n.0 in
        ap (λ (c : ℕ). c ∷ bs) e
        ∙ ap (λ (r : List ℕ). turn before o rest ∷ r)
        (follows_one f (remove (turn before o rest) (o ∷ rest)) bs (omega (arith, length_remove (turn before o rest) (o ∷ rest) (turn_elem before o rest)))
        (ascending_remove (turn before o rest) (o ∷ rest) h) (subst (λ (c : ℕ). Follows before (remove c (o ∷ rest)) bs) e n.1))

low_near : (x y : ℕ) → x < y + 256 → y < x + 256 → by_low_bits x ≡ by_low_bits y → x ≡ y
low_near x y h k e = omega arith

-- the rule for ties keeps the buckets of a window apart, if it does so where the priorities are level
pub apart_by : (tie : Tie) → ((x y : ℕ) → x < y + 256 → y < x + 256 → tie x ≡ tie y → x ≡ y) → (i : Input) → Apart (goes_first tie i)
unfolding goes_first
apart_by tie low i x y h k s t =
    let u = then_level (strict_greater (priority i)) (strict_smaller tie) x y s t in
    low x y h k (smaller_level tie x y u.0 u.1)

pub apart_low : (i : Input) → Apart (goes_first by_low_bits i)
apart_low i = apart_by by_low_bits low_near i

-- rule W: the order follows it, and nothing else does
pub order_follows : (tie : Tie) (i : Input) (lo hi : ℕ) → Follows (goes_first tie i) (nonempty i lo hi) (order tie i lo hi)
unfolding order
order_follows tie i lo hi =
    turns_follows (goes_first tie i) (strict_order tie i) (length (nonempty i lo hi)) (nonempty i lo hi) (le_refl (length (nonempty i lo hi))) (ascending_nonempty i lo hi)

pub order_only : (tie : Tie) (i : Input) (lo hi : ℕ) → Apart (goes_first tie i) → (ord : List ℕ) → Follows (goes_first tie i) (nonempty i lo hi) ord → ord ≡ order tie i lo hi
unfolding order
order_only tie i lo hi A ord n =
    follows_one (goes_first tie i) (strict_order tie i) A (length (nonempty i lo hi)) (nonempty i lo hi) ord (le_refl (length (nonempty i lo hi))) (ascending_nonempty i lo hi) n

-- so for document 01's rule for ties
pub follows_order : (i : Input) (lo hi : ℕ) (ord : List ℕ) → Follows (goes_first by_low_bits i) (nonempty i lo hi) ord → ord ≡ order by_low_bits i lo hi
follows_order i lo hi ord n = order_only by_low_bits i lo hi (apart_low i) ord n
