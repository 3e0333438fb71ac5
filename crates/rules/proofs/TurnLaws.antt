-- Rule W: the order of a range has each of its nonempty buckets once and nothing else, because a turn takes one of the untaken away; and at each
-- turn the bucket taken is the one that the rule names. Assumes nothing.
use mathlib.Core.Path.{◌≡◌, refl, ap, ◌∙◌, subst}
use mathlib.Core.Logic.{◌⊎◌, inl, inr}
use mathlib.Core.Bool.{Bool, true, false, not, cond}
use mathlib.Core.List.Memᴰ
use mathlib.Core.List.{List, [], ◌∷◌, ◌++◌, Memᴰ, head-eq_of_cons-eq, tail-eq_of_cons-eq}
use Prim.Native.Nat.{ℕ, zero, suc, ◌+◌, ◌-◌, ◌<◌, ◌≤◌}
use native.Mathlib.Nat.{le_refl, not-suc-le-zero}
use native.Mathlib.Omega.{arith}
use lib.Dec.{T, lt→ltb, ltb→lt, nltb→le, eqb, eqb→eq, eqb_refl, ltb}
use lib.ListN.{length, length-append}
use Rattle.rules.specs.Lists.{count_from, between, elem, count, remove, keep, filter, best}
use Rattle.rules.specs.Order.{Input, Tie, priority, goes_first, has_keys, in_window, nonempty, turn, turns, order}
use Rattle.rules.proofs.Tests.{split, is_true, is_false, or_cases, or_left, or_right, mem_elem, elem_mem, mem_filter, filter_mem}
use Rattle.rules.proofs.Orders.{Strict, best_mem, best_top, strict_then, strict_smaller, strict_greater}
use Rattle.rules.proofs.Counting.{ind_true, elem_count, count_elem, count_remove, length_remove, count_filter_in, count_filter_out, count_from_in, count_from_low, count_from_high}

-- the one whose turn it is is one of the untaken
pub turn_elem : (before : ℕ → ℕ → Bool) (o : ℕ) (rest : List ℕ) → T (elem (turn before o rest) (o ∷ rest))
unfolding turn
turn_elem before o rest = mem_elem (widen (Memᴰ.cases_cons (best_mem before o window)))
  where
    window : List ℕ
    window = filter (in_window o) rest

    widen : {a : ℕ} → (a ≡ o) ⊎ Memᴰ a window → Memᴰ a (o ∷ rest)
    widen (inl e) = Memᴰ.head e
    widen (inr m) = Memᴰ.tail (mem_filter (in_window o) rest m).0

pub turns_count : (before : ℕ → ℕ → Bool) (f : ℕ) (rest : List ℕ) → length rest ≤ f → (x : ℕ) → count x (turns before f rest) ≡ count x rest
unfolding turns
turns_count before zero [] h x = refl
turns_count before zero (o ∷ rest) h x = absurd (not-suc-le-zero h)
turns_count before (suc f) [] h x = refl
turns_count before (suc f) (o ∷ rest) h x =
    omega (
      arith,
      turns_count before f (remove b (o ∷ rest)) (omega (arith, length_remove b (o ∷ rest) (turn_elem before o rest))) x,
      count_remove x b (o ∷ rest) (turn_elem before o rest),
    )
  where
    b : ℕ
    b = turn before o rest

pub turns_length : (before : ℕ → ℕ → Bool) (f : ℕ) (rest : List ℕ) → length rest ≤ f → length (turns before f rest) ≡ length rest
unfolding turns
turns_length before zero [] h = refl
turns_length before zero (o ∷ rest) h = absurd (not-suc-le-zero h)
turns_length before (suc f) [] h = refl
turns_length before (suc f) (o ∷ rest) h =
    let one = length_remove (turn before o rest) (o ∷ rest) (turn_elem before o rest) in
    omega (arith, turns_length before f (remove (turn before o rest) (o ∷ rest)) (omega arith))

-- the nonempty buckets of a range: each once, and no other
module _ (i : Input) (lo hi : ℕ) where
  pub nonempty_once : (b : ℕ) → lo ≤ b → b < hi → T (has_keys i b) → count b (nonempty i lo hi) ≡ 1
  unfolding nonempty
  nonempty_once b l h t = count_filter_in (has_keys i) b t (between lo hi) ∙ count_from_in b lo (hi - lo) l (omega arith)

  pub nonempty_empty : (b : ℕ) → T (not (has_keys i b)) → count b (nonempty i lo hi) ≡ 0
  unfolding nonempty
  nonempty_empty b t = count_filter_out (has_keys i) b t (between lo hi)

  pub nonempty_outside : (b : ℕ) → (b < lo) ⊎ (hi ≤ b) → count b (nonempty i lo hi) ≡ 0
  unfolding nonempty
  nonempty_outside b h = go (split (has_keys i b)) h
    where
      go : T (has_keys i b) ⊎ T (not (has_keys i b)) → (b < lo) ⊎ (hi ≤ b) → count b (filter (has_keys i) (between lo hi)) ≡ 0
      go (inl t) (inl l) = count_filter_in (has_keys i) b t (between lo hi) ∙ count_from_low b lo (hi - lo) l
      go (inl t) (inr l) = count_filter_in (has_keys i) b t (between lo hi) ∙ outside_high (split (ltb b lo))
        where
          outside_high : T (ltb b lo) ⊎ T (not (ltb b lo)) → count b (between lo hi) ≡ 0
          outside_high (inl u) = count_from_low b lo (hi - lo) (ltb→lt b lo u)
          outside_high (inr u) = let k = nltb→le b lo u in count_from_high b lo (hi - lo) (omega arith)
      go (inr t) k = count_filter_out (has_keys i) b t (between lo hi)

-- a bucket of the range with keys stands once in the order, any other number never
module _ (tie : Tie) (i : Input) (lo hi : ℕ) where
  pub order_count : (x : ℕ) → count x (order tie i lo hi) ≡ count x (nonempty i lo hi)
  unfolding order
  order_count x = turns_count (goes_first tie i) (length (nonempty i lo hi)) (nonempty i lo hi) (le_refl (length (nonempty i lo hi))) x

  pub order_once : (b : ℕ) → lo ≤ b → b < hi → T (has_keys i b) → count b (order tie i lo hi) ≡ 1
  order_once b l h t = order_count b ∙ nonempty_once i lo hi b l h t

  pub order_empty : (b : ℕ) → T (not (has_keys i b)) → count b (order tie i lo hi) ≡ 0
  order_empty b t = order_count b ∙ nonempty_empty i lo hi b t

  pub order_outside : (b : ℕ) → (b < lo) ⊎ (hi ≤ b) → count b (order tie i lo hi) ≡ 0
  order_outside b h = order_count b ∙ nonempty_outside i lo hi b h

  -- what stands in the order is a bucket of the range with keys
  pub order_keys : (b : ℕ) → T (elem b (order tie i lo hi)) → (lo ≤ b) × (b < hi) × T (has_keys i b)
  order_keys b t = go (split (ltb b lo)) (split (ltb b hi)) (split (has_keys i b))
    where
      here : 1 ≤ count b (order tie i lo hi)
      here = elem_count b (order tie i lo hi) t

      go : T (ltb b lo) ⊎ T (not (ltb b lo)) → T (ltb b hi) ⊎ T (not (ltb b hi)) → T (has_keys i b) ⊎ T (not (has_keys i b)) → (lo ≤ b) × (b < hi) × T (has_keys i b)
      go (inl l) h k = absurd (let z = order_outside b (inl (ltb→lt b lo l)) in let y = here in omega arith)
      go (inr l) (inl h) (inl k) = (nltb→le b lo l, ltb→lt b hi h, k)
      go (inr l) (inl h) (inr k) = absurd (let z = order_empty b k in let y = here in omega arith)
      go (inr l) (inr h) k = absurd (let z = order_outside b (inr (nltb→le b hi h)) in let y = here in omega arith)

  pub order_length : length (order tie i lo hi) ≡ length (nonempty i lo hi)
  unfolding order
  order_length = turns_length (goes_first tie i) (length (nonempty i lo hi)) (nonempty i lo hi) (le_refl (length (nonempty i lo hi)))

module _ (tie : Tie) (i : Input) where
  -- the bucket taken is in the window, and no bucket of the window goes before it
  pub strict_order : Strict (goes_first tie i)
  unfolding goes_first
  strict_order = strict_then (strict_greater (priority i)) (strict_smaller tie)

  pub turn_first : (o : ℕ) (rest : List ℕ) (x : ℕ) → Memᴰ x (o ∷ rest) → x < o + 256 → T (not (goes_first tie i x (turn (goes_first tie i) o rest)))
  unfolding turn
  turn_first o rest x m h = best_top strict_order o window x (narrow (Memᴰ.cases_cons m))
    where
      window : List ℕ
      window = filter (in_window o) rest

      narrow : (x ≡ o) ⊎ Memᴰ x rest → Memᴰ x (o ∷ window)
      narrow (inl e) = Memᴰ.head e
      narrow (inr k) = Memᴰ.tail (filter_mem (in_window o) rest k (lt→ltb x _ (omega arith)))

-- ---- rule W as the document has it: what holds of each bucket at its turn

-- each element is below those after it
abbrev pub Ascending : List ℕ → Type 0
Ascending [] = Unit {0}
Ascending (x ∷ xs) = ((y : ℕ) → T (elem y xs) → x < y) × Ascending xs

elem_remove : (y b : ℕ) (xs : List ℕ) → T (elem y (remove b xs)) → T (elem y xs)
elem_remove y b [] t = t
elem_remove y b (x ∷ xs) t = go (split (eqb b x)) (elem_remove y b xs)
  where
    go : T (eqb b x) ⊎ T (not (eqb b x)) → (T (elem y (remove b xs)) → T (elem y xs)) → T (elem y (x ∷ xs))
    go (inl e) ih = or_right (eqb y x) (elem y xs) (rw (is_true (eqb b x) e) at t)
    go (inr n) ih = elim (or_cases (eqb y x) (elem y (remove b xs)) (rw (is_false (eqb b x) n) at t)) [ inl e ↦ or_left (eqb y x) (elem y xs) e | inr u ↦ or_right (eqb y x) (elem y xs) (ih u) ]

pub ascending_remove : (b : ℕ) (xs : List ℕ) → Ascending xs → Ascending (remove b xs)
ascending_remove b [] h = h
ascending_remove b (x ∷ xs) h = go (split (eqb b x)) (ascending_remove b xs h.1)
  where
    go : T (eqb b x) ⊎ T (not (eqb b x)) → Ascending (remove b xs) → Ascending (cond (eqb b x) xs (x ∷ remove b xs))
    go (inl e) ih = rw (is_true (eqb b x) e) h.1
    go (inr n) ih = rw (is_false (eqb b x) n) (λ y t. h.0 y (elem_remove y b xs t), ih)

pub ascending_filter : (p : ℕ → Bool) (xs : List ℕ) → Ascending xs → Ascending (filter p xs)
ascending_filter p [] h = h
ascending_filter p (x ∷ xs) h = go (p x) (ascending_filter p xs h.1)
  where
    go : (c : Bool) → Ascending (filter p xs) → Ascending (keep c x (filter p xs))
    go true ih = (λ y t. h.0 y (mem_elem (mem_filter p xs (elem_mem y (filter p xs) t)).0), ih)
    go false ih = ih

from_least : (i n y : ℕ) → T (elem y (count_from i n)) → i ≤ y
from_least i zero y t = absurd t
from_least i (suc n) y t = elim (or_cases (eqb y i) (elem y (count_from (suc i) n)) t) [ inl e ↦ omega (arith, eqb→eq y i e) | inr u ↦ omega (arith, from_least (suc i) n y u) ]

pub ascending_from : (i n : ℕ) → Ascending (count_from i n)
ascending_from i zero = tt
ascending_from i (suc n) = (λ y t. omega (arith, from_least (suc i) n y t), ascending_from (suc i) n)

pub ascending_nonempty : (i : Input) (lo hi : ℕ) → Ascending (nonempty i lo hi)
unfolding nonempty
ascending_nonempty i lo hi = ascending_filter (has_keys i) (between lo hi) (ascending_from lo (hi - lo))

-- x is one of `all` that `taken` does not have
abbrev pub Untaken : List ℕ → List ℕ → ℕ → Type 0
Untaken all taken x = count x taken < count x all

-- b is taken next: o is the least untaken one, b is untaken and at most o + 255, and none of those goes before it
pub record Next (before : ℕ → ℕ → Bool) (all taken : List ℕ) (b : ℕ) : Type 0 where
  pub o : ℕ
  pub o_untaken : Untaken all taken o
  pub o_least : (x : ℕ) → Untaken all taken x → o ≤ x
  pub b_untaken : Untaken all taken b
  pub b_near : b < o + 256
  pub b_first : (x : ℕ) → Untaken all taken x → x < o + 256 → T (not (before x b))

module _ (before : ℕ → ℕ → Bool) (F : Strict before) where
  pub now : (o : ℕ) (rest : List ℕ) → Ascending (o ∷ rest) → Next before (o ∷ rest) [] (turn before o rest)
  unfolding turn
  now o rest h = record {
    o = o;
    o_untaken = let e = ind_true (eqb o o) (eqb_refl o) in omega arith;
    o_least = λ x u. least x (or_cases (eqb x o) (elem x rest) (count_elem x (o ∷ rest) u));
    b_untaken = elem_count b (o ∷ rest) (turn_elem before o rest);
    b_near = near (Memᴰ.cases_cons (best_mem before o window));
    b_first = λ x u l. best_top F o window x (narrow x l (or_cases (eqb x o) (elem x rest) (count_elem x (o ∷ rest) u)));
  }
    where
      window : List ℕ
      window = filter (in_window o) rest

      b : ℕ
      b = best before o window

      least : (x : ℕ) → T (eqb x o) ⊎ T (elem x rest) → o ≤ x
      least x (inl e) = omega (arith, eqb→eq x o e)
      least x (inr t) = omega (arith, h.0 x t)

      near : (b ≡ o) ⊎ Memᴰ b window → b < o + 256
      near (inl e) = omega (arith, e)
      near (inr m) = omega (arith, ltb→lt b _ (mem_filter (in_window o) rest m).1)

      narrow : (x : ℕ) → x < o + 256 → T (eqb x o) ⊎ T (elem x rest) → Memᴰ x (o ∷ window)
      narrow x l (inl e) = Memᴰ.head (eqb→eq x o e)
      narrow x l (inr t) = Memᴰ.tail (filter_mem (in_window o) rest (elem_mem x rest t) (lt→ltb x _ (omega arith)))

  -- what is next after `pre` among the rest is next after c and `pre` among all
  later : (c : ℕ) (all pre : List ℕ) (b : ℕ) → T (elem c all) → Next before (remove c all) pre b → Next before all (c ∷ pre) b
  later c all pre b t n = record {
    o = n.o;
    o_untaken = up n.o n.o_untaken;
    o_least = λ x u. n.o_least x (down x u);
    b_untaken = up b n.b_untaken;
    b_near = n.b_near;
    b_first = λ x u l. n.b_first x (down x u) l;
  }
    where
      up : (x : ℕ) → Untaken (remove c all) pre x → Untaken all (c ∷ pre) x
      up x u = omega (arith, count_remove x c all t)

      down : (x : ℕ) → Untaken all (c ∷ pre) x → Untaken (remove c all) pre x
      down x u = omega (arith, count_remove x c all t)

  pub turns_next : (f : ℕ) (all pre : List ℕ) (b : ℕ) (post : List ℕ) → Ascending all → turns before f all ≡ pre ++ b ∷ post → Next before all pre b
  unfolding turns
  turns_next zero all pre b post h e = absurd (let z = ap length e in omega (arith, length-append pre (b ∷ post)))
  turns_next (suc f) [] pre b post h e = absurd (let z = ap length e in omega (arith, length-append pre (b ∷ post)))
  turns_next (suc f) (o ∷ rest) [] b post h e = subst (λ (c : ℕ). Next before (o ∷ rest) [] c) (head-eq_of_cons-eq e) (now o rest h)
  turns_next (suc f) (o ∷ rest) (p ∷ pre) b post h e =
      subst (λ (c : ℕ). Next before (o ∷ rest) (c ∷ pre) b) (head-eq_of_cons-eq e)
      (later (turn before o rest) (o ∷ rest) pre b (turn_elem before o rest)
      (turns_next f (remove (turn before o rest) (o ∷ rest)) pre b post (ascending_remove (turn before o rest) (o ∷ rest) h) (tail-eq_of_cons-eq e)))

-- the order is made by that rule
pub order_next : (tie : Tie) (i : Input) (lo hi : ℕ) (pre : List ℕ) (b : ℕ) (post : List ℕ) → order tie i lo hi ≡ pre ++ b ∷ post
    → Next (goes_first tie i) (nonempty i lo hi) pre b
unfolding order
order_next tie i lo hi pre b post e =
    turns_next (goes_first tie i) (strict_order tie i) (length (nonempty i lo hi)) (nonempty i lo hi) pre b post (ascending_nonempty i lo hi) e
