-- Holes: the unmarked slots below m, ascending; with no slot marked twice and none from m on, holes and marked slots add up to m, because each marked
-- slot takes one hole away. Assumes nothing.
use mathlib.Core.Path.{◌≡◌, refl, sym, ap, ◌∙◌}
use mathlib.Core.Logic.{◌⊎◌, inl, inr}
use mathlib.Core.Bool.{Bool, true, false, not, ◌||◌}
use mathlib.Core.List.{List, [], ◌∷◌, ◌++◌}
use Prim.Native.Nat.{ℕ, suc, ◌+◌, ◌<◌, ◌≤◌}
use native.Mathlib.Omega.{arith}
use lib.Dec.{T, eqb, eqb→eq, eqb_refl}
use lib.ListN.{length}
use Rattle.words.specs.Map.{slot}
use Rattle.words.specs.MapLaws.{slot_cases}
use Rattle.rules.specs.Lists.{below, elem, count, indicator, keep, filter, all_free, distinct}
use Rattle.rules.specs.Holes.{unmarked, holes_of}
use Rattle.rules.specs.Sweep.{bitmap_of}
use Rattle.rules.proofs.Tests.{split, is_true, is_false, and_left, and_right, and_both, or_left, or_right, neq, eq→eqb, neq→neqb, elem_mem, mem_elem, mem_filter, filter_mem}
use Rattle.rules.proofs.Counting.{Once, Under, ind_true, ind_false, count_append, count_not_elem, not_elem_count, elem_count, count_below_in, length_from}
use Rattle.rules.proofs.Ranges.{mem_below, below_mem}
use Rattle.rules.proofs.TurnLaws.{Ascending, ascending_filter, ascending_from}
use Rattle.rules.proofs.SetLaws.{filter_same}
use Rattle.rules.proofs.BitmapLaws.{bitmap_all}

pub distinct_once : (xs : List ℕ) → T (distinct xs) → Once xs
distinct_once [] t x = omega arith
distinct_once (y ∷ ys) t x = go (split (eqb x y)) (distinct_once ys (and_right (not (elem y ys)) (distinct ys) t) x)
  where
    go : T (eqb x y) ⊎ T (not (eqb x y)) → count x ys ≤ 1 → indicator (eqb x y) + count x ys ≤ 1
    go (inl e) ih = omega (arith, ind_true (eqb x y) e, not_elem_count x ys (rw (eqb→eq x y e) (and_left (not (elem y ys)) (distinct ys) t)))
    go (inr n) ih = omega (arith, ind_false (eqb x y) n)

pub free_of : (marked xs : List ℕ) → T (all_free marked xs) → (x : ℕ) → T (elem x xs) → T (not (elem x marked))
free_of marked [] t x e = absurd e
free_of marked (y ∷ ys) t x e = go (split (eqb x y)) (free_of marked ys (and_right (not (elem y marked)) (all_free marked ys) t) x)
  where
    go : T (eqb x y) ⊎ T (not (eqb x y)) → (T (elem x ys) → T (not (elem x marked))) → T (not (elem x marked))
    go (inl q) ih = rw (eqb→eq x y q) (and_left (not (elem y marked)) (all_free marked ys) t)
    go (inr n) ih = ih (rw (is_false (eqb x y) n) at e)

pub free_by : (marked xs : List ℕ) → ((x : ℕ) → T (elem x xs) → T (not (elem x marked))) → T (all_free marked xs)
free_by marked [] h = tt
free_by marked (y ∷ ys) h =
    and_both (not (elem y marked)) (all_free marked ys) (h y (or_left (eqb y y) (elem y ys) (eqb_refl y))) (free_by marked ys (λ x t. h x (or_right (eqb x y) (elem x ys) t)))

pub once_distinct : (xs : List ℕ) → Once xs → T (distinct xs)
once_distinct [] h = tt
once_distinct (y ∷ ys) h =
    let one = ind_true (eqb y y) (eqb_refl y) in
    and_both (not (elem y ys)) (distinct ys) (count_not_elem y ys (omega (arith, h y))) (once_distinct ys (λ x. omega (arith, h x)))

pub once_append : (xs marked : List ℕ) → T (all_free marked xs) → Once xs → Once marked → Once (xs ++ marked)
once_append xs marked t hx hm x = rw (count_append x xs marked) (go (split (elem x xs)))
  where
    go : T (elem x xs) ⊎ T (not (elem x xs)) → count x xs + count x marked ≤ 1
    go (inl e) = omega (arith, hx x, not_elem_count x marked (free_of marked xs t x e))
    go (inr n) = omega (arith, hm x, not_elem_count x xs n)

pub elem_append : (x : ℕ) (xs ys : List ℕ) → T (elem x (xs ++ ys)) → T (elem x xs) ⊎ T (elem x ys)
elem_append x xs ys t = go (split (elem x xs)) (split (elem x ys))
  where
    go : T (elem x xs) ⊎ T (not (elem x xs)) → T (elem x ys) ⊎ T (not (elem x ys)) → T (elem x xs) ⊎ T (elem x ys)
    go (inl a) b = inl a
    go (inr a) (inl b) = inr b
    go (inr a) (inr b) = absurd (let c = elem_count x (xs ++ ys) t in let d = count_append x xs ys in omega (arith, not_elem_count x xs a, not_elem_count x ys b))

-- ---- holes of any bitmap

module _ (m : ℕ) (ws : List ℕ) where
  -- x is a hole exactly where it is a slot below m whose bit is 0
  pub hole_in : (x : ℕ) → T (elem x (holes_of m ws)) → (x < m) × (slot ws x ≡ 0)
  unfolding holes_of unmarked
  hole_in x t =
      let w = mem_filter (unmarked ws) _ (elem_mem x (holes_of m ws) t) in
      (below_mem x m w.0, zero_of (slot_cases ws x) (neq (slot ws x) 1 w.1))
    where
      zero_of : (slot ws x ≡ 0) ⊎ (slot ws x ≡ 1) → (slot ws x ≡ 1 → ⊥) → slot ws x ≡ 0
      zero_of (inl e) n = e
      zero_of (inr e) n = absurd (n e)

  pub in_holes : (x : ℕ) → x < m → slot ws x ≡ 0 → T (elem x (holes_of m ws))
  unfolding holes_of unmarked
  in_holes x h e = mem_elem (filter_mem (unmarked ws) (below m) (mem_below x m h) (neq→neqb (slot ws x) 1 (λ z. omega arith)))

  pub holes_ascending : Ascending (holes_of m ws)
  unfolding holes_of
  holes_ascending = ascending_filter (unmarked ws) (below m) (ascending_from 0 m)

-- ---- holes and marked slots add up

abbrev free : List ℕ → ℕ → Bool
free marked x = not (elem x marked)

free_cons : (x : ℕ) (marked ys : List ℕ) → count x marked ≡ 0 → length (filter (free (x ∷ marked)) ys) + count x ys ≡ length (filter (free marked) ys)
free_cons x marked [] h = omega arith
free_cons x marked (y ∷ ys) h = go (split (eqb y x)) (free_cons x marked ys h)
  where
    fewer : List ℕ
    fewer = filter (free (x ∷ marked)) ys

    more : List ℕ
    more = filter (free marked) ys

    free_x : T (eqb y x) → T (not (elem y marked))
    free_x e = rw (eqb→eq y x e) (count_not_elem x marked h)

    kept : (c : Bool) → length fewer + count x ys ≡ length more → length (keep (not c) y fewer) + count x ys ≡ length (keep (not c) y more)
    kept true ih = ih
    kept false ih = omega arith

    go : T (eqb y x) ⊎ T (not (eqb y x)) → length fewer + count x ys ≡ length more
        → length (keep (not (eqb y x || elem y marked)) y fewer) + (indicator (eqb x y) + count x ys) ≡ length (keep (not (elem y marked)) y more)
    go (inl e) ih = rw (is_true (eqb y x) e) (rw (is_false (elem y marked) (free_x e)) (omega (arith, ind_true (eqb x y) (eq→eqb x y (sym (eqb→eq y x e))))))
    go (inr n) ih = rw (is_false (eqb y x) n) (omega (arith, kept (elem y marked) ih, ind_false (eqb x y) (neq→neqb x y (λ e. neq y x n (sym e)))))

free_length : (m : ℕ) (marked : List ℕ) → Once marked → Under m marked → length (filter (free marked) (below m)) + length marked ≡ m
free_length m [] h k = omega (arith, all (below m), length_from 0 m)
  where
    all : (xs : List ℕ) → length (filter (free []) xs) ≡ length xs
    all [] = refl
    all (x ∷ xs) = ap suc (all xs)
free_length m (x ∷ marked) h k =
    let one = ind_true (eqb x x) (eqb_refl x) in
    omega (
      arith,
      free_cons x marked (below m) (omega (arith, h x)),
      count_below_in x m (k x (or_left (eqb x x) (elem x marked) (eqb_refl x))),
      free_length m marked (λ y. omega (arith, h y)) (λ y t. k y (or_right (eqb y x) (elem y marked) t)),
    )

unmarked_free : (c : Bool) → not (eqb (indicator c) 1) ≡ not c
unmarked_free true = refl
unmarked_free false = refl

pub holes_length : (m : ℕ) (marked : List ℕ) → Once marked → Under m marked → length (holes_of m (bitmap_of m marked)) + length marked ≡ m
unfolding holes_of unmarked
holes_length m marked h k =
    ap (λ (l : List ℕ). length l + length marked)
    (filter_same (unmarked (bitmap_of m marked)) (free marked) (λ x. ap (λ (n : ℕ). not (eqb n 1)) (bitmap_all marked m k x) ∙ unmarked_free (elem x marked)) (below m))
    ∙ free_length m marked h k
