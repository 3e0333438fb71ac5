-- Of an ascending run, some key stands twice exactly if two neighbours are equal: a key that is not the next one is below all that
-- follow. And whether some key stands twice is the same for two lists that have each key equally often. Assumes nothing.
use mathlib.Core.Path.{◌≡◌, refl, sym, ap, ◌∙◌}
use mathlib.Core.Logic.{◌⊎◌, inl, inr}
use mathlib.Core.Bool.{Bool, true, false, not, ◌&&◌, ◌||◌}
use mathlib.Core.List.{List, [], ◌∷◌}
use Prim.Native.Nat.{ℕ, ◌<◌}
use native.Mathlib.Omega.{arith}
use lib.Dec.{T, eqb, leb, leb→le}
use borrow.Author.Tests.{ne_eqb}
use Rattle.rules.specs.Lists.{elem, count, distinct}
use Rattle.rules.proofs.Tests.{split, is_true, is_false, and_left, and_right, neq}
use Rattle.rules.proofs.HoleLaws.{distinct_once, once_distinct}
use Rattle.sorting.specs.Runs.{ascends, starts, twins, Sorts}

below_all : (x lo : ℕ) (ys : List ℕ) → x < lo → T (ascends lo ys) → elem x ys ≡ false
below_all x lo [] h t = refl
below_all x lo (y ∷ ys) h t =
    let k : x < y = omega (arith, leb→le lo y (and_left (leb lo y) (ascends y ys) t)) in
    rw (ne_eqb x y (λ e. omega arith)) (below_all x y ys k (and_right (leb lo y) (ascends y ys) t))

next_only : (x : ℕ) (ys : List ℕ) → T (ascends x ys) → starts x ys ≡ elem x ys
next_only x [] t = refl
next_only x (y ∷ ys) t = go (split (eqb x y))
  where
    go : T (eqb x y) ⊎ T (not (eqb x y)) → eqb x y ≡ eqb x y || elem x ys
    go (inl e) = rw (is_true (eqb x y) e)
    go (inr n) =
        let d = neq x y n in
        let k : x < y = omega (arith, leb→le x y (and_left (leb x y) (ascends y ys) t), d) in
        rw (is_false (eqb x y) n) (sym (below_all x y ys k (and_right (leb x y) (ascends y ys) t)))

either : (a b : Bool) → a || not b ≡ not (not a && b)
either true b = refl
either false b = refl

pub twins_ascending : (lo : ℕ) (ys : List ℕ) → T (ascends lo ys) → twins ys ≡ not (distinct ys)
twins_ascending lo [] t = refl
twins_ascending lo (x ∷ ys) t =
    let u : T (ascends x ys) = and_right (leb lo x) (ascends x ys) t in
    rw (next_only x ys u, twins_ascending x ys u) (either (elem x ys) (distinct ys))

pub same_distinct : (xs ys : List ℕ) → ((x : ℕ) → count x xs ≡ count x ys) → distinct xs ≡ distinct ys
same_distinct xs ys h = go (split (distinct xs)) (split (distinct ys))
  where
    go : T (distinct xs) ⊎ T (not (distinct xs)) → T (distinct ys) ⊎ T (not (distinct ys)) → distinct xs ≡ distinct ys
    go (inl a) b = is_true (distinct xs) a ∙ sym (is_true (distinct ys) (once_distinct ys (λ x. omega (arith, h x, distinct_once xs a x))))
    go (inr a) (inr b) = is_false (distinct xs) a ∙ sym (is_false (distinct ys) b)
    go (inr a) (inl b) =
        is_true (distinct xs) (once_distinct xs (λ x. omega (arith, h x, distinct_once ys b x))) ∙ sym (is_true (distinct ys) b)

-- what a look at neighbours of the sorted keys tells
pub sorted_twins : (keys run : List ℕ) → Sorts keys run → twins run ≡ not (distinct keys)
sorted_twins keys run s = twins_ascending 0 run s.rises ∙ ap not (same_distinct run keys s.same)
