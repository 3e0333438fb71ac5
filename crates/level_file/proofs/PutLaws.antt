-- Numbers that are written one after the other: storing what is left from the present place on gives at each turn what storing all gives. Assumes nothing.
use Prim.Native.Nat.{ℕ, ◌+◌, ◌-◌, ◌≤◌, ◌<◌}
use native.Mathlib.Omega.{arith}
use native.Mathlib.Numerals.{add-one}
use native.Mathlib.Nat.{add-zero}
use mathlib.Core.Path.{◌≡◌, refl, sym, ap, ◌∙◌}
use mathlib.Core.List.{List, [], ◌∷◌, ◌++◌}
use lib.ListN.{length, drop, get_or, set, length-append, drop_of_length-le}
use lib.Seq.{sets, sets-eq, length-sets, drop-cons}
use Rattle.house_numbers.specs.Encode.{encoded}
use Rattle.level_file.specs.Format.{gaps_from, bytes_of, filled}
use Rattle.level_file.specs.Writing.{Climbs}

-- ---- lists

pub sets_append : (xs ys out : List ℕ) (at : ℕ) → sets out at (xs ++ ys) ≡ sets (sets out at xs) (at + length xs) ys
sets_append [] ys out at = ap (λ (k : ℕ). sets out k ys) (sym (add-zero at))
sets_append (x ∷ xs) ys out at =
    let e : at + 1 + length xs ≡ at + length (x ∷ xs) = omega arith in
    ap (λ (k : ℕ). sets (set out at x) k (xs ++ ys)) (sym (add-one at))
    ∙ sets_append xs ys (set out at x) (at + 1)
    ∙ ap (λ (k : ℕ). sets (sets (set out at x) k xs) (at + 1 + length xs) ys) (add-one at)
    ∙ ap (λ (k : ℕ). sets (sets out at (x ∷ xs)) k ys) e

-- the element at i, and those after it
drop_next : (xs : List ℕ) (i : ℕ) → i < length xs → drop i xs ≡ get_or xs i 0 ∷ drop (i + 1) xs
drop_next xs i h = drop-cons xs i 0 h ∙ ap (λ (k : ℕ). get_or xs i 0 ∷ drop k xs) (sym (add-one i))

pub drop_as : (xs : List ℕ) (i x : ℕ) → x ≡ get_or xs i 0 → i < length xs → drop i xs ≡ x ∷ drop (i + 1) xs
drop_as xs i x e h = drop_next xs i h ∙ ap (λ (y : ℕ). y ∷ drop (i + 1) xs) (sym e)

pub drop_all : (xs : List ℕ) (i : ℕ) → length xs ≤ i → drop i xs ≡ []
drop_all xs i h = drop_of_length-le xs h

-- stored at the front, and what lay beyond
pub front_filled : (out values : List ℕ) → length values ≤ length out → sets out 0 values ≡ filled values out
unfolding filled
front_filled out values h =
    let inside : 0 + length values ≤ length out = omega arith in
    let same : 0 + length values ≡ length values = omega arith in
    sets-eq values out 0 inside ∙ ap (λ (k : ℕ). values ++ drop k out) same

-- ---- writing

pub record Putting (whole left entry buffer : List ℕ) (at place : ℕ) : Type 0 where
  pub so_far : sets buffer place (bytes_of left) ≡ sets entry at (bytes_of whole)
  pub end : place + length (bytes_of left) ≡ at + length (bytes_of whole)
  pub same : length buffer ≡ length entry

pub putting_start : (whole left entry : List ℕ) (at : ℕ) → left ≡ whole → Putting whole left entry entry at at
putting_start whole left entry at e =
    record { so_far = ap (λ (xs : List ℕ). sets entry at (bytes_of xs)) e; end = ap (λ (xs : List ℕ). at + length (bytes_of xs)) e; same = refl }

module _ (whole left entry buffer : List ℕ) (at place : ℕ) (p : Putting whole left entry buffer at place) where
  module _ (v : ℕ) (more : List ℕ) (e : left ≡ v ∷ more) where
    left_is : bytes_of left ≡ encoded v ++ bytes_of more
    unfolding bytes_of
    left_is = ap bytes_of e

    left_long : length (bytes_of left) ≡ length (encoded v) + length (bytes_of more)
    left_long = ap length left_is ∙ length-append (encoded v) (bytes_of more)

    pub putting_room : at + length (bytes_of whole) ≤ length entry → place + length (encoded v) ≤ length buffer
    putting_room room = omega (arith, p.end, p.same, left_long)

    pub putting_step : (next : List ℕ) (after : ℕ) → next ≡ sets buffer place (encoded v) → after ≡ place + length (encoded v) → Putting whole more entry next at after
    putting_step next after s t =
        record {
          so_far =
              ap (λ (xs : List ℕ). sets xs after (bytes_of more)) s
              ∙ ap (λ (k : ℕ). sets (sets buffer place (encoded v)) k (bytes_of more)) t
              ∙ sym (sets_append (encoded v) (bytes_of more) buffer place)
              ∙ ap (sets buffer place) (sym left_is)
              ∙ p.so_far;
          end = omega (arith, p.end, left_long, t);
          same = ap length s ∙ length-sets buffer place (encoded v) ∙ p.same;
        }

  module _ (e : left ≡ []) where
    none_left : bytes_of left ≡ []
    unfolding bytes_of
    none_left = ap bytes_of e

    pub putting_end : place ≡ at + length (bytes_of whole)
    putting_end = omega (arith, p.end, ap length none_left)

    pub putting_done : buffer ≡ sets entry at (bytes_of whole)
    putting_done = ap (sets buffer place) (sym none_left) ∙ p.so_far

-- ---- holes: the next difference

module _ (holes : List ℕ) (i before : ℕ) where
  pub gaps_all : length holes ≤ i → gaps_from before (drop i holes) ≡ []
  unfolding gaps_from
  gaps_all h = ap (gaps_from before) (drop_all holes i h)

  module _ (x : ℕ) (e : x ≡ get_or holes i 0) (h : i < length holes) where
    pub gaps_next : gaps_from before (drop i holes) ≡ (x - before) ∷ gaps_from x (drop (i + 1) holes)
    unfolding gaps_from
    gaps_next = ap (gaps_from before) (drop_as holes i x e h)

    pub climbs_next : Climbs before (drop i holes) → (before ≤ x) × Climbs x (drop (i + 1) holes)
    unfolding Climbs
    climbs_next c = rw (drop_as holes i x e h) at c
