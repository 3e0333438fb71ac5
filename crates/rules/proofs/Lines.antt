-- The first line that applies. A line that applies gives its number and one that does not is passed over; where the first number is 0 no line
-- applies, since each line's number is at least 1. Assumes nothing.
use mathlib.Core.Path.{◌≡◌, refl, sym, ◌∙◌}
use mathlib.Core.Logic.{◌⊎◌, inl, inr, ◌≢◌}
use mathlib.Core.Bool.{Bool, not}
use mathlib.Core.List.{List, [], ◌∷◌, ◌++◌}
use native.Mathlib.Omega.{arith}
use lib.Dec.{T, ltb, ltb→lt, nltb→le}
use Rattle.rules.specs.Lists.{every}
use Rattle.rules.specs.Numbers.{Line, first_of}
use Rattle.rules.proofs.Tests.{split, is_true, is_false, and_left, and_right}

-- a line whose test is known
pub first_applies : (l : Line) (ls : List Line) → T l.applies → first_of (l ∷ ls) ≡ l.number
unfolding first_of
first_applies l ls t = rw (is_true l.applies t) refl

pub first_skips : (l : Line) (ls : List Line) → T (not l.applies) → first_of (l ∷ ls) ≡ first_of ls
unfolding first_of
first_skips l ls t = rw (is_false l.applies t) refl

-- none of the lines applies
abbrev pub None : List Line → Type 0
None [] = Unit {0}
None (l ∷ ls) = T (not l.applies) × None ls

abbrev pub has_number : Line → Bool
has_number l = ltb 0 l.number

-- each line's number is at least 1
abbrev pub Numbered : List Line → Type 0
Numbered ls = T (every has_number ls)

pub none_first : (xs ys : List Line) → None xs → first_of (xs ++ ys) ≡ first_of ys
none_first [] ys h = refl
none_first (x ∷ xs) ys h = first_skips x (xs ++ ys) h.0 ∙ none_first xs ys h.1

pub none_zero : (xs : List Line) → None xs → first_of xs ≡ 0
unfolding first_of
none_zero [] h = refl
none_zero (x ∷ xs) h = first_skips x xs h.0 ∙ none_zero xs h.1

pub first_at : (xs : List Line) (l : Line) (ys : List Line) → None xs → T l.applies → first_of (xs ++ l ∷ ys) ≡ l.number
first_at xs l ys h t = none_first xs (l ∷ ys) h ∙ first_applies l ys t

pub first_none : (xs : List Line) → Numbered xs → first_of xs ≡ 0 → None xs
first_none [] h e = tt
first_none (x ∷ xs) h e = go (split x.applies) (first_none xs (and_right (has_number x) (every has_number xs) h))
  where
    go : T x.applies ⊎ T (not x.applies) → (first_of xs ≡ 0 → None xs) → None (x ∷ xs)
    go (inl t) ih = absurd (let n = ltb→lt 0 x.number (and_left (has_number x) (every has_number xs) h) in let z = first_applies x xs t in omega arith)
    go (inr t) ih = (t, ih (sym (first_skips x xs t) ∙ e))

-- lines in two parts: the number of the first part, or where that is 0 the number of the second
pub first_append_zero : (xs ys : List Line) → Numbered xs → first_of xs ≡ 0 → first_of (xs ++ ys) ≡ first_of ys
first_append_zero xs ys h e = none_first xs ys (first_none xs h e)

pub first_append_some : (xs ys : List Line) → first_of xs ≢ 0 → first_of (xs ++ ys) ≡ first_of xs
unfolding first_of
first_append_some [] ys h = absurd (h refl)
first_append_some (x ∷ xs) ys h = go (split x.applies) (first_append_some xs ys)
  where
    go : T x.applies ⊎ T (not x.applies) → (first_of xs ≢ 0 → first_of (xs ++ ys) ≡ first_of xs) → first_of (x ∷ (xs ++ ys)) ≡ first_of (x ∷ xs)
    go (inl t) ih = first_applies x (xs ++ ys) t ∙ sym (first_applies x xs t)
    go (inr t) ih = first_skips x (xs ++ ys) t ∙ ih (λ z. h (first_skips x xs t ∙ z)) ∙ sym (first_skips x xs t)

-- both parts at 0
pub first_append_none : (xs ys : List Line) → Numbered xs → first_of (xs ++ ys) ≡ 0 → (first_of xs ≡ 0) × (first_of ys ≡ 0)
first_append_none xs ys h e = (top, sym (first_append_zero xs ys h top) ∙ e)
  where
    go : T (ltb 0 (first_of xs)) ⊎ T (not (ltb 0 (first_of xs))) → first_of xs ≡ 0
    go (inl t) = let p = ltb→lt 0 (first_of xs) t in sym (first_append_some xs ys (λ z. omega arith)) ∙ e
    go (inr t) = omega (arith, nltb→le 0 (first_of xs) t)

    top : first_of xs ≡ 0
    top = go (split (ltb 0 (first_of xs)))
