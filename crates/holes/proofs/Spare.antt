-- What the bitmap holds from slot m on makes no difference: two bitmaps of one length that agree below m have the same holes, the same answer and
-- the same buffer. A hole is an unmarked slot below m, so no test of a later slot is in any of the definitions.
-- Assumes nothing.
use mathlib.Core.Path.{◌≡◌, refl, ap, ap₂}
use mathlib.Core.List.{List}
use mathlib.Core.Bool.{Bool, not}
use Prim.Native.Nat.{ℕ, zero, suc, ◌+◌, ◌≤◌, ◌<◌}
use native.Mathlib.Omega.{arith}
use lib.Dec.{eqb}
use lib.ListN.{length}
use Rattle.words.specs.Map.{slot}
use Rattle.rules.specs.Lists.{count_from, keep, filter}
use Rattle.rules.specs.Holes.{unmarked, holes_of}
use Rattle.rules.specs.Numbers.{holes_lines}
use Rattle.rules.specs.Answers.{holes_answer, holes_out}

filter_from : (p q : ℕ → Bool) (i n : ℕ) → ((x : ℕ) → i ≤ x → x < i + n → p x ≡ q x) → filter p (count_from i n) ≡ filter q (count_from i n)
filter_from p q i zero h = refl
filter_from p q i (suc n) h =
    ap₂ (λ (t : Bool) (l : List ℕ). keep t i l) (h i (omega arith) (omega arith)) (filter_from p q (suc i) n (λ x a b. h x (omega arith) (omega arith)))

module _ (m : ℕ) (ws vs : List ℕ) (same : (x : ℕ) → x < m → slot ws x ≡ slot vs x) where
  pub spare_holes : holes_of m ws ≡ holes_of m vs
  unfolding holes_of unmarked
  spare_holes = filter_from (unmarked ws) (unmarked vs) 0 m (λ x a b. ap (λ (y : ℕ). not (eqb y 1)) (same x (omega arith)))

  pub spare_answer : (out : List ℕ) → length ws ≡ length vs → holes_answer m ws out ≡ holes_answer m vs out
  unfolding holes_answer holes_lines
  spare_answer out e = rw (spare_holes, e) refl

  pub spare_out : (out : List ℕ) → length ws ≡ length vs → holes_out m ws out ≡ holes_out m vs out
  unfolding holes_out holes_lines
  spare_out out e = rw (spare_holes, e) refl
