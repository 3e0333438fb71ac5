-- The set bits of a word as a list of slots: as many as its ones, and the lowest, by trailing zeros, comes first.
-- Why: the list, ones, trailing zeros and `w & (w - 1)` are each told by the last digit and the half, so each law goes by induction on the width.
-- Assumes nothing.
use mathlib.Core.Path.{◌≡◌, refl, sym, ap, ap₂, ◌∙◌}
use mathlib.Core.Logic.{◌≢◌, ⊎_elim}
use mathlib.Core.List.{List, [], ◌∷◌}
use Prim.Native.Nat.{ℕ, zero, suc, ◌+◌, ◌-◌, ◌/◌, ◌%◌, ◌^◌, ◌<◌}
use native.Mathlib.Omega.{arith}
use lib.Dec.{eqb}
use lib.ListN.{length}
use lib.Bits.{bit_and}
use lib.Count.{ones, ones_step, ones-le, count_trailing_zeros}
use Rattle.words.specs.Cases.{parity}
use Rattle.words.specs.CountLaws.{tz_even, tz_odd, clear_even, clear_odd, clear_low}
use Rattle.rules.specs.Lists.{keep}

-- s + i for each set bit i < k of w, ascending
unfoldable pub set_slots : (s k w : ℕ) → List ℕ
set_slots s zero w = []
set_slots s (suc k) w = keep (eqb (w % 2) 1) s (set_slots (suc s) k (w / 2))

pub slots_odd : (s k w : ℕ) → w % 2 ≡ 1 → set_slots s (suc k) w ≡ s ∷ set_slots (suc s) k (w / 2)
unfolding set_slots
slots_odd s k w o = rw o refl

pub slots_even : (s k w : ℕ) → w % 2 ≡ 0 → set_slots s (suc k) w ≡ set_slots (suc s) k (w / 2)
unfolding set_slots
slots_even s k w e = rw e refl

pub slots_zero : (s k : ℕ) → set_slots s k 0 ≡ []
unfolding set_slots
slots_zero s zero = refl
slots_zero s (suc k) = slots_zero (suc s) k

pub slots_length : (s k w : ℕ) → w < 2 ^ k → length (set_slots s k w) ≡ ones w
unfolding set_slots
slots_length s zero w h = omega (arith, ones-le 0 w h)
slots_length s (suc k) w h =
    ⊎_elim
    (λ e. rw (slots_even s k w e) (slots_length (suc s) k (w / 2) (omega arith) ∙ omega (arith, ones_step w)))
    (λ o. rw (slots_odd s k w o) (ap suc (slots_length (suc s) k (w / 2) (omega arith)) ∙ omega (arith, ones_step w)))
    (parity w)

-- the lowest set bit first, and then those of the word with it cleared
pub slots_next : (s k w : ℕ) → w < 2 ^ k → w ≢ 0 → set_slots s k w ≡ (s + count_trailing_zeros k w) ∷ set_slots s k (bit_and w (w - 1))
slots_next s zero w h n = absurd (n (omega arith))
slots_next s (suc k) w h n =
    ⊎_elim
    (λ e.
    let t : suc s + count_trailing_zeros k (w / 2) ≡ s + count_trailing_zeros (suc k) w = omega (arith, tz_even k w e) in
    slots_even s k w e ∙ slots_next (suc s) k (w / 2) (omega arith) (omega arith)
    ∙ ap₂ (λ (x : ℕ) (l : List ℕ). x ∷ l) t
    (ap (set_slots (suc s) k) (sym (clear_even w n e)) ∙ sym (slots_even s k (bit_and w (w - 1)) (clear_low w))))
    (λ o.
    let t : s ≡ s + count_trailing_zeros (suc k) w = omega (arith, tz_odd k w o) in
    slots_odd s k w o
    ∙ ap₂ (λ (x : ℕ) (l : List ℕ). x ∷ l) t
    (ap (set_slots (suc s) k) (sym (clear_odd w o)) ∙ sym (slots_even s k (bit_and w (w - 1)) (clear_low w))))
    (parity w)
