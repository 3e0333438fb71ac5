-- Trailing zeros are the place of the lowest set bit, `w & (w - 1)` and a flip clear it, and ones is the number of set bits.
-- Why: each of them is told by the last digit and the half, so each law goes by induction on the width, by the two digits.
-- Assumes nothing.
use Rattle.std.specs.Prelude.{◌≡◌, ◌≢◌, ℕ, zero, suc, ◌+◌, ◌-◌, ◌/◌, ◌%◌, ◌^◌, ◌≤◌, ◌<◌}
use Rattle.std.proofs.Common.{sym, ap, ◌∙◌, ⊎_elim, arith, lt_of_le_of_lt, pow_pos}
use Rattle.std.specs.Int.Bits.{bit_and, bit_or, bit_xor, and_step, or_step, and_self, or_zero_r}
use Rattle.std.proofs.lemmas.Nat.{and_le_l, and_le_r, ones-le, trailing_le}
use Rattle.std.specs.Int.Count.{count_trailing_zeros, under, ones, ones_step}
use Rattle.words.specs.Bit.{bit, set_below}
use Rattle.words.specs.Cases.{parity, lt_or_ge, same_or_not}
use Rattle.words.specs.BitLaws.{bit_zero, bit_suc, bit_same, and_half, or_half, put_same, put_other, flip_same, flip_other}

-- ---- the lowest set bit

pub tz_even : (k w : ℕ) → w % 2 ≡ 0 → count_trailing_zeros (suc k) w ≡ suc (count_trailing_zeros k (w / 2))
unfolding count_trailing_zeros
tz_even k w e = ap (λ (d : ℕ). under d (count_trailing_zeros k (w / 2))) e

pub tz_odd : (k w : ℕ) → w % 2 ≡ 1 → count_trailing_zeros (suc k) w ≡ 0
unfolding count_trailing_zeros
tz_odd k w e = ap (λ (d : ℕ). under d (count_trailing_zeros k (w / 2))) e

-- the trailing zeros are zeros
pub tz_below : (k w j : ℕ) → j < count_trailing_zeros k w → bit w j ≡ 0
tz_below zero w j h = absurd (omega (arith, trailing_le 0 w))
tz_below (suc k) w zero h = ⊎_elim (λ e. bit_zero w ∙ e) (λ o. absurd (omega (arith, tz_odd k w o))) (parity w)
tz_below (suc k) w (suc j) h =
    ⊎_elim (λ e. bit_suc w j ∙ tz_below k (w / 2) j (omega (arith, tz_even k w e))) (λ o. absurd (omega (arith, tz_odd k w o))) (parity w)

-- and above them stands a set bit, if there is one among the k
pub tz_bit : (k w : ℕ) → count_trailing_zeros k w < k → bit w (count_trailing_zeros k w) ≡ 1
tz_bit zero w h = absurd (omega arith)
tz_bit (suc k) w h =
    ⊎_elim
    (λ e. rw (tz_even k w e) (bit_suc w (count_trailing_zeros k (w / 2)) ∙ tz_bit k (w / 2) (omega (arith, tz_even k w e))))
    (λ o. rw (tz_odd k w o) (bit_zero w ∙ o))
    (parity w)

pub tz_lt : (k w : ℕ) → w < 2 ^ k → w ≢ 0 → count_trailing_zeros k w < k
tz_lt zero w hw h = absurd (h (omega arith))
tz_lt (suc k) w hw h =
    ⊎_elim
    (λ e. omega (arith, tz_even k w e, tz_lt k (w / 2) (omega arith) (omega arith)))
    (λ o. omega (arith, tz_odd k w o))
    (parity w)

pub tz_set : (k w : ℕ) → w < 2 ^ k → w ≢ 0 → bit w (count_trailing_zeros k w) ≡ 1
tz_set k w f h = tz_bit k w (tz_lt k w f h)

-- no set bit is lower
pub tz_le : (k w j : ℕ) → bit w j ≡ 1 → count_trailing_zeros k w ≤ j
tz_le k w j o = ⊎_elim (λ l. absurd (omega (arith, tz_below k w j l))) (λ g. g) (lt_or_ge j (count_trailing_zeros k w))

-- the one number with these two properties
pub tz_unique : (k w t : ℕ) → t < k → bit w t ≡ 1 → ((j : ℕ) → j < t → bit w j ≡ 0) → count_trailing_zeros k w ≡ t
tz_unique zero w t ht hb hz = absurd (omega arith)
tz_unique (suc k) w zero ht hb hz = tz_odd k w (sym (bit_zero w) ∙ hb)
tz_unique (suc k) w (suc t) ht hb hz =
    tz_even k w (sym (bit_zero w) ∙ hz 0 (omega arith))
    ∙ ap suc (tz_unique k (w / 2) t (omega arith) (sym (bit_suc w t) ∙ hb) (λ j h. sym (bit_suc w j) ∙ hz (suc j) (omega arith)))

-- ---- `w & (w - 1)` clears it

pub clear_even : (w : ℕ) → w ≢ 0 → w % 2 ≡ 0 → bit_and w (w - 1) / 2 ≡ bit_and (w / 2) (w / 2 - 1)
clear_even w h e = let p : (w - 1) / 2 ≡ w / 2 - 1 = omega arith in and_half w (w - 1) ∙ ap (bit_and (w / 2)) p

pub clear_odd : (w : ℕ) → w % 2 ≡ 1 → bit_and w (w - 1) / 2 ≡ w / 2
clear_odd w o = let p : (w - 1) / 2 ≡ w / 2 = omega arith in and_half w (w - 1) ∙ ap (bit_and (w / 2)) p ∙ and_self (w / 2)

pub clear_low : (w : ℕ) → bit_and w (w - 1) % 2 ≡ 0
clear_low w = omega (arith, and_step w (w - 1))

pub clear_same : (k w : ℕ) → w < 2 ^ k → w ≢ 0 → bit (bit_and w (w - 1)) (count_trailing_zeros k w) ≡ 0
clear_same zero w hw h = absurd (h (omega arith))
clear_same (suc k) w hw h =
    ⊎_elim
    (λ e. rw (tz_even k w e, bit_suc, clear_even w h e) (clear_same k (w / 2) (omega arith) (omega arith)))
    (λ o. rw (tz_odd k w o, bit_zero) (clear_low w))
    (parity w)

pub clear_other : (k w j : ℕ) → w < 2 ^ k → w ≢ 0 → j ≢ count_trailing_zeros k w → bit (bit_and w (w - 1)) j ≡ bit w j
clear_other zero w j hw h hj = absurd (h (omega arith))
clear_other (suc k) w zero hw h hj =
    ⊎_elim
    (λ e. simp bit_zero (clear_low w ∙ sym e))
    (λ o. absurd (hj (sym (tz_odd k w o))))
    (parity w)
clear_other (suc k) w (suc j) hw h hj =
    ⊎_elim
    (λ e. simp bit_suc (rw (clear_even w h e) (clear_other k (w / 2) j (omega arith) (omega arith) (omega (arith, tz_even k w e)))))
    (λ o. simp bit_suc (rw (clear_odd w o)))
    (parity w)

pub clear_lt : (k w : ℕ) → w < 2 ^ k → bit_and w (w - 1) < 2 ^ k
clear_lt k w h = lt_of_le_of_lt (and_le_l w (w - 1)) h

-- a measure
pub clear_less : (w : ℕ) → w ≢ 0 → bit_and w (w - 1) < w
clear_less w h = omega (arith, and_le_r w (w - 1))

-- the lowest set bit flipped
pub clear_flip : (k w : ℕ) → w < 2 ^ k → w ≢ 0 → bit_and w (w - 1) ≡ bit_xor w (2 ^ count_trailing_zeros k w)
clear_flip k w f h =
    bit_same (bit_and w (w - 1)) (bit_xor w (2 ^ count_trailing_zeros k w))
    (λ i.
    ⊎_elim
    (λ e. rw e (clear_same k w f h ∙ omega (arith, tz_set k w f h) ∙ sym (flip_same w (count_trailing_zeros k w))))
    (λ n. clear_other k w i f h n ∙ sym (flip_other w (count_trailing_zeros k w) i n))
    (same_or_not i (count_trailing_zeros k w)))

-- ---- the number of set bits

pub set_below_suc : (k w : ℕ) → set_below (suc k) w ≡ w % 2 + set_below k (w / 2)
unfolding set_below
set_below_suc zero w = rw bit_zero (omega arith)
set_below_suc (suc k) w = omega (arith, set_below_suc k w, bit_suc w k)

pub ones_count : (k w : ℕ) → w < 2 ^ k → ones w ≡ set_below k w
unfolding set_below
ones_count zero w h = let e : w ≡ 0 = omega arith in rw e (omega (arith, ones-le 0 0 (pow_pos 0)))
ones_count (suc k) w h = omega (arith, ones_step w, ones_count k (w / 2) (omega arith), set_below_suc k w)

pub ones_clear : (k w : ℕ) → w < 2 ^ k → w ≢ 0 → ones w ≡ suc (ones (bit_and w (w - 1)))
ones_clear zero w hw h = absurd (h (omega arith))
ones_clear (suc k) w hw h =
    ⊎_elim
    (λ e. omega (arith, ones_step w, ones_step (bit_and w (w - 1)), clear_low w, ap ones (clear_even w h e), ones_clear k (w / 2) (omega arith) (omega arith)))
    (λ o. omega (arith, ones_step w, ones_step (bit_and w (w - 1)), clear_low w, ap ones (clear_odd w o)))
    (parity w)

pub ones_zero : (k w : ℕ) → w < 2 ^ k → ones w ≡ 0 → w ≡ 0
ones_zero zero w hw h = omega arith
ones_zero (suc k) w hw h = omega (arith, ones_step w, ones_zero k (w / 2) (omega arith) (omega (arith, ones_step w)))

pub ones_pos : (k w : ℕ) → w < 2 ^ k → w ≢ 0 → 1 ≤ ones w
ones_pos k w f h = omega (arith, ones_clear k w f h)

-- the complement has the others
pub ones_not : (k w : ℕ) → w < 2 ^ k → ones ((2 ^ k - 1) - w) + ones w ≡ k
ones_not zero w h =
    let e : w ≡ 0 = omega arith in
    rw e (omega (arith, ones-le 0 0 (pow_pos 0)))
ones_not (suc k) w h =
    let half : ((2 ^ suc k - 1) - w) / 2 ≡ (2 ^ k - 1) - w / 2 = omega (arith, pow_pos k) in
    omega (arith, ones_step ((2 ^ suc k - 1) - w), ones_step w, ap ones half, ones_not k (w / 2) (omega arith), pow_pos k)

-- one bit set or flipped: one more, one less
pub ones_put : (w k : ℕ) → bit w k ≡ 0 → ones (bit_or w (2 ^ k)) ≡ suc (ones w)
ones_put w zero z = omega (arith, ones_step w, ones_step (bit_or w 1), or_step w 1, bit_zero w, ap ones (or_half w 1 ∙ or_zero_r (w / 2)))
ones_put w (suc k) z =
    let half : 2 ^ suc k / 2 ≡ 2 ^ k = omega arith in
    let e : bit_or w (2 ^ suc k) / 2 ≡ bit_or (w / 2) (2 ^ k) = or_half w (2 ^ suc k) ∙ ap (bit_or (w / 2)) half in
    omega (arith, ones_step w, ones_step (bit_or w (2 ^ suc k)), or_step w (2 ^ suc k), ap ones e, ones_put (w / 2) k (sym (bit_suc w k) ∙ z))

pub ones_flip : (w k : ℕ) → bit w k ≡ 1 → ones w ≡ suc (ones (bit_xor w (2 ^ k)))
ones_flip w k o =
    let x : ℕ = bit_xor w (2 ^ k) in
    let back : bit_or x (2 ^ k) ≡ w =
    bit_same (bit_or x (2 ^ k)) w
    (λ i. ⊎_elim (λ e. rw e (put_same x k ∙ sym o)) (λ n. put_other x k i n ∙ flip_other w k i n) (same_or_not i k)) in
    ap ones (sym back) ∙ ones_put x k (flip_same w k ∙ omega (arith, o))
