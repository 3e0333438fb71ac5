-- The bits of `<<`, `>>`, of masks and remainders, and of one word above another.
-- Why: a shift is a product or a quotient by a power of two, and moves each bit by as many places; the rest goes by induction on the width.
-- Assumes nothing.
use Rattle.std.specs.Prelude.{◌≡◌, ℕ, zero, suc, ◌+◌, ◌-◌, ◌*◌, ◌/◌, ◌%◌, ◌^◌, ◌≤◌, ◌<◌}
use Rattle.std.proofs.Common.{sym, ap, ◌∙◌, ⊎_elim, arith, add-one, mod-lt, mod-eq_of_lt, shr-shr, pow_pos}
use Rattle.std.specs.Int.Bits.{bit_and, shifted_half, shifted_even}
use Rattle.std.proofs.lemmas.Nat.{and_mask, shl-shr, mod-pow-add}
use Rattle.std.proofs.Math.Pow.{pow-lt, high, low}
use Rattle.words.specs.Bit.{bit}
use Rattle.words.specs.Cases.{lt_or_ge}
use Rattle.words.specs.BitLaws.{bit_zero, bit_suc, bit_high, bit_and_lem, bit_lt}

-- ---- `w >> k`

pub bit_shr : (w k i : ℕ) → bit (w / 2 ^ k) i ≡ bit w (k + i)
unfolding bit
bit_shr w k i = ap (λ (x : ℕ). x % 2) (shr-shr w k i)

-- ---- masks

-- `(1 << k) - 1`
pub bit_mask : (k i : ℕ) → i < k → bit (2 ^ k - 1) i ≡ 1
bit_mask zero i hi = absurd (omega arith)
bit_mask (suc k) zero hi = bit_zero (2 ^ suc k - 1) ∙ omega (arith, pow_pos k)
bit_mask (suc k) (suc i) hi =
    let half : (2 ^ suc k - 1) / 2 ≡ 2 ^ k - 1 = omega (arith, pow_pos k) in
    bit_suc (2 ^ suc k - 1) i ∙ ap (λ (x : ℕ). bit x i) half ∙ bit_mask k i (omega arith)

pub bit_mask_high : (k i : ℕ) → k ≤ i → bit (2 ^ k - 1) i ≡ 0
bit_mask_high k i hi = bit_high k (2 ^ k - 1) i (omega (arith, pow_pos k)) hi

-- `w % 2 ^ k`, which `w & ((1 << k) - 1)` is (`and_mask` of lib.Bits), and as which `<<` at k bits ends
mod_step : (k w : ℕ) → w % 2 ^ suc k ≡ w / 2 % 2 ^ k * 2 + w % 2
mod_step k w = ap (λ (x : ℕ). w % 2 ^ x) (sym (add-one k)) ∙ mod-pow-add w k 1

pub bit_mod : (k w i : ℕ) → i < k → bit (w % 2 ^ k) i ≡ bit w i
bit_mod zero w i hi = absurd (omega arith)
bit_mod (suc k) w zero hi = simp bit_zero (omega (arith, mod_step k w))
bit_mod (suc k) w (suc i) hi =
    let half : w % 2 ^ suc k / 2 ≡ w / 2 % 2 ^ k = omega (arith, mod_step k w) in
    simp bit_suc (ap (λ (x : ℕ). bit x i) half ∙ bit_mod k (w / 2) i (omega arith))

pub bit_mod_high : (k w i : ℕ) → k ≤ i → bit (w % 2 ^ k) i ≡ 0
bit_mod_high k w i hi = bit_high k (w % 2 ^ k) i (mod-lt w (pow_pos k)) hi

-- ---- `w * 2 ^ k`: the bits move up by k

pub bit_mul_low : (k w i : ℕ) → i < k → bit (w * 2 ^ k) i ≡ 0
bit_mul_low zero w i hi = absurd (omega arith)
bit_mul_low (suc k) w zero hi = bit_zero (w * 2 ^ suc k) ∙ shifted_even w k
bit_mul_low (suc k) w (suc i) hi = bit_suc (w * 2 ^ suc k) i ∙ ap (λ (x : ℕ). bit x i) (shifted_half w k) ∙ bit_mul_low k w i (omega arith)

pub bit_mul : (k w i : ℕ) → bit (w * 2 ^ k) (k + i) ≡ bit w i
bit_mul k w i = sym (bit_shr (w * 2 ^ k) k i) ∙ ap (λ (x : ℕ). bit x i) (shl-shr w k)

pub bit_mul_high : (k w i : ℕ) → k ≤ i → bit (w * 2 ^ k) i ≡ bit w (i - k)
bit_mul_high k w i hi = let e : i ≡ k + (i - k) = omega arith in ap (bit (w * 2 ^ k)) e ∙ bit_mul k w (i - k)

-- ---- `w << k` at n bits

pub bit_shl_low : (n k w i : ℕ) → i < k → bit (w * 2 ^ k % 2 ^ n) i ≡ 0
bit_shl_low n k w i hi = ⊎_elim (λ h. bit_mod n (w * 2 ^ k) i h ∙ bit_mul_low k w i hi) (λ h. bit_mod_high n (w * 2 ^ k) i h) (lt_or_ge i n)

pub bit_shl : (n k w i : ℕ) → k ≤ i → i < n → bit (w * 2 ^ k % 2 ^ n) i ≡ bit w (i - k)
bit_shl n k w i hk hn = bit_mod n (w * 2 ^ k) i hn ∙ bit_mul_high k w i hk

-- `1 << k` does not wrap, and so `(1 << k) - 1` does not either
pub one_shl : (n k : ℕ) → k < n → 1 * 2 ^ k % 2 ^ n ≡ 2 ^ k
one_shl n k h = let e : 1 * 2 ^ k ≡ 2 ^ k = omega arith in rw e (mod-eq_of_lt (pow-lt h))

pub one_shl_pos : (n k : ℕ) → k < n → 1 ≤ 1 * 2 ^ k % 2 ^ n
one_shl_pos n k h = omega (arith, one_shl n k h, pow_pos k)

-- `w & ((1 << k) - 1)`
pub and_low : (n k w : ℕ) → k < n → bit_and w (1 * 2 ^ k % 2 ^ n - 1) ≡ w % 2 ^ k
and_low n k w h = rw (one_shl n k h) (and_mask w k)

-- `!0 << k`: ones from k on
pub ones_shl : (n k i : ℕ) → k ≤ i → i < n → bit ((2 ^ n - 1) * 2 ^ k % 2 ^ n) i ≡ 1
ones_shl n k i hk hn = bit_shl n k (2 ^ n - 1) i hk hn ∙ bit_mask n (i - k) (omega arith)

pub ones_shl_low : (n k i : ℕ) → i < k → bit ((2 ^ n - 1) * 2 ^ k % 2 ^ n) i ≡ 0
ones_shl_low n k i h = bit_shl_low n k (2 ^ n - 1) i h

-- `w & !0 << k`: the bits from k on
pub and_from : (n k w i : ℕ) → k ≤ i → i < n → bit (bit_and w ((2 ^ n - 1) * 2 ^ k % 2 ^ n)) i ≡ bit w i
and_from n k w i hk hn = bit_and_lem w ((2 ^ n - 1) * 2 ^ k % 2 ^ n) i ∙ omega (arith, ones_shl n k i hk hn, bit_lt w i)

pub and_from_low : (n k w i : ℕ) → i < k → bit (bit_and w ((2 ^ n - 1) * 2 ^ k % 2 ^ n)) i ≡ 0
and_from_low n k w i h = bit_and_lem w ((2 ^ n - 1) * 2 ^ k % 2 ^ n) i ∙ omega (arith, ones_shl_low n k i h)

-- ---- a word above another: `hi * 2 ^ k + lo`

pub bit_pair_low : (k hi lo i : ℕ) → lo < 2 ^ k → i < k → bit (hi * 2 ^ k + lo) i ≡ bit lo i
bit_pair_low k hi lo i h l = sym (bit_mod k (hi * 2 ^ k + lo) i l) ∙ ap (λ (x : ℕ). bit x i) (low hi k h)

pub bit_pair_high : (k hi lo i : ℕ) → lo < 2 ^ k → k ≤ i → bit (hi * 2 ^ k + lo) i ≡ bit hi (i - k)
bit_pair_high k hi lo i h g =
    let e : i ≡ k + (i - k) = omega arith in
    ap (bit (hi * 2 ^ k + lo)) e ∙ sym (bit_shr (hi * 2 ^ k + lo) k (i - k)) ∙ ap (λ (x : ℕ). bit x (i - k)) (high hi k h)
