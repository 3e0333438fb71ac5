-- Rows of bits: 64 bits out of a pair of words, the low n bits of a word turned, the low bits of one word under those of another.
-- Why: each row is an `|` of two shifted words of which at every place one is 0 and the other has the bit wanted.
-- Assumes nothing.
use Rattle.std.specs.Prelude.{◌≡◌, ℕ, ◌+◌, ◌-◌, ◌*◌, ◌/◌, ◌%◌, ◌^◌, ◌≤◌, ◌<◌, max}
use Rattle.std.proofs.Common.{sym, ap, ◌∙◌, ⊎_elim, arith, mod-lt, mod-eq_of_lt, lt_of_le_of_lt, pow_pos}
use Rattle.std.proofs.Math.Nat.{mod-eq-sub-mod}
use Rattle.std.specs.Int.Bits.{bit_and, bit_or}
use Rattle.std.proofs.lemmas.Nat.{or_lt, shr_le}
use Rattle.words.specs.Bit.{bit}
use Rattle.words.specs.Cases.{lt_or_ge}
use Rattle.words.specs.BitLaws.{bit_or_lem, bit_high, bit_ext}
use Rattle.words.specs.ShiftLaws.{bit_shr, bit_mod, bit_mod_high, bit_shl, bit_shl_low, bit_pair_low, bit_pair_high, and_low}

-- ---- the 64 bits from bit s on of the pair hi, lo

pub pair_low : (lo hi s i : ℕ) → lo < 2 ^ 64 → s + i < 64 → bit ((hi * 2 ^ 64 + lo) / 2 ^ s % 2 ^ 64) i ≡ bit lo (s + i)
pair_low lo hi s i f h =
    bit_mod 64 ((hi * 2 ^ 64 + lo) / 2 ^ s) i (omega arith) ∙ bit_shr (hi * 2 ^ 64 + lo) s i ∙ bit_pair_low 64 hi lo (s + i) f h

pub pair_high : (lo hi s i : ℕ) → lo < 2 ^ 64 → i < 64 → 64 ≤ s + i → bit ((hi * 2 ^ 64 + lo) / 2 ^ s % 2 ^ 64) i ≡ bit hi (s + i - 64)
pair_high lo hi s i f l h =
    bit_mod 64 ((hi * 2 ^ 64 + lo) / 2 ^ s) i l ∙ bit_shr (hi * 2 ^ 64 + lo) s i ∙ bit_pair_high 64 hi lo (s + i) f h

-- `hi << 1 << (63 - s)`, which is 0 where s is
module _ (hi s : ℕ) (hs : s < 64) where
  above_low : (i : ℕ) → s + i < 64 → bit (hi * 2 % 2 ^ 64 * 2 ^ (63 - s) % 2 ^ 64) i ≡ 0
  above_low i h =
      ⊎_elim
      (λ (l : i < 63 - s). bit_shl_low 64 (63 - s) (hi * 2 % 2 ^ 64) i l)
      (λ (l : 63 - s ≤ i). bit_shl 64 (63 - s) (hi * 2 % 2 ^ 64) i l (omega arith) ∙ bit_shl_low 64 1 hi (i - (63 - s)) (omega arith))
      (lt_or_ge i (63 - s))

  above_high : (i : ℕ) → i < 64 → 64 ≤ s + i → bit (hi * 2 % 2 ^ 64 * 2 ^ (63 - s) % 2 ^ 64) i ≡ bit hi (s + i - 64)
  above_high i l h =
      let e : i - (63 - s) - 1 ≡ s + i - 64 = omega arith in
      bit_shl 64 (63 - s) (hi * 2 % 2 ^ 64) i (omega arith) l
      ∙ bit_shl 64 1 hi (i - (63 - s)) (omega arith) (omega arith)
      ∙ ap (bit hi) e

-- `lo >> s | hi << 1 << (63 - s)`
pub funnel : (lo hi s : ℕ) → lo < 2 ^ 64 → s < 64
    → bit_or (lo / 2 ^ s) (hi * 2 % 2 ^ 64 * 2 ^ (63 - s) % 2 ^ 64) ≡ (hi * 2 ^ 64 + lo) / 2 ^ s % 2 ^ 64
funnel lo hi s f hs =
    bit_ext 64 (bit_or (lo / 2 ^ s) y) ((hi * 2 ^ 64 + lo) / 2 ^ s % 2 ^ 64)
    (or_lt 64 (lo / 2 ^ s) y (lt_of_le_of_lt (shr_le lo s) f) (mod-lt (hi * 2 % 2 ^ 64 * 2 ^ (63 - s)) (pow_pos 64)))
    (mod-lt ((hi * 2 ^ 64 + lo) / 2 ^ s) (pow_pos 64))
    (λ i l.
    let p : bit (bit_or (lo / 2 ^ s) y) i ≡ max (bit lo (s + i)) (bit y i) = bit_or_lem (lo / 2 ^ s) y i ∙ ap (λ (v : ℕ). max v (bit y i)) (bit_shr lo s i) in
    ⊎_elim
    (λ (h : s + i < 64). p ∙ omega (arith, above_low hi s hs i h) ∙ sym (pair_low lo hi s i f h))
    (λ (h : 64 ≤ s + i). p ∙ omega (arith, bit_high 64 lo (s + i) f h, above_high hi s hs i l h) ∙ sym (pair_high lo hi s i f l h))
    (lt_or_ge (s + i) 64))
  where
    y : ℕ
    y = hi * 2 % 2 ^ 64 * 2 ^ (63 - s) % 2 ^ 64

-- ---- the low n bits of a word turned by x: bit j is bit (x + j) % n

-- that place, in its two cases
pub turn_here : (n x j : ℕ) → x + j < n → (x + j) % n ≡ x + j
turn_here n x j h = mod-eq_of_lt h

pub turn_round : (n x j : ℕ) → x < n → j < n → n ≤ x + j → (x + j) % n ≡ x + j - n
turn_round n x j hx hj h = mod-eq-sub-mod h ∙ mod-eq_of_lt (omega arith)

-- `low >> x | low << (n - x) % 64`, where low is the low n bits of row; what stands at n and above is of no meaning
pub turn : (n row x j : ℕ) → n ≤ 64 → x < n → j < n
    → bit (bit_or (row % 2 ^ n / 2 ^ x) (row % 2 ^ n * 2 ^ ((n - x) % 64) % 2 ^ 64)) j ≡ bit row ((x + j) % n)
turn n row x j hn hx hj =
    rw (bit_or_lem, bit_shr)
    (⊎_elim (λ (h : x + j < n). rw (turn_here n x j h) (here h)) (λ (h : n ≤ x + j). rw (turn_round n x j hx hj h) (round h)) (lt_or_ge (x + j) n))
  where
    here : x + j < n → max (bit (row % 2 ^ n) (x + j)) (bit (row % 2 ^ n * 2 ^ ((n - x) % 64) % 2 ^ 64) j) ≡ bit row (x + j)
    here h =
        ⊎_elim
        (λ (l : n - x < 64).
        let s : (n - x) % 64 ≡ n - x = mod-eq_of_lt l in
        rw s (omega (arith, bit_mod n row (x + j) h, bit_shl_low 64 (n - x) (row % 2 ^ n) j (omega arith))))
        (λ (l : 64 ≤ n - x).
        let s : (n - x) % 64 ≡ 0 = omega arith in
        let z : x + j ≡ j = omega arith in
        let e : j - 0 ≡ j = omega arith in
        rw (s, z) (omega (arith, bit_mod n row j hj, bit_shl 64 0 (row % 2 ^ n) j (omega arith) (omega arith), ap (bit (row % 2 ^ n)) e)))
        (lt_or_ge (n - x) 64)

    round : n ≤ x + j → max (bit (row % 2 ^ n) (x + j)) (bit (row % 2 ^ n * 2 ^ ((n - x) % 64) % 2 ^ 64) j) ≡ bit row (x + j - n)
    round h =
        let s : (n - x) % 64 ≡ n - x = mod-eq_of_lt (omega arith) in
        let e : j - (n - x) ≡ x + j - n = omega arith in
        rw s (omega (arith, bit_mod_high n row (x + j) h, bit_shl 64 (n - x) (row % 2 ^ n) j (omega arith) (omega arith), ap (bit (row % 2 ^ n)) e, bit_mod n row (x + j - n) (omega arith)))

-- ---- the low k bits of a, and above them those of b: `a & ((1 << k) - 1) | b << k`

pub wrap_low : (a b k j : ℕ) → k < 64 → j < k → bit (bit_or (bit_and a (1 * 2 ^ k % 2 ^ 64 - 1)) (b * 2 ^ k % 2 ^ 64)) j ≡ bit a j
wrap_low a b k j hk h = rw (and_low 64 k a hk, bit_or_lem) (omega (arith, bit_mod k a j h, bit_shl_low 64 k b j h))

pub wrap_high : (a b k j : ℕ) → k < 64 → j < 64 → k ≤ j → bit (bit_or (bit_and a (1 * 2 ^ k % 2 ^ 64 - 1)) (b * 2 ^ k % 2 ^ 64)) j ≡ bit b (j - k)
wrap_high a b k j hk hj h = rw (and_low 64 k a hk, bit_or_lem) (omega (arith, bit_mod_high k a j h, bit_shl 64 k b j h hj))
