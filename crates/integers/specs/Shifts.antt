-- What the code's shifts and masks are in numbers: a left shift is a product, a right shift a quotient, a mask a remainder. In the logic
-- `a << k` at 64 bits is a * 2 ^ k % 2 ^ 64 and `a >> k` is a / 2 ^ k. Assumes nothing.
use Rattle.std.specs.Prelude.{◌≡◌, ℕ, ◌+◌, ◌-◌, ◌*◌, ◌%◌, ◌^◌, ◌≤◌, ◌<◌}
use Rattle.std.proofs.Common.{sym, ◌∙◌, subst, one-mul, mod-eq_of_lt, le_of_lt, lt_of_le_of_lt, lt_of_not-le, not-le_of_lt, mul-le-mul_left, arith, pow_mono, pow-add, shl_lt}
use Rattle.std.specs.Int.Bits.{bit_and}
use Rattle.std.proofs.lemmas.Nat.{and_mask, and_le_r}
use Rattle.std.proofs.Math.Pow.{pow-lt}

-- `1 << k`
pub one_shl : (k : ℕ) → k < 64 → (1 * 2 ^ k) % 2 ^ 64 ≡ 2 ^ k
one_shl k h = mod-eq_of_lt (subst (λ (x : ℕ). x < 2 ^ 64) (sym (one-mul (2 ^ k))) (pow-lt h)) ∙ one-mul (2 ^ k)

-- `a << k` where the product fits
pub shl_is : (a k : ℕ) → a * 2 ^ k < 2 ^ 64 → (a * 2 ^ k) % 2 ^ 64 ≡ a * 2 ^ k
shl_is a k h = mod-eq_of_lt h

-- `x & (l - 1)`, where l is a power of two
pub mask_is : (x l k : ℕ) → l ≡ 2 ^ k → bit_and x (l - 1) ≡ x % l
mask_is x l k e = subst (λ (n : ℕ). bit_and x (n - 1) ≡ x % n) (sym e) (and_mask x k)

pub mask_below : (x l : ℕ) → 0 < l → bit_and x (l - 1) < l
mask_below x l h = omega (arith, and_le_r x (l - 1))

-- ---- sizes

-- a number of s bits times one of t bits has at most s + t bits
pub mul_lt_pow : {a b : ℕ} (s t : ℕ) → a < 2 ^ s → b < 2 ^ t → a * b < 2 ^ (s + t)
mul_lt_pow {a} s t ha hb = lt_of_le_of_lt (mul-le-mul_left a (le_of_lt hb)) (shl_lt s t ha)

-- the product of two powers
pub pow_mul_le : (a b s : ℕ) → a + b ≤ s → 2 ^ a * 2 ^ b ≤ 2 ^ s
pow_mul_le a b s h = subst (λ (x : ℕ). x ≤ 2 ^ s) (pow-add 2 a b) (pow_mono h)

-- of two powers, the smaller has the smaller exponent
pub pow_lt_cancel : {a b : ℕ} → 2 ^ a < 2 ^ b → a < b
pow_lt_cancel h = lt_of_not-le (λ g. not-le_of_lt h (pow_mono g))

pub pow_le_cancel : {a b : ℕ} → 2 ^ a ≤ 2 ^ b → a ≤ b
pow_le_cancel {a} {b} h = at_most (λ g. not-le_of_lt (pow-lt g) h)
  where
    at_most : (b < a → ⊥) → a ≤ b
    at_most f = omega arith
