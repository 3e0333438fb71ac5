-- The bits of `&`, `|`, `^`, `!` and of a power of two, as `min`, `max`, `%` and `-` of the operands' bits, which `omega` reads; a number is its bits.
-- Why: each operation acts on the last digit and on the half by itself (`and_step` and its like), so each law goes by induction on the bit.
-- Assumes nothing.
use Rattle.std.specs.Prelude.{◌≡◌, refl, ◌≢◌, ◌⊎◌, not, ℕ, zero, suc, ◌+◌, ◌-◌, ◌*◌, ◌/◌, ◌%◌, ◌^◌, ◌≤◌, ◌<◌, min, max, eqb}
use Rattle.std.proofs.Common.{sym, ap, ◌∙◌, ⊎_elim, arith, one-add, lt_of_le_of_lt, lt_of_lt_of_le, shr-shr, pow_pos, pow_mono}
use Rattle.std.specs.Int.Bits.{bit_and, bit_or, bit_xor, and_step, or_step, xor_step, differ, xor_add_and}
use Rattle.std.proofs.lemmas.Nat.{and_le_r, or_lt, xor_lt, and_mask}
use Rattle.std.proofs.Math.Pow.{pow-lt}
use Rattle.words.specs.Bit.{bit}
use Rattle.words.specs.Cases.{lt_or_ge, same_or_not, digit}

-- ---- one bit

pub bit_lt : (w i : ℕ) → bit w i < 2
unfolding bit
bit_lt w i = omega arith

pub bit_cases : (w i : ℕ) → (bit w i ≡ 0) ⊎ (bit w i ≡ 1)
bit_cases w i = digit (bit w i) (bit_lt w i)

pub bit_zero : (w : ℕ) → bit w 0 ≡ w % 2
unfolding bit
bit_zero w = omega arith

pub bit_suc : (w i : ℕ) → bit w (suc i) ≡ bit (w / 2) i
unfolding bit
bit_suc w i = ap (λ (x : ℕ). w / 2 ^ x % 2) (sym (one-add i)) ∙ ap (λ (x : ℕ). x % 2) (sym (shr-shr w 1 i))

pub bit_of_zero : (i : ℕ) → bit 0 i ≡ 0
bit_of_zero zero = bit_zero 0
bit_of_zero (suc i) = bit_suc 0 i ∙ bit_of_zero i

-- no bit at or above k
pub bit_high : (k w i : ℕ) → w < 2 ^ k → k ≤ i → bit w i ≡ 0
bit_high zero w i hw hi = let e : w ≡ 0 = omega arith in rw e (bit_of_zero i)
bit_high (suc k) w zero hw hi = absurd (omega arith)
bit_high (suc k) w (suc i) hw hi = bit_suc w i ∙ bit_high k (w / 2) i (omega arith) (omega arith)

-- a number with a set bit is at least that power
pub bit_le : (w i : ℕ) → bit w i ≡ 1 → 2 ^ i ≤ w
bit_le w i h = ⊎_elim (λ l. absurd (omega (arith, bit_high i w i l (omega arith)))) (λ g. g) (lt_or_ge w (2 ^ i))

pub bit_nonzero : (w i : ℕ) → bit w i ≡ 1 → w ≢ 0
bit_nonzero w i h e = omega (arith, h, ap (λ (x : ℕ). bit x i) e, bit_of_zero i)

-- `w >> i & 1 != 0`
pub bit_test : (w i : ℕ) → not (eqb (bit_and (w / 2 ^ i) 1) 0) ≡ eqb (bit w i) 1
unfolding bit
bit_test w i = rw (and_mask (w / 2 ^ i) 1) (go (w / 2 ^ i % 2) (digit (w / 2 ^ i % 2) (omega arith)))
  where
    go : (x : ℕ) → (x ≡ 0) ⊎ (x ≡ 1) → not (eqb x 0) ≡ eqb x 1
    go x c = ⊎_elim (λ e. rw e refl) (λ e. rw e refl) c

-- ---- the operations

pub and_half : (a b : ℕ) → bit_and a b / 2 ≡ bit_and (a / 2) (b / 2)
and_half a b = omega (arith, and_step a b)

pub or_half : (a b : ℕ) → bit_or a b / 2 ≡ bit_or (a / 2) (b / 2)
or_half a b = omega (arith, or_step a b)

differ_digit : (x y : ℕ) → x < 2 → y < 2 → differ x y ≡ (x + y) % 2
differ_digit zero y hx hy = omega arith
differ_digit (suc x) zero hx hy = omega arith
differ_digit (suc zero) (suc zero) hx hy = refl
differ_digit (suc (suc x)) (suc y) hx hy = absurd (omega arith)
differ_digit (suc zero) (suc (suc y)) hx hy = absurd (omega arith)

xor_digits : (a b : ℕ) → bit_xor a b ≡ bit_xor (a / 2) (b / 2) * 2 + (a % 2 + b % 2) % 2
xor_digits a b = xor_step a b ∙ ap (λ (x : ℕ). bit_xor (a / 2) (b / 2) * 2 + x) (differ_digit (a % 2) (b % 2) (omega arith) (omega arith))

pub xor_half : (a b : ℕ) → bit_xor a b / 2 ≡ bit_xor (a / 2) (b / 2)
xor_half a b = omega (arith, xor_digits a b)

pub bit_and_lem : (a b i : ℕ) → bit (bit_and a b) i ≡ min (bit a i) (bit b i)
bit_and_lem a b zero = simp bit_zero (omega (arith, and_step a b))
bit_and_lem a b (suc i) = simp bit_suc (ap (λ (x : ℕ). bit x i) (and_half a b) ∙ bit_and_lem (a / 2) (b / 2) i)

pub bit_or_lem : (a b i : ℕ) → bit (bit_or a b) i ≡ max (bit a i) (bit b i)
bit_or_lem a b zero = simp bit_zero (omega (arith, or_step a b))
bit_or_lem a b (suc i) = simp bit_suc (ap (λ (x : ℕ). bit x i) (or_half a b) ∙ bit_or_lem (a / 2) (b / 2) i)

pub bit_xor_lem : (a b i : ℕ) → bit (bit_xor a b) i ≡ (bit a i + bit b i) % 2
bit_xor_lem a b zero = simp bit_zero (omega (arith, xor_digits a b))
bit_xor_lem a b (suc i) = simp bit_suc (ap (λ (x : ℕ). bit x i) (xor_half a b) ∙ bit_xor_lem (a / 2) (b / 2) i)

-- `!w` at k bits: (2 ^ k - 1) - w
pub bit_not : (k w i : ℕ) → w < 2 ^ k → i < k → bit ((2 ^ k - 1) - w) i ≡ 1 - bit w i
bit_not zero w i hw hi = absurd (omega arith)
bit_not (suc k) w zero hw hi = simp bit_zero (omega (arith, pow_pos k))
bit_not (suc k) w (suc i) hw hi =
    let half : ((2 ^ suc k - 1) - w) / 2 ≡ (2 ^ k - 1) - w / 2 = omega (arith, pow_pos k) in
    simp bit_suc (ap (λ (x : ℕ). bit x i) half ∙ bit_not k (w / 2) i (omega arith) (omega arith))

-- ---- a number is its bits

pub bit_ext : (k a b : ℕ) → a < 2 ^ k → b < 2 ^ k → ((i : ℕ) → i < k → bit a i ≡ bit b i) → a ≡ b
bit_ext zero a b ha hb h = omega arith
bit_ext (suc k) a b ha hb h =
    let low : a % 2 ≡ b % 2 = sym (bit_zero a) ∙ h 0 (omega arith) ∙ bit_zero b in
    let rest : a / 2 ≡ b / 2 = bit_ext k (a / 2) (b / 2) (omega arith) (omega arith) (λ i hi. sym (bit_suc a i) ∙ h (suc i) (omega arith) ∙ bit_suc b i) in
    omega arith

pub all_zero : (k a : ℕ) → a < 2 ^ k → ((i : ℕ) → i < k → bit a i ≡ 0) → a ≡ 0
all_zero k a ha h = bit_ext k a 0 ha (pow_pos k) (λ i hi. h i hi ∙ sym (bit_of_zero i))

lt_pow : (n : ℕ) → n < 2 ^ n
lt_pow zero = omega arith
lt_pow (suc n) = omega (arith, lt_pow n)

-- with no bound on the numbers
pub bit_same : (a b : ℕ) → ((i : ℕ) → bit a i ≡ bit b i) → a ≡ b
bit_same a b h =
    bit_ext (a + b) a b (lt_of_lt_of_le (lt_pow a) (pow_mono (omega arith))) (lt_of_lt_of_le (lt_pow b) (pow_mono (omega arith))) (λ i hi. h i)

-- ---- the one bit of `2 ^ k`

pub bit_pow_same : (k : ℕ) → bit (2 ^ k) k ≡ 1
bit_pow_same zero = bit_zero 1
bit_pow_same (suc k) =
    let half : 2 ^ suc k / 2 ≡ 2 ^ k = omega arith in
    bit_suc (2 ^ suc k) k ∙ ap (λ (x : ℕ). bit x k) half ∙ bit_pow_same k

pub bit_pow_other : (k i : ℕ) → i ≢ k → bit (2 ^ k) i ≡ 0
bit_pow_other zero zero h = absurd (h refl)
bit_pow_other zero (suc i) h = bit_suc 1 i ∙ bit_of_zero i
bit_pow_other (suc k) zero h = bit_zero (2 ^ suc k) ∙ omega arith
bit_pow_other (suc k) (suc i) h =
    let half : 2 ^ suc k / 2 ≡ 2 ^ k = omega arith in
    bit_suc (2 ^ suc k) i ∙ ap (λ (x : ℕ). bit x i) half ∙ bit_pow_other k i (omega arith)

-- ---- one bit set: `w | 1 << k`

pub put_same : (w k : ℕ) → bit (bit_or w (2 ^ k)) k ≡ 1
put_same w k = bit_or_lem w (2 ^ k) k ∙ omega (arith, bit_pow_same k, bit_lt w k)

pub put_other : (w k i : ℕ) → i ≢ k → bit (bit_or w (2 ^ k)) i ≡ bit w i
put_other w k i n = bit_or_lem w (2 ^ k) i ∙ omega (arith, bit_pow_other k i n)

pub put_lt : (n w k : ℕ) → w < 2 ^ n → k < n → bit_or w (2 ^ k) < 2 ^ n
put_lt n w k h l = or_lt n w (2 ^ k) h (pow-lt l)

-- a bit that is set already
pub put_again : (w k : ℕ) → bit w k ≡ 1 → bit_or w (2 ^ k) ≡ w
put_again w k o =
    bit_same (bit_or w (2 ^ k)) w
    (λ i. ⊎_elim (λ e. rw e (put_same w k ∙ sym o)) (λ n. put_other w k i n) (same_or_not i k))

pub put_swap : (w k l : ℕ) → bit_or (bit_or w (2 ^ k)) (2 ^ l) ≡ bit_or (bit_or w (2 ^ l)) (2 ^ k)
put_swap w k l =
    bit_same (bit_or (bit_or w (2 ^ k)) (2 ^ l)) (bit_or (bit_or w (2 ^ l)) (2 ^ k)) (λ i. simp bit_or_lem (omega arith))

-- ---- one bit cleared: `w & !(1 << k)` at n bits

pub wipe_same : (n w k : ℕ) → k < n → bit (bit_and w ((2 ^ n - 1) - 2 ^ k)) k ≡ 0
wipe_same n w k h = bit_and_lem w ((2 ^ n - 1) - 2 ^ k) k ∙ omega (arith, bit_not n (2 ^ k) k (pow-lt h) h, bit_pow_same k)

pub wipe_other : (n w k i : ℕ) → k < n → i < n → i ≢ k → bit (bit_and w ((2 ^ n - 1) - 2 ^ k)) i ≡ bit w i
wipe_other n w k i h hi d =
    bit_and_lem w ((2 ^ n - 1) - 2 ^ k) i ∙ omega (arith, bit_not n (2 ^ k) i (pow-lt h) hi, bit_pow_other k i d, bit_lt w i)

pub wipe_lt : (n w k : ℕ) → bit_and w ((2 ^ n - 1) - 2 ^ k) < 2 ^ n
wipe_lt n w k = lt_of_le_of_lt (and_le_r w ((2 ^ n - 1) - 2 ^ k)) (omega (arith, pow_pos n))

-- a bit that is not set
pub wipe_again : (n w k : ℕ) → w < 2 ^ n → k < n → bit w k ≡ 0 → bit_and w ((2 ^ n - 1) - 2 ^ k) ≡ w
wipe_again n w k f h z =
    bit_ext n (bit_and w ((2 ^ n - 1) - 2 ^ k)) w (wipe_lt n w k) f
    (λ i hi. ⊎_elim (λ e. rw e (wipe_same n w k h ∙ sym z)) (λ d. wipe_other n w k i h hi d) (same_or_not i k))

-- a bit set and taken back, and the other way round
pub wipe_put : (n w k : ℕ) → w < 2 ^ n → k < n → bit w k ≡ 0 → bit_and (bit_or w (2 ^ k)) ((2 ^ n - 1) - 2 ^ k) ≡ w
wipe_put n w k f h z =
    bit_ext n (bit_and (bit_or w (2 ^ k)) ((2 ^ n - 1) - 2 ^ k)) w (wipe_lt n (bit_or w (2 ^ k)) k) f
    (λ i hi.
    ⊎_elim
    (λ e. rw e (wipe_same n (bit_or w (2 ^ k)) k h ∙ sym z))
    (λ d. wipe_other n (bit_or w (2 ^ k)) k i h hi d ∙ put_other w k i d)
    (same_or_not i k))

pub put_wipe : (n w k : ℕ) → w < 2 ^ n → k < n → bit w k ≡ 1 → bit_or (bit_and w ((2 ^ n - 1) - 2 ^ k)) (2 ^ k) ≡ w
put_wipe n w k f h o =
    bit_ext n (bit_or (bit_and w ((2 ^ n - 1) - 2 ^ k)) (2 ^ k)) w (put_lt n (bit_and w ((2 ^ n - 1) - 2 ^ k)) k (wipe_lt n w k) h) f
    (λ i hi.
    ⊎_elim
    (λ e. rw e (put_same (bit_and w ((2 ^ n - 1) - 2 ^ k)) k ∙ sym o))
    (λ d. put_other (bit_and w ((2 ^ n - 1) - 2 ^ k)) k i d ∙ wipe_other n w k i h hi d)
    (same_or_not i k))

-- ---- one bit flipped: `w ^ 1 << k`

pub flip_same : (w k : ℕ) → bit (bit_xor w (2 ^ k)) k ≡ 1 - bit w k
flip_same w k = bit_xor_lem w (2 ^ k) k ∙ omega (arith, bit_pow_same k, bit_lt w k)

pub flip_other : (w k i : ℕ) → i ≢ k → bit (bit_xor w (2 ^ k)) i ≡ bit w i
flip_other w k i n = bit_xor_lem w (2 ^ k) i ∙ omega (arith, bit_pow_other k i n, bit_lt w i)

-- of a set bit it is the bit cleared
pub flip_wipe : (n w k : ℕ) → w < 2 ^ n → k < n → bit w k ≡ 1 → bit_xor w (2 ^ k) ≡ bit_and w ((2 ^ n - 1) - 2 ^ k)
flip_wipe n w k f h o =
    bit_ext n (bit_xor w (2 ^ k)) (bit_and w ((2 ^ n - 1) - 2 ^ k)) (xor_lt n w (2 ^ k) f (pow-lt h)) (wipe_lt n w k)
    (λ i hi.
    ⊎_elim
    (λ e. rw e (flip_same w k ∙ omega (arith, o) ∙ sym (wipe_same n w k h)))
    (λ d. flip_other w k i d ∙ sym (wipe_other n w k i h hi d))
    (same_or_not i k))

-- and the number gets less: a measure
pub flip_less : (w k : ℕ) → bit w k ≡ 1 → bit_xor w (2 ^ k) < w
flip_less w k o =
    let e : bit_and w (2 ^ k) ≡ 2 ^ k =
    bit_same (bit_and w (2 ^ k)) (2 ^ k)
    (λ i.
    bit_and_lem w (2 ^ k) i
    ∙ ⊎_elim (λ e. rw e (omega (arith, o, bit_pow_same k))) (λ n. omega (arith, bit_pow_other k i n)) (same_or_not i k)) in
    omega (arith, xor_add_and w (2 ^ k), pow_pos k)
