-- Two slots less than the ring's length apart have different places in it, and the code of `word_of` and `next_word` gives these places.
-- Why: a slot's column and its place in the column are the digits of its word, and with its bit they are the slot mod 64 words.
-- Assumes nothing.
use Rattle.std.specs.Prelude.{◌≡◌, refl, List, ℕ, suc, ◌+◌, ◌-◌, ◌*◌, ◌/◌, ◌%◌, ◌^◌, ◌≤◌, ◌<◌, get_or}
use Rattle.std.proofs.Common.{sym, ap, ap₂, ◌∙◌, ⊎_elim, arith, mod-lt, mod-eq_of_lt, mul-le-mul_left, mul-le-mul_right, pow_pos, pow-add, pow_mono}
use Rattle.std.proofs.Math.Nat.{div-add-mod, mod-le}
use Rattle.std.proofs.Math.Arith.{digits_div, digits_mod, mod-mul}
use Rattle.std.specs.Int.Bits.{bit_and}
use Rattle.std.proofs.lemmas.Nat.{and_mask}
use Rattle.words.specs.BitLaws.{bit_lt}
use Rattle.words.specs.ShiftLaws.{one_shl}
use Rattle.words.specs.Cases.{lt_or_ge}
use Rattle.integers.specs.Division.{mod_apart}
use Rattle.rings.specs.declared.Ring.{Ring}
use Rattle.rings.specs.Ring.{Shape, word_of, bit_of, ring_bit}

-- ---- where a slot lives

pub shape_pos : (g : Ring) → Shape g → 0 < g.words
shape_pos g s = rw s.size (pow_pos (s.e + g.t))

pub word_lt : (t words q : ℕ) → 0 < words → word_of t words q < words
unfolding word_of
word_lt t words q h = mod-lt (q / 2 ^ t / 64 * 2 ^ t + q % 2 ^ t) h

pub bit_of_lt : (t q : ℕ) → bit_of t q < 64
unfolding bit_of
bit_of_lt t q = omega arith

pub ring_bit_lt : (t words : ℕ) (used : List ℕ) (q : ℕ) → ring_bit t words used q < 2
unfolding ring_bit
ring_bit_lt t words used q = bit_lt (get_or used (word_of t words q) 0) (bit_of t q)

-- the word's two digits: the column and the place in it
pub word_split : (t e q : ℕ) → word_of t (2 ^ (e + t)) q ≡ q / 2 ^ t / 64 % 2 ^ e * 2 ^ t + q % 2 ^ t
unfolding word_of
word_split t e q =
    let d : q % 2 ^ t < 2 ^ t = mod-lt q (pow_pos t) in
    ap (λ (x : ℕ). (q / 2 ^ t / 64 * 2 ^ t + q % 2 ^ t) % x) (pow-add 2 e t)
    ∙ mod-mul (q / 2 ^ t / 64 * 2 ^ t + q % 2 ^ t) (pow_pos e) (pow_pos t)
    ∙ ap₂ (λ (x y : ℕ). x % 2 ^ e * 2 ^ t + y) (digits_div (q / 2 ^ t / 64) d) (digits_mod (q / 2 ^ t / 64) d)

-- a slot's word and bit tell it but for multiples of the ring's slots
slot_mod : (t e q : ℕ) → q % (2 ^ e * 64 * 2 ^ t) ≡ ((q / 2 ^ t / 64 % 2 ^ e) * 64 + bit_of t q) * 2 ^ t + q % 2 ^ t
unfolding bit_of
slot_mod t e q =
    mod-mul q (omega (arith, pow_pos e)) (pow_pos t)
    ∙ ap (λ (x : ℕ). x * 2 ^ t + q % 2 ^ t) (mod-mul (q / 2 ^ t) (pow_pos e) (omega arith))

same_mod : (t e p q : ℕ) → word_of t (2 ^ (e + t)) p ≡ word_of t (2 ^ (e + t)) q → bit_of t p ≡ bit_of t q
    → p % (2 ^ e * 64 * 2 ^ t) ≡ q % (2 ^ e * 64 * 2 ^ t)
same_mod t e p q hw hb =
    let dp : p % 2 ^ t < 2 ^ t = mod-lt p (pow_pos t) in
    let dq : q % 2 ^ t < 2 ^ t = mod-lt q (pow_pos t) in
    let w : p / 2 ^ t / 64 % 2 ^ e * 2 ^ t + p % 2 ^ t ≡ q / 2 ^ t / 64 % 2 ^ e * 2 ^ t + q % 2 ^ t = sym (word_split t e p) ∙ hw ∙ word_split t e q in
    let c : p / 2 ^ t / 64 % 2 ^ e ≡ q / 2 ^ t / 64 % 2 ^ e = sym (digits_div (p / 2 ^ t / 64 % 2 ^ e) dp) ∙ ap (λ (x : ℕ). x / 2 ^ t) w ∙ digits_div (q / 2 ^ t / 64 % 2 ^ e) dq in
    let r : p % 2 ^ t ≡ q % 2 ^ t = sym (digits_mod (p / 2 ^ t / 64 % 2 ^ e) dp) ∙ ap (λ (x : ℕ). x % 2 ^ t) w ∙ digits_mod (q / 2 ^ t / 64 % 2 ^ e) dq in
    slot_mod t e p ∙ rw (c, hb, r) (sym (slot_mod t e q))

ring_slots_lem : (t e : ℕ) → 64 * 2 ^ (e + t) ≡ 2 ^ e * 64 * 2 ^ t
ring_slots_lem t e = ap (λ (x : ℕ). 64 * x) (pow-add 2 e t) ∙ omega arith

-- two slots less than the ring's length apart are one if their word and bit are
pub apart : (t e words p q : ℕ) → words ≡ 2 ^ (e + t) → p < q + 64 * words → q < p + 64 * words
    → word_of t words p ≡ word_of t words q → bit_of t p ≡ bit_of t q → p ≡ q
apart t e words p q hs lp lq hw hb =
    let n : 64 * words ≡ 2 ^ e * 64 * 2 ^ t = rw hs (ring_slots_lem t e) in
    let m : p % (2 ^ e * 64 * 2 ^ t) ≡ q % (2 ^ e * 64 * 2 ^ t) = same_mod t e p q (rw hs at hw) hb in
    ⊎_elim
    (λ (h : p < q). mod_apart (2 ^ e * 64 * 2 ^ t) p q (omega arith) (omega arith) m)
    (λ (h : q ≤ p). sym (mod_apart (2 ^ e * 64 * 2 ^ t) q p h (omega arith) (sym m)))
    (lt_or_ge p q)

-- ---- the code of `word_of`

pub column_le : (t p : ℕ) → p / 2 ^ t / 64 * 2 ^ t + p % 2 ^ t ≤ p
column_le t p = omega (arith, div-add-mod p (2 ^ t), mul-le-mul_left (2 ^ t) le)
  where
    le : p / 2 ^ t / 64 ≤ p / 2 ^ t
    le = omega arith

pub word_code : (t e words p : ℕ) → t < 64 → p < 2 ^ 64 → words ≡ 2 ^ (e + t)
    → bit_and (p / 2 ^ t / 64 * 2 ^ t % 2 ^ 64 + bit_and p (1 * 2 ^ t % 2 ^ 64 - 1)) (words - 1) ≡ word_of t words p
unfolding word_of
word_code t e words p ht hp hs =
    let low : 1 * 2 ^ t % 2 ^ 64 ≡ 2 ^ t = one_shl 64 t ht in
    let col : p / 2 ^ t / 64 * 2 ^ t % 2 ^ 64 ≡ p / 2 ^ t / 64 * 2 ^ t = mod-eq_of_lt (omega (arith, column_le t p)) in
    rw (low, col, and_mask p t, hs, and_mask) refl

pub word_fits : (t p : ℕ) → t < 64 → p < 2 ^ 64 → p / 2 ^ t / 64 * 2 ^ t % 2 ^ 64 + bit_and p (1 * 2 ^ t % 2 ^ 64 - 1) < 2 ^ 64
word_fits t p ht hp =
    let low : 1 * 2 ^ t % 2 ^ 64 ≡ 2 ^ t = one_shl 64 t ht in
    rw (low, and_mask p t) (omega (arith, column_le t p, mod-le (p / 2 ^ t / 64 * 2 ^ t) (2 ^ 64)))

pub next_code : (t e words w : ℕ) → t < 64 → words ≡ 2 ^ (e + t) → bit_and (w + 1 * 2 ^ t % 2 ^ 64) (words - 1) ≡ (w + 2 ^ t) % words
next_code t e words w ht hs =
    let low : 1 * 2 ^ t % 2 ^ 64 ≡ 2 ^ t = one_shl 64 t ht in
    rw (low, hs, and_mask) refl

-- a stride is at most the words
pub stride_le : (t e words : ℕ) → t < 64 → words ≡ 2 ^ (e + t) → 1 * 2 ^ t % 2 ^ 64 ≤ words
stride_le t e words ht hs = rw (one_shl 64 t ht, hs) (pow_mono (omega arith))

pub n_pos : (g : Ring) → Shape g → 0 < g.n
n_pos g s = rw s.ring (pow_pos s.k)

pub n_le : (g : Ring) → Shape g → g.n ≤ 65536
n_le g s = omega (arith, s.span, mul-le-mul_left g.n (pow_pos g.t))

-- x 2^t of a place x in the ring
pub step_lt : (g : Ring) → Shape g → (x : ℕ) → x < g.n → x * 2 ^ g.t < 65536
step_lt g s x h = omega (arith, s.span, mul-le-mul_right (2 ^ g.t) h, pow_pos g.t, one)
  where
    one : suc x * 2 ^ g.t ≡ x * 2 ^ g.t + 2 ^ g.t
    one = omega arith

pub step_code : (g : Ring) → Shape g → (x : ℕ) → x < g.n → x * 2 ^ g.t % 2 ^ 64 ≡ x * 2 ^ g.t
step_code g s x h = mod-eq_of_lt (omega (arith, step_lt g s x h))
