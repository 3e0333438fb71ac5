-- The code of `row64` and `ring64` gives the rows wanted.
-- Why: slots 2^t apart are neighbouring bits of a word, and go on at bit 0 of the word one column further; a ring of n slots is a row turned, or two rows joined.
-- Assumes nothing.
use Rattle.std.specs.Prelude.{◌≡◌, refl, List, ℕ, suc, ◌+◌, ◌-◌, ◌*◌, ◌/◌, ◌%◌, ◌^◌, ◌≤◌, ◌<◌, get_or}
use Rattle.std.proofs.Common.{sym, ap, ◌∙◌, ⊎_elim, arith, mod-lt, pow_pos}
use Rattle.std.proofs.Math.Nat.{mod-add-mod, add-mul-div_right, add-mul-mod_self_right}
use Rattle.std.specs.Int.Bits.{bit_and, bit_or}
use Rattle.words.specs.Bit.{bit}
use Rattle.words.specs.Cases.{lt_or_ge}
use Rattle.words.specs.RowLaws.{pair_low, pair_high, turn, turn_here, turn_round, wrap_low, wrap_high}
use Rattle.rings.specs.Ring.{Word, word_of, bit_of, ring_bit}
use Rattle.rings.specs.Rows.{Row, Ring64, Turned, Wrapped}

-- ---- a row from the two words that have it

pub row_div : (t p i : ℕ) → (p + i * 2 ^ t) / 2 ^ t ≡ p / 2 ^ t + i
row_div t p i = add-mul-div_right p i (pow_pos t)

pub row_mod : (t p i : ℕ) → (p + i * 2 ^ t) % 2 ^ t ≡ p % 2 ^ t
row_mod t p i = add-mul-mod_self_right p i (2 ^ t)

-- the slot's bit, in the same column and in the next
row_here : (t words : ℕ) (used : List ℕ) (p i : ℕ) → bit_of t p + i < 64
    → ring_bit t words used (p + i * 2 ^ t) ≡ bit (get_or used (word_of t words p) 0) (bit_of t p + i)
unfolding ring_bit word_of bit_of
row_here t words used p i h =
    let a : (p / 2 ^ t + i) / 64 ≡ p / 2 ^ t / 64 = omega arith in
    let b : (p / 2 ^ t + i) % 64 ≡ p / 2 ^ t % 64 + i = omega arith in
    rw (row_div t p i, row_mod t p i, a, b) refl

row_next : (t words : ℕ) (used : List ℕ) (p i : ℕ) → i < 64 → 64 ≤ bit_of t p + i
    → ring_bit t words used (p + i * 2 ^ t) ≡ bit (get_or used ((word_of t words p + 2 ^ t) % words) 0) (bit_of t p + i - 64)
unfolding ring_bit word_of bit_of
row_next t words used p i hi h =
    let a : (p / 2 ^ t + i) / 64 ≡ suc (p / 2 ^ t / 64) = omega arith in
    let b : (p / 2 ^ t + i) % 64 ≡ p / 2 ^ t % 64 + i - 64 = omega arith in
    let d : suc (p / 2 ^ t / 64) * 2 ^ t + p % 2 ^ t ≡ p / 2 ^ t / 64 * 2 ^ t + p % 2 ^ t + 2 ^ t = omega arith in
    rw (row_div t p i, row_mod t p i, a, b, d, mod-add-mod) refl

pub row_joined : {t words : ℕ} {used : List ℕ} {p w x s r : ℕ} → get_or used w 0 < 2 ^ 64 → Word words (word_of t words p) w → Word words ((w + 2 ^ t) % words) x → s ≡ bit_of t p
    → r ≡ (get_or used x 0 * 2 ^ 64 + get_or used w 0) / 2 ^ s % 2 ^ 64 → Row t words used p r
row_joined {t} {words} {used} {p} {w} {x} {s} {r} small hw hx hs e = record {
  at = λ i hi. ⊎_elim
      (λ (h : bit_of t p + i < 64).
      rw (e, hs) (pair_low (get_or used w 0) (get_or used x 0) (bit_of t p) i small h)
      ∙ ap (λ (y : ℕ). bit (get_or used y 0) (bit_of t p + i)) hw.is
      ∙ sym (row_here t words used p i h))
      (λ (h : 64 ≤ bit_of t p + i).
      rw (e, hs) (pair_high (get_or used w 0) (get_or used x 0) (bit_of t p) i small hi h)
      ∙ ap (λ (y : ℕ). bit (get_or used y 0) (bit_of t p + i - 64)) (hx.is ∙ ap (λ (y : ℕ). (y + 2 ^ t) % words) hw.is)
      ∙ sym (row_next t words used p i hi h))
      (lt_or_ge (bit_of t p + i) 64);
}

-- ---- the code of `turn` and `wrap`

pub turned : (n row x low : ℕ) → n ≤ 64 → x < n → low ≡ row % 2 ^ n → Turned n row x (bit_or (low / 2 ^ x) (low * 2 ^ ((n - x) % 64) % 2 ^ 64))
turned n row x low hn hx hl = record { at = λ j hj. rw hl (turn n row x j hn hx hj) }

pub wrapped : (a b k : ℕ) → k < 64 → Wrapped a b k (bit_or (bit_and a (1 * 2 ^ k % 2 ^ 64 - 1)) (b * 2 ^ k % 2 ^ 64))
wrapped a b k hk = record { low = λ j h. wrap_low a b k j hk h; high = λ j hj h. wrap_high a b k j hk hj h }

-- ---- the three ways of `ring64`
pub ring_short : {t words n : ℕ} {used : List ℕ} {first x row r : ℕ} → n ≤ 64 → x < n → Row t words used first row → Turned n row x r → Ring64 t words n used first x r
ring_short {t} {words} {n} {used} {first} {x} {row} {r} hn hx a b = record {
  at = λ j h hj. b.at j hj ∙ a.at ((x + j) % n) (omega (arith, mod-lt (x + j) (zero_lt hx)));
}
  where
    zero_lt : x < n → 0 < n
    zero_lt h = omega arith

shift_slot : (t first x j : ℕ) → first + x * 2 ^ t + j * 2 ^ t ≡ first + (x + j) * 2 ^ t
shift_slot t first x j = omega arith

pub ring_straight : {t words n : ℕ} {used : List ℕ} {first x p row : ℕ} → x + 64 ≤ n → p ≡ first + x * 2 ^ t → Row t words used p row → Ring64 t words n used first x row
ring_straight {t} {words} {n} {used} {first} {x} {p} {row} hx e a = record {
  at = λ j h hj. a.at j h ∙ rw (e, shift_slot t first x j, turn_here n x j (omega arith)) refl;
}

pub ring_round : {t words n : ℕ} {used : List ℕ} {first x p row row' r : ℕ} → 64 < n → x < n → n < x + 64 → p ≡ first + x * 2 ^ t → Row t words used p row → Row t words used first row'
    → Wrapped row row' (n - x) r → Ring64 t words n used first x r
ring_round {t} {words} {n} {used} {first} {x} {p} {row} {row'} {r} hn hx hr pe a b w = record {
  at = λ j h hj. ⊎_elim
      (λ (l : x + j < n). w.low j (omega arith) ∙ a.at j h ∙ rw (pe, shift_slot t first x j, turn_here n x j l) refl)
      (λ (l : n ≤ x + j).
      let e : x + j - n ≡ j - (n - x) = omega arith in
      w.high j h (omega arith) ∙ b.at (j - (n - x)) (omega arith) ∙ rw (turn_round n x j hx hj l, e) refl)
      (lt_or_ge (x + j) n);
}
