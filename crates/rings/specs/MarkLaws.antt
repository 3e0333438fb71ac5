-- What a mark in the ring does: the slot itself, every other slot in reach, and the words above the ring.
-- Why: within the ring's length two slots have different places, so this is what a mark does to the bits of words.
-- Assumes nothing.
use Rattle.std.specs.Prelude.{◌≡◌, refl, ◌≢◌, true, false, List, ℕ, ◌+◌, ◌-◌, ◌*◌, ◌/◌, ◌%◌, ◌^◌, ◌≤◌, ◌<◌, length, get_or, set, drop}
use Rattle.std.proofs.Common.{sym, arith}
use Rattle.std.specs.Int.Bits.{bit_and, bit_or}
use Rattle.words.specs.Bit.{bit}
use Rattle.words.specs.Map.{Words}
use Rattle.words.specs.MapLaws.{
  length_marked_at,
  marked_at_same,
  marked_at_other,
  marked_at_words,
  drop_marked_at,
  mark_code,
  length_cleared_at,
  cleared_at_same,
  cleared_at_other,
  drop_cleared_at,
  clear_code,
  cleared_at_marked_at,
}
use Rattle.rings.specs.declared.Ring.{Ring}
use Rattle.rings.specs.Ring.{Shape, word_of, bit_of, ring_bit}
use Rattle.rings.specs.RingLaws.{shape_pos, ring_bit_lt, word_lt, bit_of_lt, apart}
use Rattle.rings.specs.Marks.{ring_marked, ring_unmarked, Took}

pub length_mark : (t words : ℕ) (used : List ℕ) (p : ℕ) → length (ring_marked t words used p) ≡ length used
unfolding ring_marked
length_mark t words used p = length_marked_at used (word_of t words p) (bit_of t p)

pub length_unmark : (t words : ℕ) (used : List ℕ) (p : ℕ) → length (ring_unmarked t words used p) ≡ length used
unfolding ring_unmarked
length_unmark t words used p = length_cleared_at used (word_of t words p) (bit_of t p)

module _ (g : Ring) (s : Shape g) (used : List ℕ) (p : ℕ) where
  -- what stands above the ring stays
  pub drop_mark : (n : ℕ) → g.words ≤ n → drop n (ring_marked g.t g.words used p) ≡ drop n used
  unfolding ring_marked
  drop_mark n h = drop_marked_at used (word_of g.t g.words p) (bit_of g.t p) n (omega (arith, word_lt g.t g.words p (shape_pos g s)))

  pub drop_unmark : (n : ℕ) → g.words ≤ n → drop n (ring_unmarked g.t g.words used p) ≡ drop n used
  unfolding ring_unmarked
  drop_unmark n h = drop_cleared_at used (word_of g.t g.words p) (bit_of g.t p) n (omega (arith, word_lt g.t g.words p (shape_pos g s)))

  -- the words stay words
  pub mark_words : Words used → Words (ring_marked g.t g.words used p)
  unfolding ring_marked
  mark_words h = marked_at_words used (word_of g.t g.words p) (bit_of g.t p) (bit_of_lt g.t p) h

  -- the slot itself
  pub mark_same : g.words ≤ length used → ring_bit g.t g.words (ring_marked g.t g.words used p) p ≡ 1
  unfolding ring_bit ring_marked
  mark_same fits = marked_at_same used (word_of g.t g.words p) (bit_of g.t p) (omega (arith, word_lt g.t g.words p (shape_pos g s)))

  pub unmark_same : ring_bit g.t g.words (ring_unmarked g.t g.words used p) p ≡ 0
  unfolding ring_bit ring_unmarked
  unmark_same = cleared_at_same used (word_of g.t g.words p) (bit_of g.t p) (bit_of_lt g.t p)

  -- the frame law: every other slot in reach
  pub mark_other : (q : ℕ) → q < p + 64 * g.words → p < q + 64 * g.words → q ≢ p
      → ring_bit g.t g.words (ring_marked g.t g.words used p) q ≡ ring_bit g.t g.words used q
  unfolding ring_bit ring_marked
  mark_other q lq lp n =
      marked_at_other used (word_of g.t g.words p) (bit_of g.t p) (word_of g.t g.words q) (bit_of g.t q)
      (λ hw hb. n (apart g.t s.e g.words q p s.size lq lp hw hb))

  pub unmark_other : (q : ℕ) → q < p + 64 * g.words → p < q + 64 * g.words → q ≢ p
      → ring_bit g.t g.words (ring_unmarked g.t g.words used p) q ≡ ring_bit g.t g.words used q
  unfolding ring_bit ring_unmarked
  unmark_other q lq lp n =
      cleared_at_other used (word_of g.t g.words p) (bit_of g.t p) (word_of g.t g.words q) (bit_of g.t q) (bit_of_lt g.t p) (bit_of_lt g.t q)
      (λ hw hb. n (apart g.t s.e g.words q p s.size lq lp hw hb))

  -- a mark taken back
  pub unmark_mark : g.words ≤ length used → Words used → ring_bit g.t g.words used p ≡ 0 → ring_unmarked g.t g.words (ring_marked g.t g.words used p) p ≡ used
  unfolding ring_bit ring_marked ring_unmarked
  unmark_mark fits small e =
      cleared_at_marked_at used (word_of g.t g.words p) (bit_of g.t p) (omega (arith, word_lt g.t g.words p (shape_pos g s))) (bit_of_lt g.t p) (small (word_of g.t g.words p)) e

-- ---- what the code of `take_slot` and `unmark` computes

pub ring_mark_code : (t words : ℕ) (used : List ℕ) (p : ℕ) {w b : ℕ} → w ≡ word_of t words p → b ≡ bit_of t p → b < 64
    → set used w (bit_or (get_or used w 0) (1 * 2 ^ b % 2 ^ 64)) ≡ ring_marked t words used p
unfolding ring_marked
ring_mark_code t words used p {w} {b} hw hb h = rw (hw, hb) (mark_code used (word_of t words p) (bit_of t p) (bit_of_lt t p))

pub ring_clear_code : (t words : ℕ) (used : List ℕ) (p : ℕ) {w b : ℕ} → w ≡ word_of t words p → b ≡ bit_of t p → b < 64
    → set used w (bit_and (get_or used w 0) (2 ^ 64 - 1 - 1 * 2 ^ b % 2 ^ 64)) ≡ ring_unmarked t words used p
unfolding ring_unmarked
ring_clear_code t words used p {w} {b} hw hb h = rw (hw, hb) (clear_code used (word_of t words p) (bit_of t p) (bit_of_lt t p))

pub ring_test_code : (t words : ℕ) (used : List ℕ) (p : ℕ) {w b : ℕ} → w ≡ word_of t words p → b ≡ bit_of t p → get_or used w 0 / 2 ^ b % 2 ≡ ring_bit t words used p
unfolding ring_bit bit
ring_test_code t words used p {w} {b} hw hb = rw (hw, hb) refl

differ : false ≡ true → ⊥
differ e = let z : ◌≡◌ {A = ℕ} 0 1 = cc in omega arith

pub took_no : (g : Ring) (used : List ℕ) (p : ℕ) → ring_bit g.t g.words used p ≡ 1 → Took g used p false used
took_no g used p e = record { yes = λ x. absurd (differ x); no = λ x. (e, refl) }

pub took_yes : (g : Ring) (used : List ℕ) (p : ℕ) {after : List ℕ} → ring_bit g.t g.words used p ≢ 1 → after ≡ ring_marked g.t g.words used p → Took g used p true after
took_yes g used p n e = record { yes = λ x. (omega (arith, ring_bit_lt g.t g.words used p), e); no = λ x. absurd (differ (sym x)) }
