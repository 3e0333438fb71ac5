-- The walk over the set bits of one free word, lowest first: what is left of the word are its bits from the lowest one left on, and the rotations
-- below that bit are done. The test may ask for more than that a rotation is free. Assumes nothing.
use Rattle.std.specs.Prelude.{◌≡◌, ◌≢◌, Bool, not, List, ℕ, suc, ◌+◌, ◌-◌, ◌*◌, ◌^◌, ◌≤◌, ◌<◌, T, length, get_or}
use Rattle.std.proofs.Common.{sym, ap, ◌∙◌, ⊎_elim, arith}
use Rattle.std.specs.Int.Bits.{bit_and}
use Rattle.std.specs.Int.Count.{count_trailing_zeros, trailing_of_zero}
use Rattle.std.proofs.lemmas.Nat.{trailing_le}
use Rattle.words.specs.Bit.{bit}
use Rattle.words.specs.Cases.{lt_or_ge}
use Rattle.words.specs.Map.{slot}
use Rattle.words.specs.MapLaws.{slot_at}
use Rattle.words.specs.CountLaws.{tz_below, tz_bit, tz_lt, clear_same, clear_other, clear_lt}
use Rattle.best.specs.declared.Best.{Best}
use Rattle.best.specs.Best.{better, best_from}
use Rattle.best.specs.BestLaws.{from_pass, from_fail, from_dear, from_fails, from_skip, from_join}
use Rattle.best.specs.Prices.{Ended}

-- only free rotations pass the test
abbrev pub OnlyFree : (test : ℕ → Bool) (free : List ℕ) → Type 0
OnlyFree test free = (i : ℕ) → slot free i ≡ 0 → T (not (test i))

pub record Walk (cost : ℕ → ℕ) (test : ℕ → Bool) (free : List ℕ) (r w : ℕ) (before : Best) (left : ℕ) (best : Best) : Type 0 where
  pub only : OnlyFree test free
  pub fits : left < 2 ^ 64
  pub same : (i : ℕ) → i < 64 → count_trailing_zeros 64 left ≤ i → bit left i ≡ slot free (64 * w + i)
  pub is : best ≡ best_from cost test r before (64 * w) (count_trailing_zeros 64 left)

pub slot_of : (free : List ℕ) (w i : ℕ) → i < 64 → slot free (64 * w + i) ≡ bit (get_or free w 0) i
slot_of free w i h = let e : 64 * w + i ≡ w * 64 + i = omega arith in ap (slot free) e ∙ slot_at free w i h

pub walk_start : (cost : ℕ → ℕ) (test : ℕ → Bool) (free : List ℕ) (r w : ℕ) (before : Best) → OnlyFree test free → get_or free w 0 < 2 ^ 64
    → Walk cost test free r w before (get_or free w 0) before
walk_start cost test free r w before only f = record {
  only = only;
  fits = f;
  same = λ i h l. sym (slot_of free w i h);
  is = sym (from_fails cost test r before (64 * w) (count_trailing_zeros 64 (get_or free w 0)) (λ i a l.
      let q : 64 * w + (i - 64 * w) ≡ i = omega arith in
      only i (ap (slot free) (sym q) ∙ slot_of free w (i - 64 * w) (omega (arith, trailing_le 64 (get_or free w 0))) ∙ tz_below 64 (get_or free w 0) (i - 64 * w) (omega arith))));
}

-- without its lowest bit, a word's lowest bit is a higher one
pub lowest_up : (w : ℕ) → w < 2 ^ 64 → w ≢ 0 → count_trailing_zeros 64 w < count_trailing_zeros 64 (bit_and w (w - 1))
lowest_up w f n =
    ⊎_elim
    (λ h. h)
    (λ (h : count_trailing_zeros 64 (bit_and w (w - 1)) ≤ count_trailing_zeros 64 w).
    let set = tz_bit 64 (bit_and w (w - 1)) (omega (arith, tz_lt 64 w f n)) in
    ⊎_elim
    (λ (l : count_trailing_zeros 64 (bit_and w (w - 1)) < count_trailing_zeros 64 w).
    absurd (omega (
      arith,
      clear_other 64 w (count_trailing_zeros 64 (bit_and w (w - 1))) f n (omega arith),
      tz_below 64 w (count_trailing_zeros 64 (bit_and w (w - 1))) l,
    )))
    (λ (l : count_trailing_zeros 64 w ≤ count_trailing_zeros 64 (bit_and w (w - 1))).
    let e : count_trailing_zeros 64 (bit_and w (w - 1)) ≡ count_trailing_zeros 64 w = omega arith in
    absurd (omega (arith, ap (bit (bit_and w (w - 1))) e, clear_same 64 w f n)))
    (lt_or_ge (count_trailing_zeros 64 (bit_and w (w - 1))) (count_trailing_zeros 64 w)))
    (lt_or_ge (count_trailing_zeros 64 w) (count_trailing_zeros 64 (bit_and w (w - 1))))

module _ {cost : ℕ → ℕ} {test : ℕ → Bool} {free : List ℕ} {r w : ℕ} {before : Best} {left : ℕ} {best : Best} (a : Walk cost test free r w before left best) where
  module _ (n : left ≢ 0) where
    pub walk_lt : count_trailing_zeros 64 left < 64
    walk_lt = tz_lt 64 left a.fits n

    -- the next rotation is a free one
    pub walk_free : slot free (64 * w + count_trailing_zeros 64 left) ≡ 1
    walk_free = sym (a.same (count_trailing_zeros 64 left) walk_lt (omega arith)) ∙ tz_bit 64 left walk_lt

    walk_up : count_trailing_zeros 64 left < count_trailing_zeros 64 (bit_and left (left - 1))
    walk_up = lowest_up left a.fits n

    -- bits above the lowest one
    above : (i : ℕ) → i < 64 → count_trailing_zeros 64 left < i → bit (bit_and left (left - 1)) i ≡ slot free (64 * w + i)
    above i h l = clear_other 64 left i a.fits n (omega arith) ∙ a.same i h (omega arith)

    -- from the rotations up to the lowest bit to those below the next one
    walk_on : {best' : Best} → best' ≡ best_from cost test r before (64 * w) (suc (count_trailing_zeros 64 left)) → Walk cost test free r w before (bit_and left (left - 1)) best'
    walk_on {best'} e = record {
      only = a.only;
      fits = clear_lt 64 left a.fits;
      same = λ i h l. above i h (omega (arith, walk_up));
      is = e
          ∙ sym (from_skip cost test r before (64 * w) (suc (count_trailing_zeros 64 left)) (count_trailing_zeros 64 (bit_and left (left - 1))) walk_up (λ i h l.
          a.only (64 * w + i) (sym (above i (omega (arith, trailing_le 64 (bit_and left (left - 1)))) h) ∙ tz_below 64 (bit_and left (left - 1)) i l)));
    }

    -- the next rotation passes the test, or does not, or costs no less than the best
    pub walk_pass : {best' : Best} → T (test (64 * w + count_trailing_zeros 64 left))
        → best' ≡ better (cost (64 * w + count_trailing_zeros 64 left)) r (64 * w + count_trailing_zeros 64 left) best → Walk cost test free r w before (bit_and left (left - 1)) best'
    walk_pass {best'} t e =
        walk_on (e ∙ ap (better (cost (64 * w + count_trailing_zeros 64 left)) r (64 * w + count_trailing_zeros 64 left)) a.is ∙ sym (from_pass cost test r before (64 * w) (count_trailing_zeros 64 left) t))

    pub walk_fail : T (not (test (64 * w + count_trailing_zeros 64 left))) → Walk cost test free r w before (bit_and left (left - 1)) best
    walk_fail t = walk_on (a.is ∙ sym (from_fail cost test r before (64 * w) (count_trailing_zeros 64 left) t))

    pub walk_dear : best.cost ≤ cost (64 * w + count_trailing_zeros 64 left) → Walk cost test free r w before (bit_and left (left - 1)) best
    walk_dear h = walk_on (a.is ∙ sym (from_dear cost test r before (64 * w) (count_trailing_zeros 64 left) (rw a.is at h)))

  pub walk_end : left ≡ 0 → best ≡ best_from cost test r before (64 * w) 64
  walk_end z = a.is ∙ ap (λ (x : ℕ). best_from cost test r before (64 * w) (count_trailing_zeros 64 x)) z ∙ ap (best_from cost test r before (64 * w)) (trailing_of_zero 64)

-- ---- word after word

pub word_more : (cost : ℕ → ℕ) (test : ℕ → Bool) (r : ℕ) (before : Best) (w : ℕ) {b b' : Best} → b ≡ best_from cost test r before 0 (64 * w)
    → b' ≡ best_from cost test r b (64 * w) 64 → b' ≡ best_from cost test r before 0 (64 * (w + 1))
word_more cost test r before w {b} {b'} is is' =
    let k : 64 * w + 64 ≡ 64 * (w + 1) = omega arith in
    let z : 0 + 64 * w ≡ 64 * w = omega arith in
    is'
    ∙ ap (λ (x : Best). best_from cost test r x (64 * w) 64) is
    ∙ ap (λ (x : ℕ). best_from cost test r (best_from cost test r before 0 (64 * w)) x 64) (sym z)
    ∙ sym (from_join cost test r before 0 (64 * w) 64)
    ∙ ap (best_from cost test r before 0) k

-- no rotation from n on is free
pub word_end : (cost : ℕ → ℕ) (test : ℕ → Bool) (free : List ℕ) (r : ℕ) (before : Best) (n w : ℕ) {b : Best} → OnlyFree test free → Ended n free → length free ≤ w
    → b ≡ best_from cost test r before 0 (64 * w) → b ≡ best_from cost test r before 0 n
word_end cost test free r before n w {b} only a h is =
    is ∙ from_skip cost test r before 0 n (64 * w) (omega (arith, a.whole)) (λ i x l. only (0 + i) (a.none (0 + i) (omega arith)))
