-- The scan of `next_set`: at word w, whose bits from b on are those of `word`, no slot from b on and below the word is marked.
-- Why: the first word is masked from b on, a word of 0 has no marked slot, and a word's trailing zeros are its lowest set bit.
-- Assumes nothing.
use mathlib.Core.Path.{◌≡◌, refl, sym, ◌∙◌}
use mathlib.Core.Logic.{◌≢◌, ⊎_elim}
use mathlib.Core.List.{List}
use Prim.Native.Nat.{ℕ, min, ◌+◌, ◌-◌, ◌*◌, ◌/◌, ◌%◌, ◌^◌, ◌≤◌, ◌<◌}
use native.Mathlib.Omega.{arith}
use native.Mathlib.Nat.{lt_of_le_of_lt}
use lib.ListN.{get_or}
use lib.Bits.{bit_and, and_le_l}
use lib.Count.{count_trailing_zeros}
use Rattle.words.specs.Bit.{bit}
use Rattle.words.specs.Map.{slot}
use Rattle.words.specs.Next.{next_set}
use Rattle.words.specs.Cases.{lt_or_ge}
use Rattle.words.specs.BitLaws.{bit_of_zero}
use Rattle.words.specs.ShiftLaws.{and_from, and_from_low}
use Rattle.words.specs.CountLaws.{tz_lt, tz_bit, tz_below}
use Rattle.words.specs.MapLaws.{slot_at}
use Rattle.words.specs.NextLaws.{next_none, next_found}

pub record Scan (ws : List ℕ) (b e last w word : ℕ) : Type 0 where
  pub some : b < e
  pub end : last ≡ (e - 1) / 64
  pub from : b / 64 ≤ w
  pub upto : w ≤ last
  pub fits : word < 2 ^ 64
  pub passed : (k : ℕ) → b ≤ k → k < w * 64 → slot ws k ≡ 0
  pub same : (i : ℕ) → i < 64 → b ≤ w * 64 + i → bit word i ≡ slot ws (w * 64 + i)
  pub cut : (i : ℕ) → i < 64 → w * 64 + i < b → bit word i ≡ 0

pub scan_start_lem : (ws : List ℕ) (b e : ℕ) → b < e → get_or ws (b / 64) 0 < 2 ^ 64
    → Scan ws b e ((e - 1) / 64) (b / 64) (bit_and (get_or ws (b / 64) 0) ((2 ^ 64 - 1) * 2 ^ (b % 64) % 2 ^ 64))
scan_start_lem ws b e h f = record {
  some = h;
  end = refl;
  from = omega arith;
  upto = omega arith;
  fits = lt_of_le_of_lt (and_le_l (get_or ws (b / 64) 0) ((2 ^ 64 - 1) * 2 ^ (b % 64) % 2 ^ 64)) f;
  passed = λ k hk lk. absurd (omega arith);
  same = λ i hi bi. and_from 64 (b % 64) (get_or ws (b / 64) 0) i (omega arith) hi ∙ sym (slot_at ws (b / 64) i hi);
  cut = λ i hi bi. and_from_low 64 (b % 64) (get_or ws (b / 64) 0) i (omega arith);
}

module _ {ws : List ℕ} {b e last w word : ℕ} (s : Scan ws b e last w word) where
  -- the slots of the word below bit t, where the bits below t are 0
  scan_below : (t : ℕ) → t ≤ 64 → ((i : ℕ) → i < t → bit word i ≡ 0) → (k : ℕ) → b ≤ k → k < w * 64 + t → slot ws k ≡ 0
  scan_below t ht z k hk lk =
      ⊎_elim
      (λ l. s.passed k hk l)
      (λ (g : w * 64 ≤ k).
      let q : k ≡ w * 64 + (k - w * 64) = omega arith in
      rw q (sym (s.same (k - w * 64) (omega arith) (omega arith)) ∙ z (k - w * 64) (omega arith)))
      (lt_or_ge k (w * 64))

  scan_zero : word ≡ 0 → (k : ℕ) → b ≤ k → k < w * 64 + 64 → slot ws k ≡ 0
  scan_zero z = scan_below 64 (omega arith) (λ i hi. rw z (bit_of_zero i))

  pub scan_step : word ≡ 0 → w < last → get_or ws (w + 1) 0 < 2 ^ 64 → Scan ws b e last (w + 1) (get_or ws (w + 1) 0)
  scan_step z h f = record {
    some = s.some;
    end = s.end;
    from = omega (arith, s.from);
    upto = omega arith;
    fits = f;
    passed = λ k hk lk. scan_zero z k hk (omega arith);
    same = λ i hi bi. sym (slot_at ws (w + 1) i hi);
    cut = λ i hi bi. absurd (omega (arith, s.from));
  }

  pub scan_none : word ≡ 0 → last ≤ w → next_set ws b e ≡ e
  scan_none z h = next_none ws b e (omega (arith, s.some)) (λ k hk lk. scan_zero z k hk (omega (arith, s.end)))

  module _ (n : word ≢ 0) where
    pub scan_tz : count_trailing_zeros 64 word < 64
    scan_tz = tz_lt 64 word s.fits n

    -- the lowest set bit is no cleared one
    pub scan_from : b ≤ w * 64 + count_trailing_zeros 64 word
    scan_from =
        ⊎_elim
        (λ l. absurd (omega (arith, s.cut (count_trailing_zeros 64 word) scan_tz l, tz_bit 64 word scan_tz)))
        (λ g. g)
        (lt_or_ge (w * 64 + count_trailing_zeros 64 word) b)

    free : (k : ℕ) → b ≤ k → k < w * 64 + count_trailing_zeros 64 word → slot ws k ≡ 0
    free = scan_below (count_trailing_zeros 64 word) (omega (arith, scan_tz)) (λ i hi. tz_below 64 word i hi)

    scan_at : w * 64 + count_trailing_zeros 64 word < e → next_set ws b e ≡ w * 64 + count_trailing_zeros 64 word
    scan_at l =
        next_found ws b e (w * 64 + count_trailing_zeros 64 word) scan_from l
        (sym (s.same (count_trailing_zeros 64 word) scan_tz scan_from) ∙ tz_bit 64 word scan_tz) free

    scan_past : e ≤ w * 64 + count_trailing_zeros 64 word → next_set ws b e ≡ e
    scan_past g = next_none ws b e (omega (arith, s.some)) (λ k hk lk. free k hk (omega arith))

    pub scan_found : next_set ws b e ≡ min e (w * 64 + count_trailing_zeros 64 word)
    scan_found =
        let j : ℕ = w * 64 + count_trailing_zeros 64 word in
        ⊎_elim
        (λ (l : j < e). let m : min e j ≡ j = omega arith in scan_at l ∙ sym m)
        (λ (g : e ≤ j). let m : min e j ≡ e = omega arith in scan_past g ∙ sym m)
        (lt_or_ge j e)
