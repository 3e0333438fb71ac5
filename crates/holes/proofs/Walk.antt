-- The holes word by word: those from word w on are the set bits of its free word and those from the next word on.
-- Why: the free word's bits are the complements of the slots of its word that are below m, and it has no other (`slots_holes`).
-- Assumes nothing.
use mathlib.Core.Path.{◌≡◌, refl, sym, ap, ap₂, ◌∙◌}
use mathlib.Core.Logic.{⊎_elim}
use mathlib.Core.List.{List, [], ◌∷◌, ◌++◌, append-nil}
use mathlib.Core.Bool.{not}
use Prim.Native.Nat.{ℕ, zero, suc, ◌+◌, ◌-◌, ◌*◌, ◌/◌, ◌%◌, ◌^◌, ◌≤◌, ◌<◌, min}
use native.Mathlib.Omega.{arith}
use native.Mathlib.Nat.{suc-add, add-suc, add-zero, mod-lt, lt_of_lt_of_le, min-le_left}
use lib.Dec.{eqb}
use lib.ListN.{length, get_or, length-append}
use lib.Pow.{pow_pos, pow_mono}
use lib.Bits.{bit_and}
use lib.Count.{ones}
use Rattle.words.specs.Bit.{bit}
use Rattle.words.specs.Cases.{lt_or_ge}
use Rattle.words.specs.BitLaws.{bit_zero, bit_suc, bit_not}
use Rattle.words.specs.ShiftLaws.{bit_mod, and_low}
use Rattle.words.specs.Map.{slot}
use Rattle.words.specs.MapLaws.{slot_at, slot_cases}
use Rattle.rules.specs.Lists.{count_from, keep, filter}
use Rattle.rules.specs.Holes.{unmarked, holes_of}
use Rattle.rules.proofs.Counting.{length_from}
use Rattle.holes.specs.Free.{free_bits, free_word}
use Rattle.holes.proofs.Parts.{from_append, filter_append, filter_length}
use Rattle.holes.proofs.SetBits.{set_slots, slots_zero, slots_odd, slots_even, slots_length}

-- ---- slot by slot

-- the holes among the n slots from s on
unfoldable pub holes_from : (bitmap : List ℕ) → (s n : ℕ) → List ℕ
holes_from ws s n = filter (unmarked ws) (count_from s n)

module _ (ws : List ℕ) where
  from_hole : (s n : ℕ) → slot ws s ≡ 0 → holes_from ws s (suc n) ≡ s ∷ holes_from ws (suc s) n
  unfolding holes_from unmarked
  from_hole s n z = ap (λ (x : ℕ). keep (not (eqb x 1)) s (holes_from ws (suc s) n)) z

  from_marked : (s n : ℕ) → slot ws s ≡ 1 → holes_from ws s (suc n) ≡ holes_from ws (suc s) n
  unfolding holes_from unmarked
  from_marked s n o = ap (λ (x : ℕ). keep (not (eqb x 1)) s (holes_from ws (suc s) n)) o

  from_none : (s : ℕ) → holes_from ws s 0 ≡ []
  unfolding holes_from
  from_none s = refl

  from_add : (s a b : ℕ) → holes_from ws s (a + b) ≡ holes_from ws s a ++ holes_from ws (s + a) b
  unfolding holes_from
  from_add s a b = ap (filter (unmarked ws)) (from_append s a b) ∙ filter_append (unmarked ws) (count_from s a) (count_from (s + a) b)

  -- a word whose n low bits are the complements of the n slots from s on, and that has no other, lists the holes there
  slots_holes : (n k s w : ℕ) → n ≤ k → w < 2 ^ n → ((i : ℕ) → i < n → bit w i ≡ 1 - slot ws (s + i)) → set_slots s k w ≡ holes_from ws s n
  slots_holes zero k s w h l f = let e : w ≡ 0 = omega arith in rw e (slots_zero s k ∙ sym (from_none s))
  slots_holes (suc n) zero s w h l f = absurd (omega arith)
  slots_holes (suc n) (suc k) s w h l f =
      let low : w % 2 ≡ 1 - slot ws s = sym (bit_zero w) ∙ f 0 (omega arith) ∙ ap (λ (x : ℕ). 1 - slot ws x) (add-zero s) in
      let rest : set_slots (suc s) k (w / 2) ≡ holes_from ws (suc s) n =
      slots_holes n k (suc s) (w / 2) (omega arith) (omega arith)
      (λ i hi. sym (bit_suc w i) ∙ f (suc i) (omega arith) ∙ ap (λ (x : ℕ). 1 - slot ws x) (add-suc s i ∙ sym (suc-add s i))) in
      ⊎_elim
      (λ z. slots_odd s k w (omega arith) ∙ ap (λ (l : List ℕ). s ∷ l) rest ∙ sym (from_hole s n z))
      (λ o. slots_even s k w (omega arith) ∙ rest ∙ sym (from_marked s n o))
      (slot_cases ws s)

-- ---- word by word

-- the holes from word w on
unfoldable pub rest_from : (m : ℕ) → (bitmap : List ℕ) → (w : ℕ) → List ℕ
rest_from m ws w = holes_from ws (w * 64) (m - w * 64)

module _ (m : ℕ) (ws : List ℕ) where
  pub free_lt : (w : ℕ) → free_word m ws w < 2 ^ 64
  unfolding free_bits
  free_lt w = lt_of_lt_of_le (mod-lt ((2 ^ 64 - 1) - get_or ws w 0) (pow_pos (min 64 (m - w * 64)))) (pow_mono (min-le_left 64 (m - w * 64)))

  free_holes : (w : ℕ) → get_or ws w 0 < 2 ^ 64 → set_slots (w * 64) 64 (free_word m ws w) ≡ holes_from ws (w * 64) (min 64 (m - w * 64))
  unfolding free_bits
  free_holes w h =
      slots_holes ws v 64 (w * 64) (x % 2 ^ v) (omega arith) (mod-lt x (pow_pos v))
      (λ i hi. bit_mod v x i hi ∙ bit_not 64 (get_or ws w 0) i h (omega arith) ∙ ap (λ (y : ℕ). 1 - y) (sym (slot_at ws w i (omega arith))))
    where
      v : ℕ
      v = min 64 (m - w * 64)

      x : ℕ
      x = (2 ^ 64 - 1) - get_or ws w 0

  pub rest_all : rest_from m ws 0 ≡ holes_of m ws
  unfolding rest_from holes_from holes_of
  rest_all = let e : m - 0 ≡ m = omega arith in ap (holes_from ws 0) e

  pub rest_none : (w : ℕ) → m ≤ w * 64 → rest_from m ws w ≡ []
  unfolding rest_from
  rest_none w h = let e : m - w * 64 ≡ 0 = omega arith in rw e (from_none ws (w * 64))

  pub rest_step : (w : ℕ) → get_or ws w 0 < 2 ^ 64 → rest_from m ws w ≡ set_slots (w * 64) 64 (free_word m ws w) ++ rest_from m ws (w + 1)
  unfolding rest_from
  rest_step w h =
      ⊎_elim
      (λ l.
      let v : min 64 (m - w * 64) ≡ m - w * 64 = omega arith in
      let z : m - (w + 1) * 64 ≡ 0 = omega arith in
      rw (free_holes w h, v, z, from_none) (sym (append-nil (holes_from ws (w * 64) (m - w * 64)))))
      (λ (g : 64 ≤ m - w * 64).
      let v : min 64 (m - w * 64) ≡ 64 = omega arith in
      let a : m - w * 64 ≡ 64 + (m - (w + 1) * 64) = omega arith in
      let b : w * 64 + 64 ≡ (w + 1) * 64 = omega arith in
      ap (holes_from ws (w * 64)) a ∙ from_add ws (w * 64) 64 (m - (w + 1) * 64)
      ∙ ap₂ (λ (k s : ℕ). holes_from ws (w * 64) k ++ holes_from ws s (m - (w + 1) * 64)) (sym v) b
      ∙ ap (λ (l : List ℕ). l ++ holes_from ws ((w + 1) * 64) (m - (w + 1) * 64)) (sym (free_holes w h)))
      (lt_or_ge (m - w * 64) 64)

  -- ---- how many

  pub holes_length : length (holes_of m ws) ≤ m
  unfolding holes_of
  holes_length = omega (arith, filter_length (unmarked ws) (count_from 0 m), length_from 0 m)

  pub count_step : (w : ℕ) → get_or ws w 0 < 2 ^ 64 → length (rest_from m ws w) ≡ ones (free_word m ws w) + length (rest_from m ws (w + 1))
  count_step w h =
      ap length (rest_step w h) ∙ length-append (set_slots (w * 64) 64 (free_word m ws w)) (rest_from m ws (w + 1))
      ∙ ap (λ (x : ℕ). x + length (rest_from m ws (w + 1))) (slots_length (w * 64) 64 (free_word m ws w) (free_lt w))

-- a mask of so many ones cuts a word
pub masked : (x v : ℕ) → v < 64 → bit_and x (1 * 2 ^ v % 2 ^ 64 - 1) ≡ x % 2 ^ v
masked x v h = and_low 64 v x h
