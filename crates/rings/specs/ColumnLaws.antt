-- A column loaded from the bitmap, and what that is to the ring as a cache.
-- Why: the cell of row i and place τ of column c is slot 64 c 2^t + i 2^t + τ, at bit i of the column's word τ. A slot of another column that had its place
-- in these words would be a slot of column c, since within the ring's length no two slots share a place.
-- Assumes nothing.
use Rattle.std.specs.Prelude.{◌≡◌, refl, true, List, length, get_or, set, drop}
use Rattle.std.proofs.Common.{sym, ◌∙◌, mul-le-mul_right, length-set, length-drop, pow_pos, pow_mono, get_or-set_same, get_or-set_other, get_or-drop, ext_get_or, eqb-true, ne_eqb, eq-eqb}
use Rattle.std.proofs.Math.Path.{ap, ap₂}
use Rattle.std.proofs.Math.Logic.{⊎_elim}
use Prim.Native.Nat.{ℕ, suc, ◌+◌, ◌-◌, ◌*◌, ◌/◌, ◌%◌, ◌^◌, ◌≤◌, ◌<◌}
use native.Mathlib.Omega.{arith}
use Rattle.std.proofs.Math.Nat.{mod-lt, mod-eq_of_lt, div-add-mod, mul-le-mul_left}
use Rattle.std.proofs.Math.Arith.{digits_div, digits_mod, mod-mul}
use Rattle.std.specs.Int.Bits.{bit_and, bit_or}
use Rattle.std.proofs.lemmas.Nat.{and_mask}
use Rattle.std.proofs.Math.Pow.{pow-add}
use Rattle.words.specs.Bit.{bit}
use Rattle.words.specs.BitLaws.{bit_or_lem, bit_zero, bit_of_zero, bit_high}
use Rattle.words.specs.ShiftLaws.{bit_shl, bit_shl_low, bit_mod_high}
use Rattle.words.specs.Cases.{lt_or_ge}
use Rattle.words.specs.Map.{slot}
use Rattle.words.specs.MapLaws.{slot_lt, slot_past}
use Rattle.words.specs.Next.{next_set}
use Rattle.words.specs.NextLaws.{next_below, next_none, next_cut, next_over, next_to}
use Rattle.rings.specs.declared.Ring.{Ring}
use Rattle.rings.specs.Ring.{Shape, word_of, bit_of, ring_bit}
use Rattle.rings.specs.Columns.{col_slot, col_word, none_used, Strided, Loaded, Column}
use Rattle.rings.specs.RingLaws.{bit_of_lt, word_split, apart}

-- ---- slots that are not used

pub none_slot : (bitmap : List ℕ) (p e : ℕ) → p ≤ e → none_used bitmap p e ≡ true → (q : ℕ) → p ≤ q → q < e → slot bitmap q ≡ 0
unfolding none_used
none_slot bitmap p e h n q lo hi =
    let x : next_set bitmap p e ≡ e = eqb-true (next_set bitmap p e) e n in
    next_below bitmap p e h q lo (omega arith)

-- past the bitmap's end
pub none_past : (bitmap : List ℕ) (p e : ℕ) → p ≤ e → 64 * length bitmap ≤ p → none_used bitmap p e ≡ true
unfolding none_used
none_past bitmap p e h l = eq-eqb (next_set bitmap p e) e (next_none bitmap p e h (λ k lo hi. slot_past bitmap k (omega arith)))

-- cut at the bitmap's end
pub none_cut : (bitmap : List ℕ) (p m e : ℕ) → p ≤ m → m ≤ e → 64 * length bitmap ≤ m → none_used bitmap p m ≡ none_used bitmap p e
unfolding none_used
none_cut bitmap p m e hp he l =
    ⊎_elim
    (λ (h : next_set bitmap p m < m).
    let x : next_set bitmap p e ≡ next_set bitmap p m = next_cut bitmap p m e hp he h in
    ne_eqb (next_set bitmap p m) m (omega arith) ∙ sym (ne_eqb (next_set bitmap p e) e (omega arith)))
    (λ (h : m ≤ next_set bitmap p m).
    let y : next_set bitmap p m ≡ m = omega (arith, next_to bitmap p m hp) in
    let x : next_set bitmap p e ≡ e = next_over bitmap p m e hp he y ∙ next_none bitmap m e he (λ k lo hi. slot_past bitmap k (omega arith)) in
    eq-eqb (next_set bitmap p m) m y ∙ sym (eq-eqb (next_set bitmap p e) e x))
    (lt_or_ge (next_set bitmap p m) m)

-- ---- the loop of `stride_word`

pub strided_none : (t : ℕ) (bitmap : List ℕ) (p : ℕ) → Strided t bitmap p 0 0
strided_none t bitmap p = record { at = λ j h. absurd (omega arith); past = λ j h. bit_of_zero j }

-- i 2^t of a row i
pub row_lt : (t i : ℕ) → t ≤ 16 → i < 64 → i * 2 ^ t < 2 ^ 22
row_lt t i ht hi = omega (arith, pow_le, mul-le-mul_right (2 ^ t) below)
  where
    below : i ≤ 63
    below = omega arith

    pow_le : 2 ^ t ≤ 2 ^ 16
    pow_le = pow_mono ht

pub row_code : (t p i : ℕ) → t ≤ 16 → i < 64 → p + i * 2 ^ t % 2 ^ 64 ≡ p + i * 2 ^ t
row_code t p i ht hi = ap (λ (x : ℕ). p + x) (mod-eq_of_lt (omega (arith, row_lt t i ht hi)))

pub strided_more : {t : ℕ} {bitmap : List ℕ} {p i w x : ℕ} → Strided t bitmap p i w → i < 64 → x ≡ slot bitmap (p + i * 2 ^ t) → Strided t bitmap p (i + 1) (bit_or w (x * 2 ^ i % 2 ^ 64))
strided_more {t} {bitmap} {p} {i} {w} {x} s h e = record {
  at = λ j hj. bit_or_lem w (x * 2 ^ i % 2 ^ 64) j ∙ ⊎_elim
      (λ (l : j < i). omega (arith, s.at j l, bit_shl_low 64 i x j l))
      (λ (l : i ≤ j).
      let k : j ≡ i = omega arith in
      let z : i - i ≡ 0 = omega arith in
      rw k (omega (arith, s.past i (omega arith), bit_shl 64 i x i (omega arith) h, ap (bit x) z, bit_zero x, e, small)))
      (lt_or_ge j i);
  past = λ j hj. bit_or_lem w (x * 2 ^ i % 2 ^ 64) j ∙ omega (arith, s.past j (omega arith), above j hj);
}
  where
    small : x < 2
    small = rw e (slot_lt bitmap (p + i * 2 ^ t))

    above : (j : ℕ) → i + 1 ≤ j → bit (x * 2 ^ i % 2 ^ 64) j ≡ 0
    above j hj = ⊎_elim
        (λ (l : j < 64). bit_shl 64 i x j (omega arith) l ∙ bit_high 1 x (j - i) (omega (arith, small)) (omega arith))
        (λ (l : 64 ≤ j). bit_mod_high 64 (x * 2 ^ i) j l)
        (lt_or_ge j 64)

-- a row of slots that are not used
pub strided_empty : (t : ℕ) (bitmap : List ℕ) (p : ℕ) → ((j : ℕ) → j < 64 → slot bitmap (p + j * 2 ^ t) ≡ 0) → Strided t bitmap p 64 0
strided_empty t bitmap p h = record { at = λ j l. bit_of_zero j ∙ sym (h j l); past = λ j l. bit_of_zero j }

-- ---- where a column is

-- its rows end where the next begins
cell_lt : (t i τ : ℕ) → i < 64 → τ < 2 ^ t → τ + i * 2 ^ t < 64 * 2 ^ t
cell_lt t i τ hi ht = omega (arith, mul-le-mul_right (2 ^ t) hi, more)
  where
    more : suc i * 2 ^ t ≡ i * 2 ^ t + 2 ^ t
    more = omega arith

-- 64 << t
pub column_lt : (g : Ring) → Shape g → 64 * 2 ^ g.t ≤ 2 ^ 22
column_lt g s = omega (arith, pow_le)
  where
    pow_le : 2 ^ g.t ≤ 2 ^ 16
    pow_le = pow_mono s.stride

pub column_code : (g : Ring) → Shape g → (p : ℕ) → p + 64 * 2 ^ g.t % 2 ^ 64 ≡ p + 64 * 2 ^ g.t
column_code g s p = ap (λ (x : ℕ). p + x) (mod-eq_of_lt (omega (arith, column_lt g s)))

module _ (g : Ring) (s : Shape g) (c : ℕ) where
  col_split : col_word g c ≡ c % 2 ^ s.e * 2 ^ g.t
  unfolding col_word
  col_split =
      rw (s.size, pow-add 2 s.e g.t) (mod-mul (c * 2 ^ g.t) (pow_pos s.e) (pow_pos g.t)
      ∙ ap₂ (λ (x y : ℕ). x % 2 ^ s.e * 2 ^ g.t + y) (whole_div c) (whole_mod c)
      ∙ zero_right)
    where
      zero_right : c % 2 ^ s.e * 2 ^ g.t + 0 ≡ c % 2 ^ s.e * 2 ^ g.t
      zero_right = omega arith

      whole : (x : ℕ) → x * 2 ^ g.t ≡ x * 2 ^ g.t + 0
      whole x = omega arith

      whole_div : (x : ℕ) → x * 2 ^ g.t / 2 ^ g.t ≡ x
      whole_div x = ap (λ (y : ℕ). y / 2 ^ g.t) (whole x) ∙ digits_div x (pow_pos g.t)

      whole_mod : (x : ℕ) → x * 2 ^ g.t % 2 ^ g.t ≡ 0
      whole_mod x = ap (λ (y : ℕ). y % 2 ^ g.t) (whole x) ∙ digits_mod x (pow_pos g.t)

  pub col_end : col_word g c + 2 ^ g.t ≤ g.words
  col_end = rw (col_split, s.size, pow-add 2 s.e g.t) (omega (arith, mul-le-mul_right (2 ^ g.t) (mod-lt c (pow_pos s.e)), more))
    where
      more : suc (c % 2 ^ s.e) * 2 ^ g.t ≡ c % 2 ^ s.e * 2 ^ g.t + 2 ^ g.t
      more = omega arith

  pub col_code : c * 2 ^ g.t < 2 ^ 64 → bit_and (c * 2 ^ g.t % 2 ^ 64) (g.words - 1) ≡ col_word g c
  unfolding col_word
  col_code h =
      let a : c * 2 ^ g.t % 2 ^ 64 ≡ c * 2 ^ g.t = mod-eq_of_lt h in
      rw (a, s.size) (and_mask (c * 2 ^ g.t) (s.e + g.t))

  -- the cell of row i and place τ
  cell_slot : (i τ : ℕ) → col_slot g.t c + τ + i * 2 ^ g.t ≡ (c * 64 + i) * 2 ^ g.t + τ
  cell_slot i τ = omega arith

  cell_bit : (i τ : ℕ) → i < 64 → τ < 2 ^ g.t → bit_of g.t (col_slot g.t c + τ + i * 2 ^ g.t) ≡ i
  unfolding bit_of
  cell_bit i τ hi ht = rw (cell_slot i τ, digits_div (c * 64 + i) ht) (omega arith)

  cell_word : (i τ : ℕ) → i < 64 → τ < 2 ^ g.t → word_of g.t g.words (col_slot g.t c + τ + i * 2 ^ g.t) ≡ col_word g c + τ
  cell_word i τ hi ht =
      let q : ℕ = col_slot g.t c + τ + i * 2 ^ g.t in
      let w : word_of g.t g.words q ≡ q / 2 ^ g.t / 64 % 2 ^ s.e * 2 ^ g.t + q % 2 ^ g.t = rw s.size (word_split g.t s.e q) in
      w ∙ rw (cell_slot i τ, digits_div (c * 64 + i) ht, digits_mod (c * 64 + i) ht, col) (ap (λ (x : ℕ). x + τ) (sym col_split))
    where
      col : (c * 64 + i) / 64 ≡ c
      col = omega arith

  -- every slot of the column is a cell of it
  slot_cell : (q : ℕ) → col_slot g.t c ≤ q → q < col_slot g.t c + 64 * 2 ^ g.t → q ≡ col_slot g.t c + q % 2 ^ g.t + bit_of g.t q * 2 ^ g.t
  unfolding bit_of
  slot_cell q lo hi =
      let a : 64 * c ≤ q / 2 ^ g.t = ⊎_elim (λ (h : q / 2 ^ g.t < 64 * c). absurd (omega (arith, div-add-mod q (2 ^ g.t), mod-lt q (pow_pos g.t), mul-le-mul_left (2 ^ g.t) h, step (q / 2 ^ g.t), low))) (λ (h : 64 * c ≤ q / 2 ^ g.t). h) (lt_or_ge (q / 2 ^ g.t) (64 * c)) in
      let b : q / 2 ^ g.t < 64 * c + 64 = ⊎_elim (λ (h : q / 2 ^ g.t < 64 * c + 64). h) (λ (h : 64 * c + 64 ≤ q / 2 ^ g.t). absurd (omega (arith, div-add-mod q (2 ^ g.t), mul-le-mul_left (2 ^ g.t) h, high))) (lt_or_ge (q / 2 ^ g.t) (64 * c + 64)) in
      let d : q / 2 ^ g.t ≡ 64 * c + q / 2 ^ g.t % 64 = omega arith in
      let m : 2 ^ g.t * (q / 2 ^ g.t) ≡ 2 ^ g.t * (64 * c + q / 2 ^ g.t % 64) = ap (λ (x : ℕ). 2 ^ g.t * x) d in
      omega (arith, div-add-mod q (2 ^ g.t), m, split (q / 2 ^ g.t % 64))
    where
      step : (x : ℕ) → 2 ^ g.t * suc x ≡ 2 ^ g.t * x + 2 ^ g.t
      step x = omega arith

      low : 2 ^ g.t * (64 * c) ≡ col_slot g.t c
      low = omega arith

      high : 2 ^ g.t * (64 * c + 64) ≡ col_slot g.t c + 64 * 2 ^ g.t
      high = omega arith

      split : (x : ℕ) → 2 ^ g.t * (64 * c + x) ≡ col_slot g.t c + x * 2 ^ g.t
      split x = omega arith

-- ---- the loop of `load_rows`

pub loaded_none : (t : ℕ) (l bitmap : List ℕ) (p a : ℕ) → Loaded t l bitmap p a 0 l
loaded_none t l bitmap p a = record { len = refl; inside = λ i h. absurd (omega arith); outside = λ i h. refl }

pub loaded_more : {t : ℕ} {l bitmap : List ℕ} {p a k v : ℕ} {l' : List ℕ} → Loaded t l bitmap p a k l' → a + k < length l → Strided t bitmap (p + k) 64 v
    → Loaded t l bitmap p a (k + 1) (set l' (a + k) v)
loaded_more {t} {l} {bitmap} {p} {a} {k} {v} {l'} m h w = record {
  len = length-set l' (a + k) v ∙ m.len;
  inside = λ i hi. ⊎_elim
      (λ (b : i < k). rw (get_or-set_other l' (a + k) (a + i) v 0 (omega arith)) (m.inside i b))
      (λ (b : k ≤ i). let e : i ≡ k = omega arith in rw (e, get_or-set_same l' (a + k) v 0 (omega (arith, m.len))) w)
      (lt_or_ge i k);
  outside = λ i n. get_or-set_other l' (a + k) i v 0 (λ e. n (omega arith) (omega arith)) ∙ m.outside i (λ lo hi. n lo (omega arith));
}

-- the rows of an empty stretch
pub rows_empty : (t : ℕ) (bitmap : List ℕ) (from i : ℕ) → i < 2 ^ t → none_used bitmap (from * 64) ((from + 2 ^ t) * 64) ≡ true → Strided t bitmap (from * 64 + i) 64 0
rows_empty t bitmap from i hi n =
    strided_empty t bitmap (from * 64 + i) (λ j hj. none_slot bitmap (from * 64) ((from + 2 ^ t) * 64) (omega arith) n (from * 64 + i + j * 2 ^ t) (omega arith) (omega (arith, cell_lt t j i hj hi)))

-- ---- a column that is loaded

module _ {g : Ring} (s : Shape g) {l bitmap : List ℕ} (c : ℕ) {after : List ℕ} (a : Column g l bitmap c after) where
  -- its slots are the bitmap's
  pub column_in : (q : ℕ) → col_slot g.t c ≤ q → q < col_slot g.t c + 64 * 2 ^ g.t → ring_bit g.t g.words after q ≡ slot bitmap q
  unfolding ring_bit
  column_in q lo hi =
      let e : q ≡ col_slot g.t c + q % 2 ^ g.t + bit_of g.t q * 2 ^ g.t = slot_cell g s c q lo hi in
      let τ : q % 2 ^ g.t < 2 ^ g.t = mod-lt q (pow_pos g.t) in
      let w : word_of g.t g.words q ≡ col_word g c + q % 2 ^ g.t = ap (word_of g.t g.words) e ∙ cell_word g s c (bit_of g.t q) (q % 2 ^ g.t) (bit_of_lt g.t q) τ in
      ap (λ (x : ℕ). bit (get_or after x 0) (bit_of g.t q)) w ∙ (a.inside (q % 2 ^ g.t) τ).at (bit_of g.t q) (bit_of_lt g.t q) ∙ ap (slot bitmap) (sym e)

  -- the other slots within a ring's length stay
  pub column_out : (q : ℕ) → q < col_slot g.t c → col_slot g.t c + 64 * 2 ^ g.t ≤ q + 64 * g.words → ring_bit g.t g.words after q ≡ ring_bit g.t g.words l q
  unfolding ring_bit
  column_out q lt near = ap (λ (x : ℕ). bit x (bit_of g.t q)) (a.outside (word_of g.t g.words q) (λ lo hi. clash lo hi))
    where
      back : col_word g c ≤ word_of g.t g.words q → col_word g c + (word_of g.t g.words q - col_word g c) ≡ word_of g.t g.words q
      back h = omega arith

      clash : col_word g c ≤ word_of g.t g.words q → word_of g.t g.words q < col_word g c + 2 ^ g.t → ⊥
      clash lo hi =
          let ht : word_of g.t g.words q - col_word g c < 2 ^ g.t = omega arith in
          let hb : bit_of g.t q < 64 = bit_of_lt g.t q in
          let z : ℕ = col_slot g.t c + (word_of g.t g.words q - col_word g c) + bit_of g.t q * 2 ^ g.t in
          let w : word_of g.t g.words q ≡ word_of g.t g.words z = sym (cell_word g s c (bit_of g.t q) (word_of g.t g.words q - col_word g c) hb ht ∙ back lo) in
          let b : bit_of g.t q ≡ bit_of g.t z = sym (cell_bit g s c (bit_of g.t q) (word_of g.t g.words q - col_word g c) hb ht) in
          let cell : word_of g.t g.words q - col_word g c + bit_of g.t q * 2 ^ g.t < 64 * 2 ^ g.t = cell_lt g.t (bit_of g.t q) (word_of g.t g.words q - col_word g c) hb ht in
          let same : q ≡ z = apart g.t s.e g.words q z s.size (omega arith) (omega arith) w b in
          omega arith

  -- and so does what stands above the ring
  pub column_above : drop g.words after ≡ drop g.words l
  column_above =
      ext_get_or 0 (drop g.words after) (drop g.words l) (length-drop g.words after ∙ ap (λ (n : ℕ). n - g.words) a.len ∙ sym (length-drop g.words l))
      (λ i h. get_or-drop g.words after i 0 ∙ a.outside (g.words + i) (λ lo hi. omega (arith, col_end g s c)) ∙ sym (get_or-drop g.words l i 0))
