-- The best of all numbers, as layout and rotation, is the best free rotation of all layouts. Why: numbers go up layout by layout and within a layout rotation
-- by rotation, which is the order in which `best_of` takes them, and no rotation from n on is free. Assumes nothing.
use mathlib.Core.Path.{◌≡◌, refl, sym, ap, ◌∙◌}
use mathlib.Core.Logic.{⊎_elim}
use mathlib.Core.Bool.{Bool, not}
use mathlib.Core.List.{List}
use Prim.Native.Nat.{ℕ, zero, suc, ◌+◌, ◌-◌, ◌*◌, ◌/◌, ◌%◌, ◌^◌, ◌≤◌, ◌<◌}
use native.Mathlib.Omega.{arith}
use native.Mathlib.Nat.{mul-le-mul_right, mod-lt}
use lib.Bits.{bit_and}
use lib.Count.{count_trailing_zeros}
use lib.Dec.{T}
use lib.ListN.{length, take, drop}
use lib.Pow.{pow_pos, pow_mono, pow-add, high, low}
use lib.Pow as Pow
use Rattle.words.specs.Cases.{lt_or_ge}
use Rattle.words.specs.BitLaws.{bit_pow_same, bit_pow_other}
use Rattle.words.specs.CountLaws.{tz_unique}
use Rattle.words.specs.MapLaws.{slot_part}
use Rattle.integers.specs.Shifts.{one_shl, mask_is, pow_le_cancel}
use Rattle.rules.proofs.Tests.{split}
use Rattle.rings.specs.declared.Ring.{Ring}
use Rattle.rings.specs.Keys.{cost_at}
use Rattle.rings.specs.Parts.{part, length_part, part_range}
use Rattle.best.specs.declared.Best.{Best}
use Rattle.best.specs.Best.{nothing, better, best_from, best_of}
use Rattle.best.specs.BestLaws.{better_less, better_not, from_none, from_pass, from_fail, from_join, from_skip, of_none, of_more}
use Rattle.best.specs.Prices.{is_free, cost_in, free_in, best_free, EndedAll}
use Rattle.best.specs.PriceLaws.{free_zero}
use Rattle.best.specs.Layouts.{row_le, part_part}
use Rattle.best.specs.Flat.{flat_cost, best_flat, layout_of, Power}

-- ---- the code's shift

module _ {count : ℕ} (p : Power count) (h : count ≤ 1024) where
  power_small : p.e ≤ 10
  power_small = pow_le_cancel (rw p.is at h)

  pub shift_is : count_trailing_zeros 64 count ≡ p.e
  shift_is =
      ap (count_trailing_zeros 64) p.is
      ∙ tz_unique 64 (2 ^ p.e) p.e (omega (arith, power_small)) (bit_pow_same p.e) (λ j l. bit_pow_other p.e j (omega arith))

  pub shift_le : count_trailing_zeros 64 count ≤ 10
  shift_le = omega (arith, shift_is, power_small)

  pub shift_bits : 2 ^ (count_trailing_zeros 64 count + 6) ≡ 64 * count
  shift_bits =
      ap (λ (x : ℕ). 2 ^ (x + 6)) shift_is ∙ pow-add 2 p.e 6 ∙ omega (arith, p.is)

-- `q & ((1 << shift) - 1)`
pub low_code : (q shift : ℕ) → shift ≤ 16 → bit_and q (1 * 2 ^ shift % 2 ^ 64 - 1) ≡ q % 2 ^ shift
low_code q shift h = rw (one_shl shift (omega arith)) (mask_is q (2 ^ shift) shift refl)

pub low_small : (q shift : ℕ) → shift ≤ 16 → bit_and q (1 * 2 ^ shift % 2 ^ 64 - 1) < 65536
low_small q shift h = rw (low_code q shift h) (omega (arith, mod-lt q (pow_pos shift), pow_mono h))

-- what the code has of a number, in its layout's terms
pub layout_code : (shift : ℕ) (b : Best) {j : ℕ} → j ≡ b.j % 2 ^ shift → record { cost = b.cost; r = b.j / 2 ^ shift; j = j } ≡ layout_of shift b
unfolding layout_of
layout_code shift b e = rw e refl

pub cost_code : (g : Ring) (table work : List ℕ) (at size shift q : ℕ) {j : ℕ} → j ≡ q % 2 ^ shift
    → cost_at g table (take (at + q / 2 ^ shift * size + size - (at + q / 2 ^ shift * size)) (drop (at + q / 2 ^ shift * size) work)) j ≡ flat_cost g table work at size shift q
unfolding flat_cost
cost_code g table work at size shift q e = rw (e, part_range work (at + q / 2 ^ shift * size) size) refl

-- ---- one number, the numbers of a layout, and all layouts

better_layout : (shift c r k : ℕ) (b : Best) → k < 2 ^ shift → layout_of shift (better c 0 (r * 2 ^ shift + k) b) ≡ better c r k (layout_of shift b)
unfolding layout_of
better_layout shift c r k b l =
    ⊎_elim
    (λ (h : c < b.cost). rw (better_less c 0 (r * 2 ^ shift + k) b h, better_less c r k (layout_of shift b) h, high r shift l, low r shift l) refl)
    (λ (h : b.cost ≤ c). rw (better_not c 0 (r * 2 ^ shift + k) b h, better_not c r k (layout_of shift b) h) refl)
    (lt_or_ge c b.cost)

layout_nothing : (shift : ℕ) → layout_of shift nothing ≡ nothing
unfolding layout_of
layout_nothing shift =
    let z : 0 * 2 ^ shift + 0 ≡ 0 = omega arith in
    let h : (0 * 2 ^ shift + 0) / 2 ^ shift ≡ 0 = high 0 shift (pow_pos shift) in
    let l : (0 * 2 ^ shift + 0) % 2 ^ shift ≡ 0 = low 0 shift (pow_pos shift) in
    rw (rw z at h, rw z at l) refl

module _ (shift : ℕ) (flat : ℕ → ℕ) (free : ℕ → Bool) (cost : ℕ → ℕ → ℕ) (test : ℕ → ℕ → Bool) where
  abbrev Same : (r : ℕ) → Type 0
  Same r = (k : ℕ) → k < 2 ^ shift → (flat (r * 2 ^ shift + k) ≡ cost r k) × (free (r * 2 ^ shift + k) ≡ test r k)

  layout_from : (r : ℕ) → Same r → (b : Best) (k : ℕ) → k ≤ 2 ^ shift
      → layout_of shift (best_from flat free 0 b (r * 2 ^ shift) k) ≡ best_from (cost r) (test r) r (layout_of shift b) 0 k
  layout_from r same b zero h = ap (layout_of shift) (from_none flat free 0 b (r * 2 ^ shift)) ∙ sym (from_none (cost r) (test r) r (layout_of shift b) 0)
  layout_from r same b (suc k) h =
      let again : layout_of shift (best_from flat free 0 b (r * 2 ^ shift) k) ≡ best_from (cost r) (test r) r (layout_of shift b) 0 k = layout_from r same b k (omega arith) in
      let e = same k (omega arith) in
      let z : 0 + k ≡ k = omega arith in
      ⊎_elim
      (λ t.
      ap (layout_of shift) (from_pass flat free 0 b (r * 2 ^ shift) k t)
      ∙ better_layout shift (flat (r * 2 ^ shift + k)) r k (best_from flat free 0 b (r * 2 ^ shift) k) (omega arith)
      ∙ rw (e.0, again, z) refl
      ∙ sym (from_pass (cost r) (test r) r (layout_of shift b) 0 k (rw z (rw e.1 at t))))
      (λ t.
      ap (layout_of shift) (from_fail flat free 0 b (r * 2 ^ shift) k t)
      ∙ again
      ∙ sym (from_fail (cost r) (test r) r (layout_of shift b) 0 k (rw z (rw e.1 at t))))
      (split (free (r * 2 ^ shift + k)))

  layouts_of : (layouts : ℕ) → ((r : ℕ) → r < layouts → Same r) → layout_of shift (best_from flat free 0 nothing 0 (layouts * 2 ^ shift)) ≡ best_of cost test (2 ^ shift) layouts
  layouts_of zero same =
      let z : 0 * 2 ^ shift ≡ 0 = omega arith in
      rw z (ap (layout_of shift) (from_none flat free 0 nothing 0) ∙ layout_nothing shift ∙ sym (of_none cost test (2 ^ shift)))
  layouts_of (suc r) same =
      let e : suc r * 2 ^ shift ≡ r * 2 ^ shift + 2 ^ shift = omega arith in
      let z : 0 + r * 2 ^ shift ≡ r * 2 ^ shift = omega arith in
      ap (λ (x : ℕ). layout_of shift (best_from flat free 0 nothing 0 x)) e
      ∙ ap (layout_of shift) (from_join flat free 0 nothing 0 (r * 2 ^ shift) (2 ^ shift))
      ∙ ap (λ (x : ℕ). layout_of shift (best_from flat free 0 (best_from flat free 0 nothing 0 (r * 2 ^ shift)) x (2 ^ shift))) z
      ∙ layout_from r (same r (omega arith)) (best_from flat free 0 nothing 0 (r * 2 ^ shift)) (2 ^ shift) (omega arith)
      ∙ ap (λ (x : Best). best_from (cost r) (test r) r x 0 (2 ^ shift)) (layouts_of r (λ q l. same q (omega arith)))
      ∙ sym (of_more cost test (2 ^ shift) r)

-- none passes from n on
of_shorter : (cost : ℕ → ℕ → ℕ) (test : ℕ → ℕ → Bool) (n m layouts : ℕ) → n ≤ m → ((r j : ℕ) → r < layouts → n ≤ j → T (not (test r j)))
    → best_of cost test m layouts ≡ best_of cost test n layouts
of_shorter cost test n m zero h none = of_none cost test m ∙ sym (of_none cost test n)
of_shorter cost test n m (suc r) h none =
    of_more cost test m r
    ∙ ap (λ (x : Best). best_from (cost r) (test r) r x 0 m) (of_shorter cost test n m r h (λ q j l g. none q j (omega arith) g))
    ∙ from_skip (cost r) (test r) r (best_of cost test n r) 0 n m h (λ i a l. none r (0 + i) (omega arith) (omega arith))
    ∙ sym (of_more cost test n r)

-- ---- the best free rotation

module _ (g : Ring) (table work : List ℕ) (at size to count layouts shift : ℕ) (bits : 2 ^ shift ≡ 64 * count) (room : to + layouts * count ≤ length work) where
  -- as many numbers as bits
  flat_length : 64 * length (part work to (layouts * count)) ≡ layouts * 2 ^ shift
  flat_length = rw (length_part work to (layouts * count) room, bits) (omega arith)

  -- number q is one of a layout
  pub flat_row : (q : ℕ) → q < 64 * length (part work to (layouts * count)) → q / 2 ^ shift < layouts
  flat_row q h = ⊎_elim (λ l. l) (λ (l : layouts ≤ q / 2 ^ shift). absurd (omega (arith, flat_length, mul-le-mul_right (2 ^ shift) l, Pow.split q shift))) (lt_or_ge (q / 2 ^ shift) layouts)

  same_number : (r : ℕ) → r < layouts → (k : ℕ) → k < 2 ^ shift
      → (flat_cost g table work at size shift (r * 2 ^ shift + k) ≡ cost_in g table (part work at (layouts * size)) size r k)
      × (is_free (part work to (layouts * count)) (r * 2 ^ shift + k) ≡ free_in (part work to (layouts * count)) count r k)
  unfolding flat_cost cost_in free_in is_free
  same_number r lr k lk = (
    rw (high r shift lk, low r shift lk, part_part work at (layouts * size) (r * size) size (row_le r layouts size lr)) refl,
    rw (slot_part (part work to (layouts * count)) (r * count) count k (rw bits at lk), number) refl,
  )
    where
      number : 64 * (r * count) + k ≡ r * 2 ^ shift + k
      number = rw bits (omega arith)

  pub flat_free : EndedAll g.n (part work to (layouts * count)) count layouts
      → layout_of shift (best_flat g table work at size shift (part work to (layouts * count)))
      ≡ best_free g table (part work at (layouts * size)) size (part work to (layouts * count)) count layouts
  unfolding best_flat best_free free_in
  flat_free ended =
      ap (λ (x : ℕ). layout_of shift (best_from (flat_cost g table work at size shift) (is_free (part work to (layouts * count))) 0 nothing 0 x)) flat_length
      ∙ layouts_of shift (flat_cost g table work at size shift) (is_free (part work to (layouts * count))) (cost_in g table (part work at (layouts * size)) size) (free_in (part work to (layouts * count)) count) layouts same_number
      ∙ of_shorter (cost_in g table (part work at (layouts * size)) size) (free_in (part work to (layouts * count)) count) g.n (2 ^ shift) layouts (rw bits ended.whole)
      (λ r j lr lj. free_zero (part (part work to (layouts * count)) (r * count) count) j (ended.none r j lr lj))
