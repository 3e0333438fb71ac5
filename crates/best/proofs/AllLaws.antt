-- What `best_all` has after it listed the free words is what the pass asks for, and the best that the pass finds is the best free rotation. Why: the list lies
-- behind keys and free words, so both are those of the entry. Assumes nothing.
use mathlib.Core.Path.{◌≡◌, sym, ap, ◌∙◌}
use mathlib.Core.Logic.{⊎_elim}
use mathlib.Core.List.{List}
use Prim.Native.Nat.{ℕ, ◌+◌, ◌*◌, ◌/◌, ◌^◌, ◌≤◌, ◌<◌}
use native.Mathlib.Omega.{arith}
use native.Mathlib.Nat.{mul-le-mul_right}
use lib.Count.{count_trailing_zeros}
use lib.ListN.{length, get_or, drop}
use lib.Seq.{get_or-drop}
use Rattle.words.specs.Cases.{lt_or_ge}
use Rattle.words.specs.Map.{Words, tally, ones_to}
use Rattle.words.specs.MapLaws.{word_past, slot_part, slot_drop}
use Rattle.words.specs.TallyLaws.{tally_same, tally_ones}
use Rattle.rings.specs.declared.Ring.{Ring}
use Rattle.rings.specs.Parts.{part, part_at, length_part}
use Rattle.best.specs.declared.Best.{Best}
use Rattle.best.specs.Prices.{best_free}
use Rattle.best.specs.Kept.{Kept, kept_part}
use Rattle.best.specs.Layouts.{row_le, layout_part, prices_layout}
use Rattle.best.specs.Flat.{best_flat, layout_of}
use Rattle.best.specs.Looking.{Looking}
use Rattle.best.specs.Listed.{Listed, Listing, Pass, Passed}
use Rattle.best.proofs.FlatLaws.{shift_le, shift_bits, flat_row, flat_free}

module _ (l : List ℕ) (to bits : ℕ) (room : to + bits ≤ length l) (small : Words l) where
  words_part : Words (part l to bits)
  words_part k =
      ⊎_elim
      (λ (h : k < bits). rw (part_at l to bits k h) (small (to + k)))
      (λ (h : bits ≤ k). let z : get_or (part l to bits) k 0 ≡ 0 = word_past (part l to bits) k (rw (length_part l to bits room) h) in omega (arith, z))
      (lt_or_ge k bits)

  -- the number of ones, of the words where they stand
  ones_part : ones_to (drop to l) bits ≡ tally (part l to bits) (64 * length (part l to bits))
  ones_part =
      let e : bits * 64 ≡ 64 * length (part l to bits) = omega (arith, length_part l to bits room) in
      sym (tally_ones (drop to l) bits (λ k. rw (get_or-drop to l k 0) (small (to + k))))
      ∙ tally_same (drop to l) (part l to bits) (bits * 64) (λ p h. slot_drop l to p ∙ sym (slot_part l to bits p (omega arith)))
      ∙ ap (tally (part l to bits)) e

module _ {g : Ring} {table l : List ℕ} {at size to count layouts total : ℕ} (known : Looking g table l at size to count layouts total) where
  pub shift_few : count_trailing_zeros 64 count + 6 ≤ 16
  shift_few = omega (arith, shift_le known.power known.ended.short)

  module _ (small : Words l) {work : List ℕ} (listed : Listed (part l to (layouts * count)) (to + layouts * count) (layouts * count) work) (kept : Kept (to + layouts * count) l work) where
    long : length (part l to (layouts * count)) ≡ layouts * count
    long = length_part l to (layouts * count) (omega (arith, known.list))

    free_same : part work to (layouts * count) ≡ part l to (layouts * count)
    free_same = kept_part to (layouts * count) kept (omega arith)

    row_lt : (q : ℕ) → q < 64 * length (part l to (layouts * count)) → q / 2 ^ (count_trailing_zeros 64 count + 6) < layouts
    row_lt q h =
        flat_row g table l at size to count layouts (count_trailing_zeros 64 count + 6) (shift_bits known.power known.ended.short) (omega (arith, known.list)) q h

    listing : Listing g table work at size (count_trailing_zeros 64 count + 6) (to + layouts * count) total (part l to (layouts * count))
    listing = record {
      shape = known.shape;
      words = words_part l to (layouts * count) (omega (arith, known.list)) small;
      listed = rw long listed;
      room = omega (arith, long, kept.len, known.list);
      short = omega (arith, long, mul-le-mul_right count known.few, known.ended.short);
      bits = shift_few;
      sum = known.sum ∙ ones_part l to (layouts * count) (omega (arith, known.list)) small;
      below = λ q h. omega (arith, row_le (q / 2 ^ (count_trailing_zeros 64 count + 6)) layouts size (row_lt q h), known.below);
      prices = λ q h.
          let r : ℕ = q / 2 ^ (count_trailing_zeros 64 count + 6) in
          rw (layout_part at size layouts r (at + r * size) kept (omega (arith, known.below)) (row_lt q h) (omega arith))
          (prices_layout size layouts r known.prices (length_part l at (layouts * size) (omega (arith, known.below, known.list))) (row_lt q h));
    }

    pub pass_of : Pass g table work at size (count_trailing_zeros 64 count + 6) (to + layouts * count) total
    pass_of = record { free = part l to (layouts * count); listing = listing }

    pub best_of_lem : {b b' : Best} {after : List ℕ} → Passed g table work at size (count_trailing_zeros 64 count + 6) (to + layouts * count) total b after → b' ≡ layout_of (count_trailing_zeros 64 count + 6) b
        → b' ≡ best_free g table (part l at (layouts * size)) size (part l to (layouts * count)) count layouts
    best_of_lem {b} {b'} p e =
        e
        ∙ ap (layout_of (count_trailing_zeros 64 count + 6)) (p.0 (part l to (layouts * count)) listing)
        ∙ ap (λ (x : List ℕ). layout_of (count_trailing_zeros 64 count + 6) (best_flat g table work at size (count_trailing_zeros 64 count + 6) x)) (sym free_same)
        ∙ flat_free g table work at size to count layouts (count_trailing_zeros 64 count + 6) (shift_bits known.power known.ended.short) (omega (arith, kept.len, known.list)) (rw free_same known.ended)
        ∙ ap (λ (x : List ℕ). best_free g table x size (part work to (layouts * count)) count layouts) (kept_part at (layouts * size) kept (omega (arith, known.below)))
        ∙ ap (λ (x : List ℕ). best_free g table (part l at (layouts * size)) size x count layouts) free_same
