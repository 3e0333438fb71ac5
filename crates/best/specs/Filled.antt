-- What `fill_free` of the ring leaves is what `best_all` and `best_many` ask for: a layout's rotation is a set bit of its free words exactly where it is
-- free, its keys are as they were, and no bit from n on is set. Assumes nothing.
use Rattle.std.specs.Prelude.{◌≡◌, ℕ, ◌+◌, ◌*◌, ◌≤◌, ◌<◌, length, drop}
use Rattle.std.proofs.Math.Path.{ap}
use Rattle.std.proofs.Common.{◌∙◌, ⊎_elim, arith}
use mathlib.Core.List.{List}
use Rattle.std.proofs.Math.Dec.{eqb}
use Rattle.words.specs.Cases.{lt_or_ge}
use Rattle.words.specs.Map.{slot}
use Rattle.words.specs.MapLaws.{slot_take, slot_past}
use Rattle.rings.specs.declared.Ring.{Ring}
use Rattle.rings.specs.Ring.{Shape}
use Rattle.rings.specs.Keys.{cost_at, free_at}
use Rattle.rings.specs.Free.{FilledTo}
use Rattle.rings.specs.RingLaws.{n_le}
use Rattle.rings.specs.FilledLaws.{filled_slot, filled_past}
use Rattle.rings.specs.Parts.{part, length_part, part_same}
use Rattle.best.specs.Prices.{is_free, cost_in, free_in, EndedAll}
use Rattle.best.specs.Layouts.{row_le, part_part}

module _ {g : Ring} {l : List ℕ} {at size start to count layouts total : ℕ} {now : List ℕ} (f : FilledTo g l at size start to count layouts total now) where
  -- all keys
  pub filled_keys : at + layouts * size ≤ to → part now at (layouts * size) ≡ part l at (layouts * size)
  filled_keys below = part_same now l to at (layouts * size) below f.len f.front

  -- a layout's keys
  pub filled_cost : (table : List ℕ) (r : ℕ) → at + layouts * size ≤ to → r < layouts → cost_in g table (part now at (layouts * size)) size r ≡ cost_at g table (part l (at + r * size) size)
  unfolding cost_in
  filled_cost table r below lt =
      ap (λ (x : List ℕ). cost_at g table (part x (r * size) size)) (filled_keys below)
      ∙ ap (cost_at g table) (part_part l at (layouts * size) (r * size) size (row_le r layouts size lt))

  words_at : (r j : ℕ) → r < layouts → j < 64 * count → slot (part (part now to (layouts * count)) (r * count) count) j ≡ slot (drop (to + r * count) now) j
  words_at r j lt h =
      ap (λ (x : List ℕ). slot x j) (part_part now to (layouts * count) (r * count) count (row_le r layouts count lt)) ∙ slot_take (drop (to + r * count) now) count j h

  -- a layout's free rotations
  pub filled_free : Shape g → (r j : ℕ) → r < layouts → j < g.n → g.n ≤ 64 * count
      → free_in (part now to (layouts * count)) count r j ≡ eqb (free_at g l (part l (at + r * size) size) start r j) 1
  unfolding free_in is_free
  filled_free s r j lt h whole = ap (λ (x : ℕ). eqb x 1) (words_at r j lt (omega arith) ∙ filled_slot s f r lt j h (omega arith))

  pub filled_ended : Shape g → to + layouts * count ≤ length l → g.n ≤ 64 * count → 64 * count < g.n + 64 → EndedAll g.n (part now to (layouts * count)) count layouts
  filled_ended s room whole short = record {
    whole = whole;
    short = omega (arith, n_le g s);
    none = λ r j lt h. ⊎_elim
        (λ (x : j < 64 * count). words_at r j lt x ∙ filled_past s f r lt j h x short)
        (λ (x : 64 * count ≤ j). slot_past (part (part now to (layouts * count)) (r * count) count) j (omega (arith, long r lt)))
        (lt_or_ge j (64 * count));
  }
    where
      long : (r : ℕ) → r < layouts → length (part (part now to (layouts * count)) (r * count) count) ≡ count
      long r lt =
          length_part (part now to (layouts * count)) (r * count) count
          (omega (arith, row_le r layouts count lt, length_part now to (layouts * count) (omega (arith, f.len))))
