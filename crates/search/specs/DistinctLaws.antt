-- The pass over the free rotations keeps the best at which no two keys meet: one rotation, the bits of a word, the words of a layout, the layouts.
-- Assumes nothing.
use Rattle.std.specs.Prelude.{◌≡◌, ◌≢◌, Bool, true, false, not, List, ℕ, ◌+◌, ◌-◌, ◌*◌, ◌^◌, ◌≤◌, ◌<◌, T, length, get_or}
use Rattle.std.proofs.Math.Path.{refl}
use Rattle.std.proofs.Common.{sym, ◌∙◌, arith, add-one}
use Rattle.std.proofs.Math.Logic.{⊎_elim}
use Rattle.std.specs.Int.Bits.{bit_and}
use Rattle.std.specs.Int.Count.{count_trailing_zeros}
use Rattle.words.specs.Cases.{lt_or_ge}
use Rattle.words.specs.Map.{slot}
use Rattle.rules.specs.Lists.{distinct}
use Rattle.rules.proofs.Tests.{split, is_true, is_false, and_both, not_and_left, not_and_right}
use Rattle.rings.specs.declared.Ring.{Ring}
use Rattle.rings.specs.Keys.{cost_at}
use Rattle.rings.specs.Place.{Fitted}
use Rattle.rings.specs.Parts.{part, part_at, length_part}
use Rattle.best.specs.declared.Best.{Best}
use Rattle.best.specs.Best.{nothing, better, best_from, best_of}
use Rattle.best.specs.BestLaws.{better_taken, better_not, of_none}
use Rattle.best.specs.Prices.{is_free, Ended}
use Rattle.best.specs.PriceLaws.{free_one, free_zero}
use Rattle.best.specs.Walk.{OnlyFree, Walk, walk_start, walk_free, walk_pass, walk_fail}
use Rattle.search.specs.Slots.{slots_at, Unused}
use Rattle.search.specs.SlotLaws.{fresh_distinct, met_twice}
use Rattle.search.specs.Rows.{row_at}
use Rattle.search.specs.Distinct.{is_distinct, better_distinct, best_distinct, KeyRow}

-- ---- one rotation

module _ (g : Ring) (table : List ℕ) (start : ℕ) (keys : List ℕ) (r j : ℕ) (b : Best) where
  step_yes : T (distinct (slots_at g start keys j)) → better_distinct g table start keys r j b ≡ better (cost_at g table keys j) r j b
  unfolding better_distinct
  step_yes t = rw (is_true (distinct (slots_at g start keys j)) t) refl

  step_no : T (not (distinct (slots_at g start keys j))) → better_distinct g table start keys r j b ≡ b
  unfolding better_distinct
  step_no t = rw (is_false (distinct (slots_at g start keys j)) t) refl

  -- it costs no less than the best
  pub step_dear : {c : ℕ} → c ≡ cost_at g table keys j → b.cost ≤ c → b ≡ better_distinct g table start keys r j b
  step_dear {c} e h =
      ⊎_elim
      (λ t. sym (step_yes t ∙ better_not (cost_at g table keys j) r j b (rw e at h)))
      (λ t. sym (step_no t))
      (split (distinct (slots_at g start keys j)))

-- it costs less: what `fits` tells
module _ {g : Ring} {table work : List ℕ} {a size start j : ℕ} (k : KeyRow g table work a size start) (turn : j < g.n) (free : Unused g work start (part work a size) j)
    (r : ℕ) (b : Best) where
  long : length (part work a size) ≡ size
  long = length_part work a size k.room

  pub step_fits : {c : ℕ} {ok : Bool} → c ≡ cost_at g table (part work a size) j → c < b.cost → Fitted g work (part work a size) start j size ok → ok ≡ true
      → record { cost = c; r = r; j = j } ≡ better_distinct g table start (part work a size) r j b
  step_fits e h f o =
      better_taken r j b e h
      ∙ sym (step_yes g table start (part work a size) r j b (fresh_distinct g k.shape work start (part work a size) j size long (omega (arith, k.above, k.room)) turn k.near free (f.yes o)))

  pub step_meets : {ok : Bool} → Fitted g work (part work a size) start j size ok → ok ≡ false → b ≡ better_distinct g table start (part work a size) r j b
  step_meets f o =
      sym (step_no g table start (part work a size) r j b (met_twice g k.shape work start (part work a size) j size long (omega (arith, k.above, k.room)) turn k.near free (f.no o)))

-- ---- the bits of a word

module _ (g : Ring) (start : ℕ) (keys free : List ℕ) where
  pub distinct_only : OnlyFree (is_distinct g start keys free) free
  unfolding is_distinct
  distinct_only i h = not_and_left (is_free free i) (distinct (slots_at g start keys i)) (free_zero free i h)

  pub walk_step : (table : List ℕ) {r w : ℕ} {before : Best} {left : ℕ} {best best' : Best}
      → Walk (cost_at g table keys) (is_distinct g start keys free) free r w before left best → left ≢ 0
      → best' ≡ better_distinct g table start keys r (64 * w + count_trailing_zeros 64 left) best
      → Walk (cost_at g table keys) (is_distinct g start keys free) free r w before (bit_and left (left - 1)) best'
  unfolding is_distinct
  walk_step table {r} {w} {before} {left} {best} {best'} a n e =
      ⊎_elim
      (λ t.
      walk_pass a n (and_both (is_free free (64 * w + count_trailing_zeros 64 left)) (distinct (slots_at g start keys (64 * w + count_trailing_zeros 64 left))) (free_one free (64 * w + count_trailing_zeros 64 left) (walk_free a n)) t)
      (e ∙ step_yes g table start keys r (64 * w + count_trailing_zeros 64 left) best t))
      (λ t.
      let s : best' ≡ best = e ∙ step_no g table start keys r (64 * w + count_trailing_zeros 64 left) best t in
      rw s (walk_fail a n (not_and_right (is_free free (64 * w + count_trailing_zeros 64 left)) (distinct (slots_at g start keys (64 * w + count_trailing_zeros 64 left))) t)))
      (split (distinct (slots_at g start keys (64 * w + count_trailing_zeros 64 left))))

-- before the first bit
pub walk_begin : (g : Ring) (table work : List ℕ) (a size start f count w r : ℕ) (before : Best) → w < count → get_or work (f + w) 0 < 2 ^ 64
    → Walk (cost_at g table (part work a size)) (is_distinct g start (part work a size) (part work f count)) (part work f count) r w before (get_or work (f + w) 0) before
walk_begin g table work a size start f count w r before lt h =
    let e : get_or (part work f count) w 0 ≡ get_or work (f + w) 0 = part_at work f count w lt in
    let k : Walk (cost_at g table (part work a size)) (is_distinct g start (part work a size) (part work f count)) (part work f count) r w before (get_or (part work f count) w 0) before =
    walk_start (cost_at g table (part work a size)) (is_distinct g start (part work a size) (part work f count)) (part work f count) r w before (distinct_only g start (part work a size) (part work f count)) (rw e h) in
    rw e at k

-- a free rotation is one of the n
pub free_turn : {n : ℕ} {free : List ℕ} (j : ℕ) → Ended n free → slot free j ≡ 1 → j < n
free_turn {n} {free} j e h = ⊎_elim (λ (l : j < n). l) (λ (l : n ≤ j). absurd (omega (arith, e.none j l))) (lt_or_ge j n)

-- ---- the layouts

pub rows_none : (g : Ring) (table work : List ℕ) (at size start to count : ℕ) → nothing ≡ best_distinct g table work at size start to count 0
unfolding best_distinct
rows_none g table work at size start to count =
    sym (of_none (λ (r : ℕ). cost_at g table (row_at work at size r)) (λ (r : ℕ). is_distinct g start (row_at work at size r) (row_at work to count r)) g.n)

pub rows_more : (g : Ring) (table work : List ℕ) (at size start to count r : ℕ) {b b' : Best} → b ≡ best_distinct g table work at size start to count r
    → b' ≡ best_from (cost_at g table (row_at work at size r)) (is_distinct g start (row_at work at size r) (row_at work to count r)) r b 0 g.n
    → b' ≡ best_distinct g table work at size start to count (r + 1)
unfolding best_distinct best_of
rows_more g table work at size start to count r e e' = e' ∙ rw (add-one, e) refl
