-- The filled free words are what the look for the best free rotation asks for, and with the best that it finds among them they are what it promises.
-- Assumes nothing.
use Rattle.std.specs.Prelude.{◌≡◌, Bool, not, ℕ, zero, suc, ◌+◌, ◌-◌, ◌*◌, ◌/◌, ◌^◌, ◌≤◌, ◌<◌, max, T, eqb, length, drop}
use Rattle.std.proofs.Math.Path.{sym, ap}
use Rattle.std.proofs.Common.{◌∙◌, ⊎_elim, arith, get_or-drop}
use mathlib.Core.List.{List}
use Rattle.words.specs.Cases.{lt_or_ge}
use Rattle.words.specs.Map.{Words, slot, tally}
use Rattle.words.specs.MapLaws.{slot_drop, slot_part}
use Rattle.words.specs.TallyLaws.{tally_ones, tally_free}
use Rattle.integers.specs.Division.{pow_split}
use Rattle.integers.specs.Shifts.{pow_le_cancel}
use Rattle.rings.specs.declared.Ring.{Ring}
use Rattle.rings.specs.Ring.{Shape}
use Rattle.rings.specs.RingLaws.{n_pos}
use Rattle.rings.specs.Keys.{cost_at, free_at}
use Rattle.rings.specs.Free.{FilledTo}
use Rattle.rings.specs.FilledLaws.{whole_words}
use Rattle.rings.specs.Parts.{part, length_part, front_same}
use Rattle.best.specs.declared.Best.{Best}
use Rattle.best.specs.Best.{nothing, best_from, best_of}
use Rattle.best.specs.BestLaws.{from_fails, of_none, of_more}
use Rattle.best.specs.Prices.{is_free, cost_in, free_in, best_free, Ended, EndedAll, Prices}
use Rattle.best.specs.Kept.{Kept, kept_part}
use Rattle.best.specs.Layouts.{row_le, part_part, ended_layout}
use Rattle.best.specs.Filled.{filled_keys, filled_free, filled_ended}
use Rattle.best.specs.Flat.{Power}
use Rattle.best.specs.Looking.{Looking}
use Rattle.search.specs.Rows.{row_at, best_rows, FreeWords, Looked}

-- ---- free words

-- n is a power of two: below 64 one word is enough, and from 64 on it is a multiple of 64
pub free_words_is : (g : Ring) → Shape g → FreeWords g.n (max (g.n / 64) 1)
free_words_is g s = ⊎_elim few many (lt_or_ge g.n 64)
  where
    few : g.n < 64 → FreeWords g.n (max (g.n / 64) 1)
    few h = record { whole = omega arith; short = omega (arith, n_pos g s); some = omega arith }

    many : 64 ≤ g.n → FreeWords g.n (max (g.n / 64) 1)
    many h = let e = whole_words g s h in record { whole = omega arith; short = omega arith; some = omega arith }

-- n is a power of two, and so are they
free_power : (g : Ring) {count : ℕ} → Shape g → FreeWords g.n count → Power count
free_power g {count} s w = ⊎_elim few many (lt_or_ge g.n 64)
  where
    few : g.n < 64 → Power count
    few h = record { e = 0; is = omega (arith, w.short, w.some) }

    many : 64 ≤ g.n → Power count
    many h =
        let six : 6 ≤ s.k = pow_le_cancel (rw s.ring at h) in
        let n : g.n ≡ 2 ^ (s.k - 6) * 64 = s.ring ∙ pow_split s.k 6 six in
        record { e = s.k - 6; is = omega (arith, n, w.whole, w.short) }

-- ---- the best of costs and tests that are the same, and of tests that all fail

of_same : (cost cost' : ℕ → ℕ → ℕ) (test test' : ℕ → ℕ → Bool) (n layouts : ℕ) → ((r : ℕ) → r < layouts → cost r ≡ cost' r) → ((r : ℕ) → r < layouts → test r ≡ test' r)
    → best_of cost test n layouts ≡ best_of cost' test' n layouts
of_same cost cost' test test' n zero ec et = of_none cost test n ∙ sym (of_none cost' test' n)
of_same cost cost' test test' n (suc r) ec et =
    of_more cost test n r
    ∙ ap (λ (x : Best). best_from (cost r) (test r) r x 0 n) (of_same cost cost' test test' n r (λ q h. ec q (omega arith)) (λ q h. et q (omega arith)))
    ∙ ap (λ (x : ℕ → ℕ). best_from x (test r) r (best_of cost' test' n r) 0 n) (ec r (omega arith))
    ∙ ap (λ (x : ℕ → Bool). best_from (cost' r) x r (best_of cost' test' n r) 0 n) (et r (omega arith))
    ∙ sym (of_more cost' test' n r)

of_fails : (cost : ℕ → ℕ → ℕ) (test : ℕ → ℕ → Bool) (n layouts : ℕ) → ((r j : ℕ) → r < layouts → j < n → T (not (test r j))) → best_of cost test n layouts ≡ nothing
of_fails cost test n zero h = of_none cost test n
of_fails cost test n (suc r) h =
    of_more cost test n r
    ∙ from_fails (cost r) (test r) r (best_of cost test n r) 0 n (λ i a l. h r i (omega arith) (omega arith))
    ∙ of_fails cost test n r (λ q j a l. h q j (omega arith) l)

-- ---- what is asked for

module _ {g : Ring} {table work : List ℕ} {at size to count layouts total : ℕ} (k : Looking g table work at size to count layouts total) where
  -- no word has a one: no rotation is free
  pub none_best : Words work → total ≡ 0 → nothing ≡ best_free g table (part work at (layouts * size)) size (part work to (layouts * count)) count layouts
  unfolding best_free free_in is_free
  none_best small z =
      sym (of_fails (cost_in g table (part work at (layouts * size)) size) (free_in (part work to (layouts * count)) count) g.n layouts (λ r j lr lj. rw (zero_slot r j lr (omega (arith, k.ended.whole))) tt))
    where
      none : tally (drop to work) (layouts * count * 64) ≡ 0
      none = tally_ones (drop to work) (layouts * count) (λ i. rw (get_or-drop to work i 0) (small (to + i))) ∙ sym k.sum ∙ z

      zero_slot : (r j : ℕ) → r < layouts → j < 64 * count → slot (part (part work to (layouts * count)) (r * count) count) j ≡ 0
      zero_slot r j lr lj =
          let e : 64 * (to + r * count) + j ≡ 64 * to + (64 * (r * count) + j) = omega arith in
          ap (λ (x : List ℕ). slot x j) (part_part work to (layouts * count) (r * count) count (row_le r layouts count lr))
          ∙ slot_part work (to + r * count) count j lj
          ∙ ap (slot work) e
          ∙ sym (slot_drop work to (64 * (r * count) + j))
          ∙ tally_free (drop to work) (layouts * count * 64) (64 * (r * count) + j) none (omega (arith, row_le r layouts count lr))

-- ---- from the filled words

module _ {g : Ring} {l : List ℕ} {at size start to count layouts total : ℕ} {now : List ℕ} (s : Shape g) (f : FilledTo g l at size start to count layouts total now)
    (words : FreeWords g.n count) (keys : at + layouts * size ≤ to) (room : to + layouts * count + count ≤ length l) where
  ended_all : EndedAll g.n (part now to (layouts * count)) count layouts
  ended_all = filled_ended f s (omega arith) words.whole words.short

  pub looking : {table : List ℕ} → Prices g table (part l at (layouts * size)) → layouts ≤ 64 → to + 3 * (layouts * count) ≤ length l → Looking g table now at size to count layouts total
  looking p few list = record {
    shape = s;
    prices = rw (filled_keys f keys) p;
    ended = ended_all;
    power = free_power g s words;
    few = few;
    sum = f.sum;
    below = keys;
    room = rw f.len room;
    list = rw f.len list;
  }

  -- a row of the free words, and a row of all of them
  row : (r : ℕ) → r < layouts → part (part now to (layouts * count)) (r * count) count ≡ row_at now to count r
  row r lt = part_part now to (layouts * count) (r * count) count (row_le r layouts count lt)

  row_free : (r j : ℕ) → r < layouts → j < g.n → is_free (row_at now to count r) j ≡ eqb (free_at g l (row_at l at size r) start r j) 1
  unfolding free_in
  row_free r j lt h = ap (λ (x : List ℕ). is_free x j) (sym (row r lt)) ∙ filled_free f s r j lt h words.whole

  row_ended : (r : ℕ) → r < layouts → Ended g.n (row_at now to count r)
  row_ended r lt = rw (row r lt) at (ended_layout r ended_all (length_part now to (layouts * count) (omega (arith, f.len))) lt)

  rows_free : (table : List ℕ) → best_free g table (part now at (layouts * size)) size (part now to (layouts * count)) count layouts ≡ best_rows g table now at size to count layouts
  unfolding best_free best_rows cost_in free_in
  rows_free table =
      of_same
      (λ (r : ℕ). cost_at g table (part (part now at (layouts * size)) (r * size) size))
      (λ (r : ℕ). cost_at g table (row_at now at size r))
      (λ (r : ℕ). is_free (part (part now to (layouts * count)) (r * count) count))
      (λ (r : ℕ). is_free (row_at now to count r))
      g.n layouts
      (λ r h. ap (cost_at g table) (part_part now at (layouts * size) (r * size) size (row_le r layouts size h)))
      (λ r h. ap is_free (row r h))

  -- with the words behind them overwritten since
  pub looked : {table : List ℕ} {b : Best} {after : List ℕ} → Kept (to + layouts * count) now after
      → b ≡ best_free g table (part now at (layouts * size)) size (part now to (layouts * count)) count layouts
      → Looked g table l at size start to count layouts b after
  unfolding best_rows
  looked {table} {b} {after} k e = record {
    front = front_same after now (to + layouts * count) to (omega arith) k.front ∙ f.front;
    len = k.len ∙ f.len;
    free = λ r j lt h. rw (kept r lt) (row_free r j lt h);
    ended = λ r lt. rw (kept r lt) (row_ended r lt);
    is = e ∙ rows_free table ∙ sym same;
  }
    where
      kept : (r : ℕ) → r < layouts → row_at after to count r ≡ row_at now to count r
      kept r lt = kept_part (to + r * count) count k (omega (arith, row_le r layouts count lt))

      same : best_rows g table after at size to count layouts ≡ best_rows g table now at size to count layouts
      same =
          of_same (λ (r : ℕ). cost_at g table (row_at after at size r)) (λ (r : ℕ). cost_at g table (row_at now at size r)) (λ (r : ℕ). is_free (row_at after to count r)) (λ (r : ℕ). is_free (row_at now to count r))
          g.n layouts
          (λ r h. ap (cost_at g table) (kept_part (at + r * size) size k (omega (arith, row_le r layouts size h))))
          (λ r h. ap is_free (kept r h))
