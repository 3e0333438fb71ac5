-- The loop of `best_listed`: for every list of free words that is listed, it stands where `Standing` says, and what is below the list is kept, so the keys and
-- their prices are those of the entry. Assumes nothing.
use mathlib.Core.Path.{◌≡◌, ap, ◌∙◌}
use mathlib.Core.Logic.{◌≢◌}
use mathlib.Core.List.{List}
use Prim.Native.Nat.{ℕ, ◌+◌, ◌-◌, ◌*◌, ◌/◌, ◌%◌, ◌^◌, ◌≤◌, ◌<◌}
use native.Mathlib.Omega.{arith}
use lib.Bits.{bit_and}
use lib.Count.{count_trailing_zeros}
use lib.ListN.{length, get_or, set}
use Rattle.rings.specs.declared.Ring.{Ring}
use Rattle.rings.specs.Keys.{cost_at}
use Rattle.best.specs.declared.Best.{Best}
use Rattle.best.specs.Best.{nothing, better}
use Rattle.best.specs.Prices.{Prices}
use Rattle.best.specs.Kept.{Kept, kept_self, kept_set, kept_on, kept_part}
use Rattle.best.specs.Flat.{row_of, flat_cost, best_flat}
use Rattle.best.specs.Listed.{none, Listing, Pass, Passed}
use Rattle.best.proofs.Standing.{Standing, stand_start, stand_end, stand_on, here_some, here_in, here_low, here_lt}

pub record Passing (g : Ring) (table l : List ℕ) (at size shift list total : ℕ) (work : List ℕ) (best : Best) (k left : ℕ) : Type 0 where
  pub stands : (free : List ℕ) → Listing g table l at size shift list total free → Standing (flat_cost g table l at size shift) free list work k left best
  pub kept : Kept list l work

pub pass_start : (g : Ring) (table l : List ℕ) (at size shift list total : ℕ) → Passing g table l at size shift list total l nothing list total
pass_start g table l at size shift list total = record {
  stands = λ free p. stand_start (flat_cost g table l at size shift) free list l p.words p.listed p.sum;
  kept = kept_self list l;
}

module _ {g : Ring} {table l : List ℕ} {at size shift list total : ℕ} {work : List ℕ} {best : Best} {k left : ℕ} (a : Passing g table l at size shift list total work best k left) where
  pub pass_end : left ≡ 0 → Passed g table l at size shift list total best work
  unfolding best_flat
  pass_end z = (λ free p. stand_end (a.stands free p) z, a.kept)

  row_kept : {free : List ℕ} → Listing g table l at size shift list total free → (q : ℕ) → q < 64 * length free → row_of work at size shift q ≡ row_of l at size shift q
  row_kept p q h = kept_part (at + q / 2 ^ shift * size) size a.kept (p.below q h)

  module _ (n : left ≢ 0) where
    -- what the code asks of work[k], of work[k + 1] and of the next number
    module _ (p : Pass g table l at size shift list total) where
      pub pass_some : get_or work k 0 ≢ 0
      pass_some = here_some (a.stands p.free p.listing) n

      pub pass_in : (list ≤ k) × (k + 1 < length work)
      pass_in = here_in (a.stands p.free p.listing) n (omega (arith, p.listing.room, a.kept.len))

      pub pass_low : count_trailing_zeros 64 (get_or work k 0) < 64
      pass_low = here_low (a.stands p.free p.listing) n

      pub pass_lt : 64 * get_or work (k + 1) 0 + count_trailing_zeros 64 (get_or work k 0) < 4194304
      pass_lt = omega (arith, here_lt (a.stands p.free p.listing) n, p.listing.short)

      pub pass_row : at + (64 * get_or work (k + 1) 0 + count_trailing_zeros 64 (get_or work k 0)) / 2 ^ shift * size + size ≤ length work
      pass_row =
          omega (arith, p.listing.below (64 * get_or work (k + 1) 0 + count_trailing_zeros 64 (get_or work k 0)) (here_lt (a.stands p.free p.listing) n), p.listing.room, a.kept.len)

      pub pass_prices : Prices g table (row_of work at size shift (64 * get_or work (k + 1) 0 + count_trailing_zeros 64 (get_or work k 0)))
      pass_prices =
          let lt = here_lt (a.stands p.free p.listing) n in
          rw (row_kept p.listing (64 * get_or work (k + 1) 0 + count_trailing_zeros 64 (get_or work k 0)) lt) (p.listing.prices (64 * get_or work (k + 1) 0 + count_trailing_zeros 64 (get_or work k 0)) lt)

    -- a step
    pub pass_on : {c s : ℕ} {best' : Best} → (list ≤ k) × (k + 1 < length work)
        → c ≡ flat_cost g table work at size shift (64 * get_or work (k + 1) 0 + count_trailing_zeros 64 (get_or work k 0))
        → best' ≡ better c 0 (64 * get_or work (k + 1) 0 + count_trailing_zeros 64 (get_or work k 0)) best
        → s ≡ none (bit_and (get_or work k 0) (get_or work k 0 - 1))
        → Passing g table l at size shift list total (set work k (bit_and (get_or work k 0) (get_or work k 0 - 1))) best' (k + 2 * s) (left - 1)
    unfolding flat_cost
    pass_on {c} {s} {best'} room ec eb es = record {
      stands = λ free p.
          let q : ℕ = 64 * get_or work (k + 1) 0 + count_trailing_zeros 64 (get_or work k 0) in
          let here = a.stands free p in
          let same : c ≡ flat_cost g table l at size shift q = ec ∙ ap (λ (x : List ℕ). cost_at g table x (q % 2 ^ shift)) (row_kept p q (here_lt here n)) in
          rw es (stand_on here n p.words (omega (arith, room.1)) (eb ∙ ap (λ (x : ℕ). better x 0 q best) same));
      kept = kept_on a.kept (kept_set list work k (bit_and (get_or work k 0) (get_or work k 0 - 1)) room.0);
    }
