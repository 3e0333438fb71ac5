-- The counts of the summary: the placed keys are the slots found, placed and bumped keys are all keys, and the zero buckets are those that are bumped or
-- have no keys. Assumes nothing.
use mathlib.Core.Path.{◌≡◌, sym, ap, ◌∙◌}
use mathlib.Core.Bool.{Bool, true, false, cond}
use mathlib.Core.List.{List}
use Prim.Native.Nat.{ℕ, ◌+◌, ◌≤◌}
use native.Mathlib.Omega.{arith}
use lib.Dec.{eqb}
use lib.ListN.{length, get_or}
use Rattle.rules.specs.Lists.{below, concat_map}
use Rattle.rules.specs.Order.{Input, keys_of, size_of}
use Rattle.rules.specs.Holes.{looked_up, found_slots}
use Rattle.rules.specs.Answers.{placed_keys, bumped_keys, zero_bucket, counts_of}
use Rattle.rules.specs.Good.{Grouped}
use Rattle.rules.proofs.Counting.{ind_le, length_from}
use Rattle.rules.proofs.Ranges.{below_elem}
use Rattle.rules.proofs.Sums.{total_congr, total_add, total_le, total_one, length_concat}
use Rattle.rules.proofs.GroupLaws.{sizes_all}
use Rattle.rules.proofs.PlacedLaws.{found_buckets, found_keys, length_takes}

module _ (i : Input) (seeds : List ℕ) where
  -- a bucket's keys are placed or bumped
  one_bucket : (b : ℕ) → placed_keys i seeds b + bumped_keys i seeds b ≡ size_of i b
  unfolding placed_keys bumped_keys
  one_bucket b = go (eqb (get_or seeds b 0) 0)
    where
      go : (c : Bool) → cond c 0 (size_of i b) + cond c (size_of i b) 0 ≡ size_of i b
      go true = omega arith
      go false = omega arith

  module _ (G : Grouped i) where
    -- the placed keys are those that a lookup finds
    pub placed_found : (counts_of i seeds).placed ≡ length (found_slots i.settings seeds i.hashes)
    unfolding counts_of placed_keys
    placed_found = sym (
        ap length (found_buckets i G seeds)
        ∙ length_concat (λ (b : ℕ). concat_map (looked_up i.settings seeds) (keys_of i b)) (below i.settings.buckets)
        ∙ total_congr (λ (b : ℕ). length (concat_map (looked_up i.settings seeds) (keys_of i b))) (placed_keys i seeds) (below i.settings.buckets)
        (λ b t. let h = below_elem b i.settings.buckets t in ap length (found_keys i G seeds b h) ∙ length_takes i G b (get_or seeds b 0) h))

    pub placed_bumped : (counts_of i seeds).placed + (counts_of i seeds).bumped ≡ length i.hashes
    unfolding counts_of
    placed_bumped =
        total_add (placed_keys i seeds) (bumped_keys i seeds) (below i.settings.buckets)
        ∙ total_congr (λ (b : ℕ). placed_keys i seeds b + bumped_keys i seeds b) (size_of i) (below i.settings.buckets) (λ b t. one_bucket b)
        ∙ sizes_all i G

  pub zero_le : (counts_of i seeds).zero ≤ i.settings.buckets
  unfolding counts_of zero_bucket
  zero_le = omega (arith, total_le (zero_bucket i seeds) (λ (b : ℕ). 1) (below i.settings.buckets) (λ b. ind_le (eqb (get_or seeds b 0) 0)), total_one (below i.settings.buckets), length_from 0 i.settings.buckets)
