-- Document 02's sentence about a level that is accepted, and about the bucket that 29 names. Assumes nothing.
use Rattle.std.specs.Prelude.{◌≡◌, List, ℕ, suc, ◌^◌, ◌<◌, ◌≤◌, get_or}
use Rattle.rules.specs.Lists.{below, count, concat_map}
use Rattle.rules.specs.Order.{Input, size_of}
use Rattle.rules.specs.Sweep.{bitmap_of}
use Rattle.level_check.specs.Check.{slots_at, placed_slots}

pub record Fits (i : Input) (seeds bitmap : List ℕ) : Type 0 where
  -- every seed is below 2^sb
  pub low : (b : ℕ) → b < i.settings.buckets → get_or seeds b 0 < 2 ^ i.settings.sb
  -- every empty bucket has seed 0
  pub empty : (b : ℕ) → b < i.settings.buckets → size_of i b ≡ 0 → get_or seeds b 0 ≡ 0
  -- no two keys with a nonzero seed share a slot
  pub apart : (x : ℕ) → count x (placed_slots i seeds) ≤ 1
  -- the bitmap marks just those slots
  pub marks : bitmap ≡ bitmap_of i.settings.m (placed_slots i seeds)

-- b is the lowest bucket at which a slot is met twice: not before it, and with it
pub record Lowest (i : Input) (seeds : List ℕ) (b : ℕ) : Type 0 where
  pub inside : b < i.settings.buckets
  pub before : (x : ℕ) → count x (concat_map (slots_at i seeds) (below b)) ≤ 1
  pub slot : ℕ
  pub twice : 2 ≤ count slot (concat_map (slots_at i seeds) (below (suc b)))
