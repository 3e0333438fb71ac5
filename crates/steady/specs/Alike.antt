-- How the keys of two sweeps differ: settings, weights and table are equal, the groups are not. Assumes nothing.
use Rattle.std.specs.Prelude.{◌≡◌, ◌≢◌, List, ℕ, ◌<◌, length}
use Rattle.rules.specs.Order.{Input, input_of, keys_of}
use Rattle.rules.proofs.Sums.{Same}

-- equal settings, weights and table, and groups that differ only in bucket b; b is empty or not in either, and need not be a bucket
pub record DifferIn (b : ℕ) (i j : Input) : Type 0 where
  pub settings_same : i.settings ≡ j.settings
  pub weights_same : i.weights ≡ j.weights
  pub table_same : i.table ≡ j.table
  pub keys_same : (c : ℕ) → c < i.settings.buckets → c ≢ b → keys_of i c ≡ keys_of j c

-- equal settings, weights and table, and in each bucket below b the same keys, in any order; whatever stands from b on
pub record AlikeBelow (b : ℕ) (i j : Input) : Type 0 where
  pub settings_same : i.settings ≡ j.settings
  pub weights_same : i.weights ≡ j.weights
  pub table_same : i.table ≡ j.table
  pub keys_same : (c : ℕ) → c < i.settings.buckets → c < b → Same (keys_of i c) (keys_of j c)

-- the keys reordered inside their buckets: all else is equal, and each bucket has each of its keys as often as before
pub record Reordered (i j : Input) : Type 0 where
  pub settings_same : i.settings ≡ j.settings
  pub weights_same : i.weights ≡ j.weights
  pub table_same : i.table ≡ j.table
  pub begins_same : i.begins ≡ j.begins
  pub as_many : length i.hashes ≡ length j.hashes
  pub keys_same : (b : ℕ) → b < i.settings.buckets → Same (keys_of i b) (keys_of j b)

-- the same settings, weights and table, with other groups
abbrev pub regrouped : Input → (hashes begins : List ℕ) → Input
regrouped i hashes begins = input_of i.settings i.weights hashes begins i.table
