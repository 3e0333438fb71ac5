-- The ring keys of a bucket's hashes, by rule G, and how they lie in the work words: layout r's keys together, in the order of the hashes.
-- Assumes nothing.
use Rattle.std.specs.Prelude.{◌≡◌, ◌≢◌, List, map, ℕ, ◌+◌, ◌-◌, ◌*◌, ◌/◌, ◌%◌, ◌^◌, ◌≤◌, ◌<◌, length, get_or, take}
use Rattle.rules.specs.declared.Settings.{Settings}
use Rattle.rules.specs.Geometry.{bucket_of, slice_of, first, layouts, stride}
use Rattle.rules.specs.Ring.{ring_offset, column_of}

-- two halves: where the ring begins, counted in entries of the table, and the place in the ring before any rotation, times 2^t
unfoldable pub ring_key : Settings → (start r h : ℕ) → ℕ
ring_key s start r h = (slice_of s h + column_of s r h + 95 - start) * 2 ^ 32 + ring_offset s r h / 2 ^ stride s * 2 ^ stride s

-- the ring key of place o in a slice that begins at entry `base`, by the column and the row of o
unfoldable pub packed : (t base o : ℕ) → ℕ
packed t base o = (base + o % 2 ^ t) * 2 ^ 32 + o / 2 ^ t * 2 ^ t

-- layout r's keys
abbrev pub ring_keys : Settings → (start r : ℕ) → List ℕ → List ℕ
ring_keys s start r hashes = map (ring_key s start r) hashes

-- h is a hash of bucket b, and start is the bucket's first slot
pub record Home (s : Settings) (b start h : ℕ) : Type 0 where
  pub inside : b < s.buckets
  pub begins : start ≡ first s b
  pub home : bucket_of s h ≡ b

abbrev pub Homes : Settings → (b start : ℕ) → List ℕ → Type 0
Homes s b start hashes = (i : ℕ) → i < length hashes → Home s b start (get_or hashes i 0)

-- the hashes are those of one bucket, and start is its first slot
pub record Bucket (s : Settings) (start : ℕ) (hashes : List ℕ) : Type 0 where
  pub b : ℕ
  pub homes : Homes s b start hashes

-- hash h's keys of the first r layouts stand `size` words apart from word k on; all other words are as before
pub record LayoutsFilled (s : Settings) (h start k size r : ℕ) (old now : List ℕ) : Type 0 where
  pub front : take k now ≡ take k old
  pub len : length now ≡ length old
  pub key : (q : ℕ) → q < r → get_or now (k + q * size) 0 ≡ ring_key s start q h
  pub other : (p : ℕ) → ((q : ℕ) → q < r → p ≢ k + q * size) → get_or now p 0 ≡ get_or old p 0

-- the words from `at` on are the ring keys, layout after layout; all other words are as before
pub record KeysFilled (s : Settings) (hashes : List ℕ) (start at : ℕ) (old now : List ℕ) : Type 0 where
  pub front : take at now ≡ take at old
  pub len : length now ≡ length old
  pub key : (r i : ℕ) → r < layouts s → i < length hashes → get_or now (at + r * length hashes + i) 0 ≡ ring_key s start r (get_or hashes i 0)
  pub after : (k : ℕ) → at + layouts s * length hashes ≤ k → get_or now k 0 ≡ get_or old k 0
