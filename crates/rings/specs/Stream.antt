-- A key's slots added to the words of a layout, for rings of more than 64 slots: the words of the key's ring are read one after the other.
-- Assumes nothing.
use Rattle.std.specs.Prelude.{◌≡◌, List, ℕ, ◌+◌, ◌*◌, ◌%◌, ◌^◌, ◌<◌, max, get_or}
use Rattle.words.specs.Bit.{bit}
use Rattle.rings.specs.declared.Ring.{Ring}
use Rattle.rings.specs.Ring.{word_of, bit_of, ring_bit}
use Rattle.rings.specs.Rows.{Row}
use Rattle.rings.specs.Keys.{Key}
use Rattle.rings.specs.Blocked.{Within, Added}

-- r is word k of every ring whose first slot is bit s of word base: its places 64 k to 64 k + 63
pub record RingWord (g : Ring) (used : List ℕ) (base s k r : ℕ) : Type 0 where
  pub row : (first : ℕ) → base ≡ word_of g.t g.words first → s ≡ bit_of g.t first → Row g.t g.words used (first + 64 * k * 2 ^ g.t) r

-- to bit j of word i, of the count words from `to` on, place (x + 64 i + j) mod n of the ring that starts at slot first is added
pub record RingAdded (g : Ring) (l : List ℕ) (first x to count : ℕ) (now : List ℕ) : Type 0 where
  pub within : Within l to count now
  pub bits : (i j : ℕ) → i < count → j < 64
      → bit (get_or now (to + i) 0) j ≡ max (bit (get_or l (to + i) 0) j) (ring_bit g.t g.words l (first + (x + 64 * i + j) % g.n * 2 ^ g.t))

-- key d's slots are added to the count words of a layout from `to` on
pub record KeyAdded (g : Ring) (l : List ℕ) (d start to count : ℕ) (now : List ℕ) : Type 0 where
  pub within : Within l to count now
  pub words : (k : ℕ) → k < count → Added g l d start k (get_or l (to + k) 0) (get_or now (to + k) 0)

-- one key of each layout: layout q's is the word at + q size, below `to`
pub record LayoutKeys (l : List ℕ) (at size layouts start to : ℕ) : Type 0 where
  pub below : (q : ℕ) → q < layouts → at + q * size < to
  pub key : (q : ℕ) → q < layouts → Key start (get_or l (at + q * size) 0)

-- the first r layouts' keys are added, each to its layout's words
pub record LayoutsAdded (g : Ring) (l : List ℕ) (at size start to count r : ℕ) (now : List ℕ) : Type 0 where
  pub within : Within l to (r * count) now
  pub words : (q k : ℕ) → q < r → k < count
      → Added g l (get_or l (at + q * size) 0) start k (get_or l (to + q * count + k) 0) (get_or now (to + q * count + k) 0)
