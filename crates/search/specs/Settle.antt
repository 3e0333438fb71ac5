-- A rotation's slots marked in the ring and in the bitmap, or in neither. Assumes nothing.
use Rattle.std.specs.Prelude.{◌≡◌, Bool, true, false, List, ℕ, zero, suc, ◌+◌, ◌^◌, ◌≤◌, ◌<◌, length}
use Rattle.words.specs.Map.{slot, cleared}
use Rattle.rules.specs.Geometry as G
use Rattle.rules.specs.Order.{Input}
use Rattle.rules.specs.Seed.{seed_of}
use Rattle.rings.specs.declared.Ring.{Ring}
use Rattle.rings.specs.Ring.{Shape}
use Rattle.rings.specs.Keys.{Keys}
use Rattle.rings.specs.Parts.{part}
use Rattle.rings.specs.Place.{key_slot, marked_to, MarkedUpTo, map_to, InMap, Fresh, Met}
use Rattle.search.specs.Slots.{Reached}

-- the bitmap with the first i keys' slots cleared, from the last to the first
unfoldable pub cleared_to : (g : Ring) (bitmap keys : List ℕ) (start j i : ℕ) → List ℕ
cleared_to g bitmap keys start j zero = bitmap
cleared_to g bitmap keys start j (suc i) = cleared_to g (cleared bitmap (key_slot g keys start j i)) keys start j i

-- rotation j is one of the ring's, and the bitmap has none of the keys' slots there
pub record Blank (g : Ring) (bitmap keys : List ℕ) (start j : ℕ) : Type 0 where
  pub near : Reached g start keys
  pub turn : j < g.n
  pub unmarked : (m : ℕ) → m < length keys → slot bitmap (key_slot g keys start j m) ≡ 0

-- the keys work[a..a + size] lie above the ring, and their slots at rotation j in the bitmap
pub record Settling (g : Ring) (work : List ℕ) (a size start j : ℕ) (bitmap : List ℕ) : Type 0 where
  pub shape : Shape g
  pub above : g.words ≤ a
  pub room : a + size ≤ length work
  pub keys : Keys (part work a size) start
  pub begin : start < 2 ^ 62
  pub small : j < 65536
  pub inside : InMap g (part work a size) start j (length bitmap)

-- ring and bitmap have the slots of the first r keys, which found them free in the ring, and the next one did not
pub record MarkedBoth (g : Ring) (work bitmap keys : List ℕ) (start j size r : ℕ) (work' bitmap' : List ℕ) : Type 0 where
  pub ring : MarkedUpTo g work keys start j size r work'
  pub map : bitmap' ≡ map_to g bitmap keys start j r

pub record Settled (g : Ring) (work bitmap keys : List ℕ) (start j size : ℕ) (ok : Bool) (work' bitmap' : List ℕ) : Type 0 where
  pub yes : ok ≡ true → (work' ≡ marked_to g work keys start j size) × (bitmap' ≡ map_to g bitmap keys start j size) × Fresh g work keys start j size
  pub no : ok ≡ false → (work' ≡ work) × (bitmap' ≡ bitmap) × Met g work keys start j size

-- v is rule S's seed of candidate (r, j), for every input with this ring length and number of layouts
abbrev pub SeedIs : (n layouts r j v : ℕ) → Type 0
SeedIs n layouts r j v = (i : Input) → G.ring_len i.settings ≡ n → G.layouts i.settings ≡ layouts → v ≡ seed_of i (record { r = r; j = j })
