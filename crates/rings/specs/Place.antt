-- The slots of a bucket's keys at a rotation, marked one after the other, and taken back; what `place` and `fits` answer; the bitmap with the slots marked.
-- Assumes nothing.
use Rattle.std.specs.Prelude.{◌≡◌, Bool, true, false, List, ℕ, zero, suc, ◌+◌, ◌*◌, ◌≤◌, ◌<◌, length, get_or}
use Rattle.words.specs.Map.{marked}
use Rattle.rings.specs.declared.Ring.{Ring}
use Rattle.rings.specs.Ring.{ring_bit}
use Rattle.rings.specs.Keys.{slot_at}
use Rattle.rings.specs.Marks.{ring_marked, ring_unmarked}

-- the slot of key i
abbrev pub key_slot : (g : Ring) (keys : List ℕ) (start j i : ℕ) → ℕ
key_slot g keys start j i = slot_at g start (get_or keys i 0) j

-- the first i keys' slots marked
unfoldable pub marked_to : (g : Ring) (l keys : List ℕ) (start j i : ℕ) → List ℕ
marked_to g l keys start j zero = l
marked_to g l keys start j (suc i) = ring_marked g.t g.words (marked_to g l keys start j i) (key_slot g keys start j i)

-- the first i keys' slots unmarked, from the last to the first
unfoldable pub unmarked_to : (g : Ring) (l keys : List ℕ) (start j i : ℕ) → List ℕ
unmarked_to g l keys start j zero = l
unmarked_to g l keys start j (suc i) = unmarked_to g (ring_unmarked g.t g.words l (key_slot g keys start j i)) keys start j i

-- each of the first i keys found its slot free
abbrev pub Fresh : (g : Ring) (l keys : List ℕ) (start j i : ℕ) → Type 0
Fresh g l keys start j i = (m : ℕ) → m < i → ring_bit g.t g.words (marked_to g l keys start j m) (key_slot g keys start j m) ≡ 0

-- what `mark_keys` leaves: r keys found their slots free, and the next one did not
pub record MarkedUpTo (g : Ring) (l keys : List ℕ) (start j size r : ℕ) (after : List ℕ) : Type 0 where
  pub is : after ≡ marked_to g l keys start j r
  pub le : r ≤ size
  pub fresh : Fresh g l keys start j r
  pub met : r < size → ring_bit g.t g.words (marked_to g l keys start j r) (key_slot g keys start j r) ≡ 1

-- a key whose slot is marked when its turn comes
pub record Met (g : Ring) (l keys : List ℕ) (start j size : ℕ) : Type 0 where
  pub m : ℕ
  pub lt : m < size
  pub hit : ring_bit g.t g.words (marked_to g l keys start j m) (key_slot g keys start j m) ≡ 1

-- the slots are marked, or nothing changed
pub record Placed (g : Ring) (l keys : List ℕ) (start j size : ℕ) (ok : Bool) (after : List ℕ) : Type 0 where
  pub yes : ok ≡ true → (after ≡ marked_to g l keys start j size) × Fresh g l keys start j size
  pub no : ok ≡ false → (after ≡ l) × Met g l keys start j size

-- the same with nothing changed
pub record Fitted (g : Ring) (l keys : List ℕ) (start j size : ℕ) (ok : Bool) : Type 0 where
  pub yes : ok ≡ true → Fresh g l keys start j size
  pub no : ok ≡ false → Met g l keys start j size

-- the slots that the ring stands for from a base on
pub record Within (g : Ring) (base q : ℕ) : Type 0 where
  pub from : base ≤ q
  pub below : q < base + 64 * g.words

-- the bitmap with the first i keys' slots marked
unfoldable pub map_to : (g : Ring) (bitmap keys : List ℕ) (start j i : ℕ) → List ℕ
map_to g bitmap keys start j zero = bitmap
map_to g bitmap keys start j (suc i) = marked (map_to g bitmap keys start j i) (key_slot g keys start j i)

-- every key's slot is one of the bitmap's
abbrev pub InMap : (g : Ring) (keys : List ℕ) (start j words : ℕ) → Type 0
InMap g keys start j words = (i : ℕ) → i < length keys → key_slot g keys start j i < 64 * words
