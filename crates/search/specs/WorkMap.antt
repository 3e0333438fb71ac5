-- The work words on the way of a search: ring keys and free words laid out behind the ring. Assumes nothing.
use Rattle.std.specs.Prelude.{◌≡◌, ◌&&◌, List, ℕ, ◌+◌, ◌*◌, ◌≤◌, ◌<◌, length}
use Rattle.rules.specs.Lists.{all_free}
use Rattle.rules.specs.Geometry as G
use Rattle.rules.specs.Order.{Input, keys_of}
use Rattle.rules.specs.Seed.{unbarred, seed_of, slots_of}
use Rattle.rings.specs.declared.Ring.{Ring}
use Rattle.rings.specs.Level.{level_ring}
use Rattle.best.specs.declared.Best.{Best}
use Rattle.best.specs.Prices.{is_free, Ended}
use Rattle.ring_keys.specs.RingKey.{ring_keys}
use Rattle.search.specs.Rows.{row_at, best_rows}
use Rattle.search.specs.Searching.{Held, Searched}

-- the work words after the look for the best free rotation: layout r's ring keys at row r from `at` on, and the bits of its rotations, each 1 where the
-- candidate is unbarred and its slots are unmarked, at row r from `to` on
pub record Prepared (i : Input) (marked : List ℕ) (first b : ℕ) (bitmap work : List ℕ) (at to count : ℕ) : Type 0 where
  pub held : Held i marked first b bitmap work
  pub keys : (r : ℕ) → r < G.layouts i.settings → row_at work at (length (keys_of i b)) r ≡ ring_keys i.settings (G.first i.settings b) r (keys_of i b)
  pub free : (r j : ℕ) → r < G.layouts i.settings → j < G.ring_len i.settings
      → is_free (row_at work to count r) j ≡ (unbarred i (record { r = r; j = j }) && all_free marked (slots_of i b (seed_of i (record { r = r; j = j }))))
  pub ended : (r : ℕ) → r < G.layouts i.settings → Ended (G.ring_len i.settings) (row_at work to count r)
  pub above : (level_ring i.settings).words ≤ at
  pub room : (at + G.layouts i.settings * length (keys_of i b) ≤ length work) × (to + G.layouts i.settings * count ≤ length work)

-- the same in the code's terms: the work words as the code has laid them out. The ring keys end before `mid`, and from there to `to` is room to sort the hashes
pub record Laid (i : Input) (marked : List ℕ) (first b : ℕ) (ring : Ring) (layouts : ℕ) (table keys : List ℕ) (start at mid to count : ℕ) (bitmap work : List ℕ) : Type 0 where
  pub prepared : Prepared i marked first b bitmap work at to count
  pub level : ring ≡ level_ring i.settings
  pub all : layouts ≡ G.layouts i.settings
  pub prices : table ≡ i.table
  pub hashes : keys ≡ keys_of i b
  pub begin : start ≡ G.first i.settings b
  pub below : at + layouts * length keys ≤ mid
  pub room : mid + 2 * length keys ≤ to

-- with the best free rotation f found, and as many words as before
pub record LaidBest (i : Input) (marked : List ℕ) (first b : ℕ) (ring : Ring) (layouts : ℕ) (table keys : List ℕ) (start at mid to count : ℕ) (bitmap work : List ℕ) (f : Best) (after : List ℕ) : Type 0 where
  pub laid : Laid i marked first b ring layouts table keys start at mid to count bitmap after
  pub is : f ≡ best_rows ring table after at (length keys) to count layouts
  pub len : length after ≡ length work

-- what the pass over all free rotations asks for, and what it promises
pub record Retrying (ring : Ring) (layouts : ℕ) (table keys : List ℕ) (start at mid to count : ℕ) (bitmap work : List ℕ) : Type 0 where
  pub i : Input
  pub marked : List ℕ
  pub first : ℕ
  pub b : ℕ
  pub laid : Laid i marked first b ring layouts table keys start at mid to count bitmap work

abbrev pub Retried : (ring : Ring) (layouts : ℕ) (table keys : List ℕ) (start at mid to count : ℕ) (bitmap work : List ℕ) (seed : ℕ) (bitmap' work' : List ℕ) → Type 0
Retried ring layouts table keys start at mid to count bitmap work seed bitmap' work' =
    (i : Input) (marked : List ℕ) (first b : ℕ) → Laid i marked first b ring layouts table keys start at mid to count bitmap work → Searched i marked first b work seed bitmap' work'
