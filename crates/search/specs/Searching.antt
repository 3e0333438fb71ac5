-- What the search for a bucket's seed asks for, and what it promises. A sweep's state is told by three things that the code does not hold: the input i, the
-- list of marked slots, and the first slot of the stretch that the ring stands for. Assumes nothing.
use Rattle.std.specs.Prelude.{◌≡◌, List, ◌++◌, ℕ, ◌+◌, ◌*◌, ◌^◌, ◌≤◌, ◌<◌, length}
use Rattle.words.specs.Map.{Words, slot}
use Rattle.rules.specs.declared.Settings.{Settings}
use Rattle.rules.specs.Lists.{elem, indicator}
use Rattle.rules.specs.Geometry as G
use Rattle.rules.specs.Order.{Input, keys_of}
use Rattle.rules.specs.Seed.{seed_for}
use Rattle.rules.specs.Sweep.{takes}
use Rattle.rules.specs.Numbers.{bitmap_words}
use Rattle.rules.specs.Good.{Sound}
use Rattle.geometry.specs.declared.shape.Geometry.{Geometry}
use Rattle.rings.specs.declared.Ring.{Ring}
use Rattle.rings.specs.Columns.{Caches}
use Rattle.rings.specs.Level.{level_ring}

-- the bitmap has exactly the marked slots
pub record Marks (m : ℕ) (bitmap marked : List ℕ) : Type 0 where
  pub len : length bitmap ≡ bitmap_words m
  pub words : Words bitmap
  pub bits : (q : ℕ) → slot bitmap q ≡ indicator (elem q marked)

-- the ring's stretch begins at `first`, at most a column before the first slot of a bucket o, and b is one of the 256 from o on
pub record Near (s : Settings) (first b : ℕ) : Type 0 where
  pub o : ℕ
  pub from : first ≤ G.first s o
  pub to : G.first s o < first + 64 * 2 ^ G.stride s
  pub oldest : o ≤ b
  pub close : b < o + 256

-- bitmap and ring of a sweep over a sound input, when bucket b has its turn
pub record Held (i : Input) (marked : List ℕ) (first b : ℕ) (bitmap work : List ℕ) : Type 0 where
  pub sound : Sound i
  pub inside : b < i.settings.buckets
  pub near : Near i.settings first b
  pub marks : Marks i.settings.m bitmap marked
  pub caches : Caches (level_ring i.settings) work bitmap first

-- the arguments of `search` are those of bucket b
pub record Ready (i : Input) (marked : List ℕ) (first : ℕ) (g : Geometry) (ring : Ring) (table keys : List ℕ) (b z : ℕ) (bitmap work : List ℕ) : Type 0 where
  pub held : Held i marked first b bitmap work
  pub settings : g.settings ≡ i.settings
  pub level : ring ≡ level_ring i.settings
  pub prices : table ≡ i.table
  pub hashes : keys ≡ keys_of i b
  pub few : length keys ≤ z
  pub most : z ≤ 4096
  pub room : G.work_words i.settings z ≤ length work

pub record Searching (g : Geometry) (ring : Ring) (table keys : List ℕ) (b z : ℕ) (bitmap work : List ℕ) : Type 0 where
  pub i : Input
  pub marked : List ℕ
  pub first : ℕ
  pub ready : Ready i marked first g ring table keys b z bitmap work

-- the seed is rule S's, and its slots are added to bitmap and ring
pub record Searched (i : Input) (marked : List ℕ) (first b : ℕ) (work : List ℕ) (seed : ℕ) (bitmap' work' : List ℕ) : Type 0 where
  pub is : seed ≡ seed_for i marked b
  pub small : seed < 65536
  pub marks : Marks i.settings.m bitmap' (takes i b seed ++ marked)
  pub caches : Caches (level_ring i.settings) work' bitmap' first
  pub len : length work' ≡ length work

-- `search` promises it for every input, list and first slot that its arguments are those of
abbrev pub SeedFound : (g : Geometry) (ring : Ring) (table keys : List ℕ) (b z : ℕ) (bitmap work : List ℕ) (seed : ℕ) (bitmap' work' : List ℕ) → Type 0
SeedFound g ring table keys b z bitmap work seed bitmap' work' =
    (i : Input) (marked : List ℕ) (first : ℕ) → Ready i marked first g ring table keys b z bitmap work → Searched i marked first b work seed bitmap' work'
