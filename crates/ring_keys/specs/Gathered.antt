-- What the pass that makes a bucket's ring keys and its free rotations at once asks for, and what it promises: the keys' words and the free words are those
-- that two passes would write, first the ring keys and then the free words of each layout. Assumes nothing.
use Rattle.std.specs.Prelude.{◌≡◌, List, ℕ, ◌+◌, ◌*◌, ◌^◌, ◌≤◌, ◌<◌, length, get_or, set, take}
use Rattle.rules.specs.declared.Settings.{Settings}
use Rattle.rules.specs.Geometry.{layouts, slice_of}
use Rattle.rules.specs.Good.{Good}
use Rattle.geometry.specs.declared.shape.Geometry.{Geometry}
use Rattle.rings.specs.declared.Ring.{Ring}
use Rattle.rings.specs.Ring.{Shape}
use Rattle.rings.specs.Keys.{Key}
use Rattle.rings.specs.Free.{FilledTo}
use Rattle.rings.specs.Blocked.{Added}
use Rattle.rings.specs.Level.{level_ring}
use Rattle.ring_keys.specs.RingKey.{ring_key, Bucket, LayoutsFilled, KeysFilled}

-- what is asked for one key: the ring is the front of the list, and p is one of its words
pub record RowReady (ring : Ring) (d start p : ℕ) (work : List ℕ) : Type 0 where
  pub shape : Shape ring
  pub short : ring.n ≤ 64
  pub above : ring.words ≤ length work
  pub key : Key start d
  pub low : start < 2 ^ 62
  pub word : p < length work

-- word p has key d's row too; all other words are as before
pub record RowAdded (g : Ring) (old : List ℕ) (d start p : ℕ) (now : List ℕ) : Type 0 where
  pub word : ℕ
  pub added : Added g old d start 0 (get_or old p 0) word
  pub stored : now ≡ set old p word

-- below word `to` the words are those of a list that P holds of
pub record Below (to : ℕ) (now : List ℕ) (P : List ℕ → Type 0) : Type 0 where
  pub filled : List ℕ
  pub done : P filled
  pub same : take to now ≡ take to filled

-- what is asked for one hash: its keys go to every size-th word from `at` on, which end before `to`, and its rows to the words from `to` on
pub record HashReady (g : Geometry) (ring : Ring) (h start at size to : ℕ) (work : List ℕ) : Type 0 where
  pub shape : Shape ring
  pub short : ring.n ≤ 64
  pub begins : start ≤ slice_of g.settings h
  pub key : (r : ℕ) → Key start (ring_key g.settings start r h)
  pub some : 1 ≤ size
  pub few : size < 2 ^ 62
  pub above : ring.words ≤ at
  pub keys : at + layouts g.settings * size < to + size
  pub free : to + layouts g.settings ≤ length work
  pub low : start < 2 ^ 62

-- hash h's keys of the first r layouts are in, and their rows are added to the words from `to` on. The keys lie below `to`, so they are in any list that has the
-- same words there.
pub record HashGathered (s : Settings) (ring : Ring) (h start at size to r : ℕ) (old now : List ℕ) : Type 0 where
  pub keys : (l : List ℕ) → length l ≡ length old → take to l ≡ take to old → Below to now (LayoutsFilled s h start at size r l)
  pub len : length now ≡ length old
  pub rows : (q : ℕ) → q < r → Added ring old (ring_key s start q h) start 0 (get_or old (to + q) 0) (get_or now (to + q) 0)
  pub after : (p : ℕ) → to + r ≤ p → get_or now p 0 ≡ get_or old p 0

-- what is asked for a bucket: the ring, the keys and the free words lie one above the other
pub record Ready (g : Geometry) (ring : Ring) (hashes : List ℕ) (start at to : ℕ) (work : List ℕ) : Type 0 where
  pub good : Good g.settings
  pub level : ring ≡ level_ring g.settings
  pub short : ring.n ≤ 64
  pub bucket : Bucket g.settings start hashes
  pub above : ring.words ≤ at
  pub keys : at + layouts g.settings * length hashes ≤ to
  pub free : to + layouts g.settings ≤ length work
  pub low : start < 2 ^ 62

-- the ring keys are in, and the free words that they tell, `count` to a layout; `total` rotations are free
pub record Gathered (s : Settings) (ring : Ring) (hashes : List ℕ) (start at to count : ℕ) (l : List ℕ) (total : ℕ) (now : List ℕ) : Type 0 where
  -- the words with the ring keys in and the free words not yet
  pub filled : List ℕ
  pub keys : KeysFilled s hashes start at l filled
  pub free : FilledTo ring filled at (length hashes) start to count (layouts s) total now
