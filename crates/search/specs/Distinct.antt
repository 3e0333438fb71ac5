-- The best of the free rotations at which no two keys meet, and what the pass over the free rotations asks of the work words. Assumes nothing.
use Rattle.std.specs.Prelude.{◌≡◌, Bool, cond, ◌&&◌, List, ℕ, ◌+◌, ◌*◌, ◌^◌, ◌≤◌, ◌<◌, length}
use Rattle.words.specs.Map.{slot}
use Rattle.rules.specs.Lists.{distinct}
use Rattle.rings.specs.declared.Ring.{Ring}
use Rattle.rings.specs.Ring.{Shape}
use Rattle.rings.specs.Keys.{Keys, cost_at}
use Rattle.rings.specs.Parts.{part}
use Rattle.best.specs.declared.Best.{Best}
use Rattle.best.specs.Best.{better, best_of}
use Rattle.best.specs.Prices.{Prices, is_free, Ended}
use Rattle.search.specs.Slots.{slots_at, Unused, Reached}
use Rattle.search.specs.Rows.{row_at}

-- rotation j is free, and its slots are pairwise different
unfoldable pub is_distinct : (g : Ring) (start : ℕ) (keys free : List ℕ) (j : ℕ) → Bool
is_distinct g start keys free j = is_free free j && distinct (slots_at g start keys j)

-- rotation j of layout r where its slots are pairwise different and it costs less than the best so far
unfoldable pub better_distinct : (g : Ring) (table : List ℕ) (start : ℕ) (keys : List ℕ) (r j : ℕ) → Best → Best
better_distinct g table start keys r j b = cond (distinct (slots_at g start keys j)) (better (cost_at g table keys j) r j b) b

-- the best of all layouts
unfoldable pub best_distinct : (g : Ring) (table work : List ℕ) (at size start to count layouts : ℕ) → Best
best_distinct g table work at size start to count layouts =
    best_of (λ (r : ℕ). cost_at g table (row_at work at size r)) (λ (r : ℕ). is_distinct g start (row_at work at size r) (row_at work to count r)) g.n layouts

-- the keys work[a..a + size] of a layout
pub record KeyRow (g : Ring) (table work : List ℕ) (a size start : ℕ) : Type 0 where
  pub shape : Shape g
  pub above : g.words ≤ a
  pub room : a + size ≤ length work
  pub prices : Prices g table (part work a size)
  pub keys : Keys (part work a size) start
  pub begin : start < 2 ^ 62
  pub near : Reached g start (part work a size)

-- its free words work[f..f + count], whose rotations' slots are unused
pub record FreeRow (g : Ring) (work : List ℕ) (a size start f count : ℕ) : Type 0 where
  pub room : f + count ≤ length work
  pub ended : Ended g.n (part work f count)
  pub unused : (j : ℕ) → j < g.n → slot (part work f count) j ≡ 1 → Unused g work start (part work a size) j

-- the keys and free words of all layouts
pub record AllRows (g : Ring) (table work : List ℕ) (at size start to count layouts : ℕ) : Type 0 where
  pub keys : (r : ℕ) → r < layouts → KeyRow g table work (at + r * size) size start
  pub free : (r : ℕ) → r < layouts → FreeRow g work (at + r * size) size start (to + r * count) count
  pub room : (at + layouts * size ≤ length work) × (to + layouts * count ≤ length work)
