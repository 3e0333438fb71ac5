-- A bucket's rotations: what they cost, which of them are free, and what is asked of the keys, the table and the free words. Assumes nothing.
use Rattle.std.specs.Prelude.{◌≡◌, Bool, List, ℕ, ◌*◌, ◌^◌, ◌≤◌, ◌<◌, eqb, length}
use Rattle.words.specs.Map.{slot}
use Rattle.rules.specs.Good.{Rising}
use Rattle.rings.specs.declared.Ring.{Ring}
use Rattle.rings.specs.Keys.{cost_at, Priced}
use Rattle.rings.specs.Parts.{part}
use Rattle.best.specs.declared.Best.{Best}
use Rattle.best.specs.Best.{best_of}

-- the entries that the keys can need are among the first ones of the table, which never fall
pub record Prices (g : Ring) (table keys : List ℕ) : Type 0 where
  pub entries : ℕ
  pub enough : entries ≤ length table
  pub few : entries ≤ 2 ^ 31
  pub climbs : Rising table entries
  pub priced : Priced g entries keys
  pub size : length keys < 2 ^ 32

-- rotation j is a set bit of the free words
unfoldable pub is_free : (free : List ℕ) (j : ℕ) → Bool
is_free free j = eqb (slot free j) 1

-- layout r's keys are the r-th `size` keys, its free words the r-th `count` words
unfoldable pub cost_in : (g : Ring) (table keys : List ℕ) (size r : ℕ) → ℕ → ℕ
cost_in g table keys size r = cost_at g table (part keys (r * size) size)

unfoldable pub free_in : (free : List ℕ) (count r : ℕ) → ℕ → Bool
free_in free count r = is_free (part free (r * count) count)

-- the best free rotation of all layouts
unfoldable pub best_free : (g : Ring) (table keys : List ℕ) (size : ℕ) (free : List ℕ) (count layouts : ℕ) → Best
best_free g table keys size free count layouts = best_of (cost_in g table keys size) (free_in free count) g.n layouts

-- the free words of a layout end with rotation n - 1
pub record Ended (n : ℕ) (free : List ℕ) : Type 0 where
  pub whole : n ≤ 64 * length free
  pub short : length free ≤ 1024
  pub none : (j : ℕ) → n ≤ j → slot free j ≡ 0

-- those of each layout do
pub record EndedAll (n : ℕ) (free : List ℕ) (count layouts : ℕ) : Type 0 where
  pub whole : n ≤ 64 * count
  pub short : count ≤ 1024
  pub none : (r j : ℕ) → r < layouts → n ≤ j → slot (part free (r * count) count) j ≡ 0
