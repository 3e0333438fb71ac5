-- The free words that are not 0, listed: each with its number behind it. What a pass over all free rotations asks for. Assumes nothing.
use Rattle.std.specs.Prelude.{◌≡◌, ◌≢◌, List, ℕ, zero, suc, ◌+◌, ◌*◌, ◌/◌, ◌^◌, ◌≤◌, ◌<◌, length, get_or}
use Rattle.words.specs.Map.{Words, tally}
use Rattle.rings.specs.declared.Ring.{Ring}
use Rattle.rings.specs.Ring.{Shape}
use Rattle.best.specs.Prices.{Prices}
use Rattle.best.specs.declared.Best.{Best}
use Rattle.best.specs.Flat.{row_of, best_flat}
use Rattle.best.specs.Kept.{Kept}

-- 1 where x is not 0, and 1 where it is 0
unfoldable pub some : ℕ → ℕ
some zero = 0
some (suc x) = 1

unfoldable pub none : ℕ → ℕ
none zero = 1
none (suc x) = 0

-- how many of the first i words are not 0
unfoldable pub some_to : List ℕ → ℕ → ℕ
some_to free zero = 0
some_to free (suc i) = some_to free i + some (get_or free i 0)

-- where word i stands in the list, if it is not 0
abbrev pub place : (free : List ℕ) (list i : ℕ) → ℕ
place free list i = list + 2 * some_to free i

pub record Entry (free : List ℕ) (list i : ℕ) (work : List ℕ) : Type 0 where
  pub word : get_or work (place free list i) 0 ≡ get_or free i 0
  pub number : get_or work (place free list i + 1) 0 ≡ i

-- the first `bits` words, listed from work[list] on
abbrev pub Listed : (free : List ℕ) (list bits : ℕ) (work : List ℕ) → Type 0
Listed free list bits work = (i : ℕ) → i < bits → get_or free i 0 ≢ 0 → Entry free list i work

-- the words of `free` are listed, `total` is the number of their ones, and each number of a rotation has keys with prices, below the list
pub record Listing (g : Ring) (table work : List ℕ) (at size shift list total : ℕ) (free : List ℕ) : Type 0 where
  pub shape : Shape g
  pub words : Words free
  pub listed : Listed free list (length free) work
  pub room : list + 2 * length free ≤ length work
  pub short : length free ≤ 65536
  pub bits : shift ≤ 16
  pub sum : total ≡ tally free (64 * length free)
  pub below : (q : ℕ) → q < 64 * length free → at + q / 2 ^ shift * size + size ≤ list
  pub prices : (q : ℕ) → q < 64 * length free → Prices g table (row_of work at size shift q)

-- what the pass asks for, and what it promises
pub record Pass (g : Ring) (table work : List ℕ) (at size shift list total : ℕ) : Type 0 where
  pub free : List ℕ
  pub listing : Listing g table work at size shift list total free

abbrev pub Passed : (g : Ring) (table work : List ℕ) (at size shift list total : ℕ) (b : Best) (after : List ℕ) → Type 0
Passed g table work at size shift list total b after =
    ((free : List ℕ) → Listing g table work at size shift list total free → b ≡ best_flat g table work at size shift free) × Kept list work after
