-- Layout after layout in the work words: a layout's keys or free words, the best free rotation of all layouts, and what the look for it leaves.
-- Assumes nothing.
use Rattle.std.specs.Prelude.{◌≡◌, ◌≢◌, List, ℕ, ◌+◌, ◌-◌, ◌*◌, ◌^◌, ◌≤◌, ◌<◌, eqb, length, take, Option, MatchOption}
use Rattle.rings.specs.declared.Ring.{Ring}
use Rattle.rings.specs.Keys.{cost_at, free_at}
use Rattle.rings.specs.Parts.{part}
use Rattle.best.specs.declared.Best.{Best}
use Rattle.best.specs.Best.{best_of}
use Rattle.best.specs.Prices.{is_free, Ended}

-- layout r's keys or free words
abbrev pub row_at : (work : List ℕ) (at size r : ℕ) → List ℕ
row_at work at size r = part work (at + r * size) size

-- the best free rotation: layout r has the keys and the free words of row r
unfoldable pub best_rows : (g : Ring) (table work : List ℕ) (at size to count layouts : ℕ) → Best
best_rows g table work at size to count layouts =
    best_of (λ (r : ℕ). cost_at g table (row_at work at size r)) (λ (r : ℕ). is_free (row_at work to count r)) g.n layouts

-- the best b, where anything was found: `nothing` costs 2^64 - 1
abbrev pub Found : Option Best → (b : Best) → Type 0
Found r b = MatchOption r (b.cost ≡ 2 ^ 64 - 1) (λ f. (f ≡ b) × (f.cost ≢ 2 ^ 64 - 1))

-- how many words hold n bits
pub record FreeWords (n count : ℕ) : Type 0 where
  pub whole : n ≤ 64 * count
  pub short : 64 * count < n + 64
  pub some : 1 ≤ count

-- the look for the best free rotation: what is below `to` stays, the free words from there on tell which rotations are free, and the best of these is found
pub record Looked (g : Ring) (table l : List ℕ) (at size start to count layouts : ℕ) (b : Best) (now : List ℕ) : Type 0 where
  pub front : take to now ≡ take to l
  pub len : length now ≡ length l
  pub free : (r j : ℕ) → r < layouts → j < g.n → is_free (row_at now to count r) j ≡ eqb (free_at g l (row_at l at size r) start r j) 1
  pub ended : (r : ℕ) → r < layouts → Ended g.n (row_at now to count r)
  pub is : b ≡ best_rows g table now at size to count layouts
