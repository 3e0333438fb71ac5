-- The rotations of all layouts under one number: rotation j of layout r is number r 2^shift + j, where a layout's free words have 2^shift bits. So number q is
-- free where bit q of all free words is set. Assumes nothing.
use Rattle.std.specs.Prelude.{◌≡◌, List, ℕ, ◌+◌, ◌*◌, ◌/◌, ◌%◌, ◌^◌, length}
use Rattle.rings.specs.declared.Ring.{Ring}
use Rattle.rings.specs.Keys.{cost_at}
use Rattle.rings.specs.Parts.{part}
use Rattle.best.specs.declared.Best.{Best}
use Rattle.best.specs.Best.{nothing, best_from}
use Rattle.best.specs.Prices.{is_free}

-- the keys of number q's layout: layout r has the `size` keys from work[at + r size] on
abbrev pub row_of : (work : List ℕ) (at size shift q : ℕ) → List ℕ
row_of work at size shift q = part work (at + q / 2 ^ shift * size) size

-- what number q costs
unfoldable pub flat_cost : (g : Ring) (table work : List ℕ) (at size shift q : ℕ) → ℕ
flat_cost g table work at size shift q = cost_at g table (row_of work at size shift q) (q % 2 ^ shift)

-- the best of all numbers that are free; its j is the number
unfoldable pub best_flat : (g : Ring) (table work : List ℕ) (at size shift : ℕ) (free : List ℕ) → Best
best_flat g table work at size shift free = best_from (flat_cost g table work at size shift) (is_free free) 0 nothing 0 (64 * length free)

-- a best whose j is a number, as layout and rotation
unfoldable pub layout_of : (shift : ℕ) → Best → Best
layout_of shift b = record { cost = b.cost; r = b.j / 2 ^ shift; j = b.j % 2 ^ shift }

-- a layout's free words are a power of two
pub record Power (count : ℕ) : Type 0 where
  pub e : ℕ
  pub is : count ≡ 2 ^ e
