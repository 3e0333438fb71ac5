-- Begins as they are made, one entry after the other. Assumes nothing.
use mathlib.Core.Path.{◌≡◌}
use mathlib.Core.List.{List}
use Prim.Native.Nat.{ℕ, ◌+◌, ◌*◌, ◌≤◌, ◌<◌}
use lib.ListN.{length, get_or}
use Rattle.groups.specs.Groups.{size_in}

-- the first b buckets
pub record Grown (out : List ℕ) (x total b : ℕ) : Type 0 where
  pub long : length out ≡ 1401
  pub low : b ≤ 1400
  pub small : x < 2147483648
  pub few : total ≤ 4096 * b
  pub last : get_or out b 0 ≡ total
  pub rises : (j : ℕ) → j < b → get_or out j 0 ≤ get_or out (j + 1) 0
  pub sizes : (j : ℕ) → j < b → size_in out j ≤ 4096
