-- The largest bucket size, told from begins and the number of buckets alone. Assumes nothing.
use Rattle.std.specs.Prelude.{◌≡◌, List, ℕ}
use Rattle.rules.specs.Lists.{below}
use Rattle.rules.specs.Order.{Input}
use Rattle.rules.specs.Numbers.{largest_of}

-- z is the largest size of the first n buckets of any input with these begins
pub record Largest (begins : List ℕ) (n z : ℕ) : Type 0 where
  pub same : (i : Input) → i.begins ≡ begins → z ≡ largest_of i (below n)
