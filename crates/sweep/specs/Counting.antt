-- The counts of a finished sweep, told from begins and seeds alone. Assumes nothing.
use Rattle.std.specs.Prelude.{◌≡◌, List, ℕ, ◌+◌, ◌^◌, ◌≤◌, ◌<◌, length, get_or}
use Rattle.rules.specs.declared.Counts.{Counts}
use Rattle.rules.specs.Lists.{below, total}
use Rattle.rules.specs.Order.{Input}
use Rattle.rules.specs.Answers.{placed_keys, bumped_keys, zero_bucket}

-- begins has a place for n buckets and does not fall over them; they are few enough to count
pub record Regular (begins : List ℕ) (n : ℕ) : Type 0 where
  pub long : n + 1 ≤ length begins
  pub rises : (b : ℕ) → b < n → get_or begins b 0 ≤ get_or begins (b + 1) 0
  pub few : n < 2 ^ 31

-- c counts the first n buckets of any input with these begins
pub record Counted (begins seeds : List ℕ) (n : ℕ) (c : Counts) : Type 0 where
  pub placed : (i : Input) → i.begins ≡ begins → c.placed ≡ total (placed_keys i seeds) (below n)
  pub bumped : (i : Input) → i.begins ≡ begins → c.bumped ≡ total (bumped_keys i seeds) (below n)
  pub zero : (i : Input) → i.begins ≡ begins → c.zero ≡ total (zero_bucket i seeds) (below n)
