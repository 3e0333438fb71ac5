-- The begins of 1,400 buckets of at most 4,096 keys. Assumes nothing.
use Rattle.std.specs.Prelude.{◌≡◌, List, ℕ, ◌+◌, ◌<◌, ◌≤◌, length, get_or}
use Rattle.groups.specs.Groups.{size_in}

pub record Sized (begins : List ℕ) : Type 0 where
  pub long : length begins ≡ 1401
  pub rises : (b : ℕ) → b < 1400 → get_or begins b 0 ≤ get_or begins (b + 1) 0
  pub sizes : (b : ℕ) → b < 1400 → size_in begins b ≤ 4096
