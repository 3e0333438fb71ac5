-- Whether hashes are outside their buckets, told from what a function is given of an input. Assumes nothing.
use Rattle.std.specs.Prelude.{◌≡◌, Bool, not, List, ℕ, ◌+◌, ◌≤◌, ◌<◌, length, eqb, get_or}
use Rattle.rules.specs.declared.Settings.{Settings}
use Rattle.rules.specs.Lists.{every, below}
use Rattle.rules.specs.Order.{Input}
use Rattle.rules.specs.Geometry.{bucket_of}
use Rattle.rules.specs.Numbers.{all_home}

-- each of the keys is inside bucket b
abbrev pub all_in : Settings → (keys : List ℕ) → (b : ℕ) → Bool
all_in s keys b = every (λ h. eqb (bucket_of s h) b) keys

-- r says whether one of the first n buckets has a key outside it
pub record Strayed (s : Settings) (hashes begins : List ℕ) (n : ℕ) (r : Bool) : Type 0 where
  pub is : (i : Input) → i.settings ≡ s → i.hashes ≡ hashes → i.begins ≡ begins → r ≡ not (every (all_home i) (below n))

-- begins has a place for n buckets, rises over them, and ends within the keys
pub record Begun (begins : List ℕ) (n keys : ℕ) : Type 0 where
  pub long : n + 1 ≤ length begins
  pub rises : (b : ℕ) → b < n → get_or begins b 0 ≤ get_or begins (b + 1) 0
  pub within : (b : ℕ) → b ≤ n → get_or begins b 0 ≤ keys
