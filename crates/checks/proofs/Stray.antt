-- Keys outside their bucket, told from what `strayed` is given and of every input that has it. Assumes nothing.
use mathlib.Core.Path.{◌≡◌, refl}
use mathlib.Core.Bool.{Bool, not}
use mathlib.Core.List.{List}
use Prim.Native.Nat.{ℕ}
use lib.ListN.{take, drop}
use Rattle.rules.specs.declared.Settings.{Settings}
use Rattle.rules.specs.Lists.{every, below}
use Rattle.rules.specs.Order.{Input, size_of, keys_of}
use Rattle.rules.specs.Numbers.{is_home, all_home}
use Rattle.groups.specs.Groups.{size_in, begin_of}
use Rattle.checks.specs.Homes.{all_in, Strayed}

-- the keys of bucket b, as `keys_of` hands them over
abbrev pub part_of : (hashes begins : List ℕ) → (b : ℕ) → List ℕ
part_of hashes begins b = take (size_in begins b) (drop (begin_of begins b) hashes)

-- bucket b's keys are inside it
abbrev pub home_at : Settings → (hashes begins : List ℕ) → (b : ℕ) → Bool
home_at s hashes begins b = all_in s (part_of hashes begins b) b

-- so are those of the first n buckets
unfoldable all_at : Settings → (hashes begins : List ℕ) → (n : ℕ) → Bool
all_at s hashes begins n = every (home_at s hashes begins) (below n)

all_of : (i : Input) (n : ℕ) → all_at i.settings i.hashes i.begins n ≡ every (all_home i) (below n)
unfolding all_at all_home is_home keys_of size_of
all_of i n = refl

pub strayed_by : (s : Settings) (hashes begins : List ℕ) (n : ℕ) (r : Bool) → r ≡ not (every (home_at s hashes begins) (below n)) → Strayed s hashes begins n r
unfolding all_at
strayed_by s hashes begins n r e =
    let at : r ≡ not (all_at s hashes begins n) = e in
    record { is = λ i es eh eb. cc (at, es, eh, eb, all_of i n) }
