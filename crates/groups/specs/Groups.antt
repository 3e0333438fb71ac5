-- Begins as the code reads it, one bucket at a time. Assumes nothing.
use Rattle.std.specs.Prelude.{List, ℕ, ◌+◌, ◌-◌, ◌<◌, ◌≤◌, length, get_or}

-- where bucket b's keys begin
abbrev pub begin_of : (begins : List ℕ) → (b : ℕ) → ℕ
begin_of begins b = get_or begins b 0

-- how many keys bucket b has: `size_of` of the rules, from begins alone
abbrev pub size_in : (begins : List ℕ) → (b : ℕ) → ℕ
size_in begins b = get_or begins (b + 1) 0 - get_or begins b 0

-- bucket b has a place in begins, which does not fall there
pub record Grouped (begins : List ℕ) (b : ℕ) : Type 0 where
  pub placed : b + 1 < length begins
  pub rises : get_or begins b 0 ≤ get_or begins (b + 1) 0
