-- The first marked slot of a range, or the range's end where there is none.
-- Assumes nothing.
use Rattle.std.specs.Prelude.{List, cond, ℕ, zero, suc, ◌-◌, eqb}
use Rattle.words.specs.Map.{slot}

-- the first marked slot among the n from s on, or s + n
unfoldable pub first_set : List ℕ → ℕ → ℕ → ℕ
first_set ws zero s = s
first_set ws (suc n) s = cond (eqb (slot ws s) 1) s (first_set ws n (suc s))

-- the first marked slot from b on and below e, or e (b ≤ e)
unfoldable pub next_set : List ℕ → ℕ → ℕ → ℕ
next_set ws b e = first_set ws (e - b) b
