-- Powers of two: `log_up x` is the least k with x ≤ 2 ^ k, and `least_power x` is the least power of two that is at least x. Assumes nothing.
use Rattle.std.specs.Prelude.{ℕ, zero, suc, ◌^◌, cond, leb}

-- the least k from j on with x ≤ 2 ^ k; j + f if there is none below
unfoldable pub least_from : ℕ → ℕ → ℕ → ℕ
least_from zero j x = j
least_from (suc f) j x = let later = least_from f (suc j) x in cond (leb x (2 ^ j)) j later

-- x steps are enough, since x ≤ 2 ^ x
unfoldable pub log_up : ℕ → ℕ
log_up x = least_from x 0 x

unfoldable pub least_power : ℕ → ℕ
least_power x = 2 ^ log_up x
