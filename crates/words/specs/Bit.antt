-- The bits of a number: bit i of w is 0 or 1.
-- Assumes nothing.
use Rattle.std.specs.Prelude.{ℕ, zero, suc, ◌+◌, ◌/◌, ◌%◌, ◌^◌}

unfoldable pub bit : ℕ → ℕ → ℕ
bit w i = w / 2 ^ i % 2

-- how many of the bits below k are set
unfoldable pub set_below : ℕ → ℕ → ℕ
set_below zero w = 0
set_below (suc k) w = set_below k w + bit w k
