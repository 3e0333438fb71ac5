-- The best rotation: rotations are taken in the order (r, j), and one that passes the test and costs less than the best so far is the best from there on.
-- The cost and the test are any functions: specs/Least shows that what is found is the least by (cost, r, j). Assumes nothing.
use Rattle.std.specs.Prelude.{Bool, cond, ℕ, zero, suc, ◌+◌, ◌-◌, ◌^◌, ltb}
use Rattle.best.specs.declared.Best.{Best}

-- nothing found: no cost is as large
abbrev pub nothing : Best
nothing = record { cost = 2 ^ 64 - 1; r = 0; j = 0 }

-- rotation j of layout r at cost c, where that is less than the best so far
unfoldable pub better : (c r j : ℕ) → Best → Best
better c r j b = cond (ltb c b.cost) (record { cost = c; r = r; j = j }) b

-- after b, rotations s, .., s + k - 1 of layout r
unfoldable pub best_from : (cost : ℕ → ℕ) (test : ℕ → Bool) (r : ℕ) (b : Best) (s k : ℕ) → Best
best_from cost test r b s zero = b
best_from cost test r b s (suc k) = cond (test (s + k)) (better (cost (s + k)) r (s + k) (best_from cost test r b s k)) (best_from cost test r b s k)

-- the n rotations of each layout below `layouts`
unfoldable pub best_of : (cost : ℕ → ℕ → ℕ) (test : ℕ → ℕ → Bool) (n layouts : ℕ) → Best
best_of cost test n zero = nothing
best_of cost test n (suc r) = best_from (cost r) (test r) r (best_of cost test n r) 0 n
