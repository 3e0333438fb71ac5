use Rattle.rules.specs.Order.{weight}
use lib.ListN.{length, get_or}
use lib.IntN.{ℤ, pos}
use Prim.Native.Nat.{ℕ, ◌≤◌, ◌<◌}
use mathlib.Core.List.{List}
use mathlib.Core.Path.{◌≡◌}
use Rattle.window.proofs.rule.weight_table.Given as goal

-- the entries from 1 on and below k are there
pub record Filled (ws t : List ℤ) (k : ℕ) : Type 0 where
  pub from : 1 ≤ k
  pub to : k ≤ 64
  pub long : length t ≡ 64
  pub entry : (j : ℕ) → 1 ≤ j → j < k → get_or t j (pos 0) ≡ weight ws j

abbrev pub invariant-loop-size : goal.invariant-loop-size
invariant-loop-size l = Filled l.weights l.table l.size
