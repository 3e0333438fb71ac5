-- The sum so far is that of the keys passed (`sum_to`), at step j 2^t and mask (n - 1) 2^t; each entry is one of the table's, and no sum of fewer than
-- 2^32 entries of 32 bits reaches 2^64 - 1.
use mathlib.Core.Path.{◌≡◌}
use Prim.Native.Nat.{◌≤◌, ◌*◌}
use Rattle.best.specs.PriceLaws.{sum_to}
use Rattle.best.proofs.price.cost.Given as goal

abbrev pub invariant-loop-d : goal.invariant-loop-d
invariant-loop-d l = (l.sum ≡ sum_to l.table l.keys l.step l.mask l.d-index) × (l.sum ≤ 4294967295 * l.d-index)
