-- The sum so far is that of the keys passed (`sum_to`), at step j 2^t and mask (n - 1) 2^t; each entry is one of the table's, and no sum of fewer than
-- 2^32 entries of 32 bits reaches 2^64 - 1.
use mathlib.Core.Path.{◌≡◌, sym, ◌∙◌}
use Prim.Native.Nat.{◌-◌, ◌*◌, ◌%◌, ◌^◌}
use native.Mathlib.Omega.{arith}
use lib.ListN.{length}
use Rattle.best.specs.PriceLaws.{sum_none, sum_more, sum_cost}
use Rattle.best.proofs.price.cost.Goals as goal

pub loop-d-init : goal.loop-d-init
loop-d-init c = (sym (sum_none _ _ _ _), omega arith)

pub loop-d-preserved : goal.loop-d-preserved
loop-d-preserved c = (
  omega (arith, sum_more c.args.table.now c.args.keys.now (c.args.j * 2 ^ c.args.g.t % 2 ^ 64) ((c.args.g.n - 1) * 2 ^ c.args.g.t % 2 ^ 64) c.loop-d.d-index),
  omega arith,
)

pub returns : goal.returns
returns c = let e : c.loop-d.d-index ≡ length c.args.keys.now = omega arith in
    (rw e at c.loop-d.invariant.0 ∙ sum_cost c.args.g c.requires.shape c.args.table.now c.args.keys.now c.args.j c.requires.j_bound, omega (arith, c.requires.prices.size))
