-- `log_entry` meets its contract: the loop keeps the exponent to which the squarings that are left lead. Assumes nothing.
use Prim.Native.Nat.{ℕ, ◌/◌, ◌+◌}
use mathlib.Core.Path.{ap, ◌∙◌}
use native.Mathlib.Omega.{arith}
use lib.Count.{count_leading_zeros}
use Rattle.log_table.proofs.Entries.{left_start, left_small, left_step, left_end, Begun, begun}
use Rattle.log_table.proofs.making.log_entry.Goals as goal
use Rattle.log_table.proofs.making.log_entry.Goals.{Start}

start : (c : goal.Start) → Begun c.args.d (count_leading_zeros 64 c.args.d)
start c = begun c.args.d c.requires (omega arith)

pub loop-n-init : goal.loop-n-init
loop-n-init c = left_start _ _ _ (omega arith) (omega arith)

pub squared-p-requires : goal.squared-p-requires
squared-p-requires c = omega (arith, left_small _ _ _ _ c.loop-n.invariant)

pub loop-n-preserved : goal.loop-n-preserved
loop-n-preserved c = left_step _ _ _ _ _ _ _ (omega arith) c.squared-p.ensures.0 c.squared-p.ensures.1 c.loop-n.invariant

pub overflow_add-result : goal.overflow_add-result
overflow_add-result c = omega (arith, left_small _ _ _ _ c.loop-n.invariant)

pub overflow_cast-result : goal.overflow_cast-result
overflow_cast-result c = omega (arith, left_small _ _ _ _ c.loop-n.invariant)

pub returns : goal.returns
returns c =
    ap (λ (r : ℕ). (r + 1) / 2) (left_end _ _ _ _ (omega arith) c.loop-n.invariant) ∙ (start (goal.at.returns c).Start).entry
