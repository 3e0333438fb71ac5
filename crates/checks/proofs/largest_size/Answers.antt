use Rattle.checks.proofs.Sizes.{largest_none, largest_next, rising_grouped}
use native.Mathlib.Omega.{arith}
use Rattle.checks.proofs.largest_size.Goals as goal

pub loop-b-init : goal.loop-b-init
loop-b-init c = (largest_none _, omega arith)

pub size_of-requires : goal.size_of-requires
size_of-requires c = rising_grouped _ _ _ c.requires.buckets_in_bounds c.requires.buckets_value (omega arith)

pub loop-b-preserved : goal.loop-b-preserved
loop-b-preserved c = (largest_next c.loop-b.invariant.0 c.size_of.ensures.0 (omega arith), omega arith)
