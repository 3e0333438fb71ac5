-- What is worked out one by one is rule G's number each.
use Rattle.geometry.proofs.Assemble.{assemble}
use Rattle.std.proofs.Common.{arith}
use Rattle.geometry.proofs.shape.Geometry.new.Goals as goal

pub invariant_of-result : goal.invariant_of-result
invariant_of-result c =
    record {
      usable = c.requires;
      numbers = assemble c.args.settings _ _ _ _ _ _ _ _ _ _ _ (omega (arith, c.requires.odd)) c.slice_len-l.ensures.0 c.log2_len-log2_l.ensures.0 c.slice_count-slices.ensures.0 c.saturating_sub-scale.ensures c.power_of_two-layouts.ensures.0 c.stride_of-stride.ensures.0 c.per_bucket-per_bucket.ensures.0 c.power_of_two-span.ensures.0 c.power_of_two.ensures.0 c.fraction.ensures c.slots_of.ensures.0;
    }
