-- `chunk_gap` is `chunk_gap` over the geometry's numbers; l is at most 2^16 and B below 2^27, so the product has room.
use native.Mathlib.Omega.{arith}
use Rattle.geometry.proofs.Sizes.{sized}
use Rattle.sweep.proofs.RangeLaws.{gap_is, product_small, gap_small}
use Rattle.sweep.proofs.chunks.chunk_gap.Goals as goal

pub overflow_mul-result : goal.overflow_mul-result
overflow_mul-result c = omega (arith, product_small c.args.g)

pub nonzero_div-result : goal.nonzero_div-result
nonzero_div-result c = (sized c.args.g).ns_low

pub overflow_add-result : goal.overflow_add-result
overflow_add-result c = omega (arith, gap_small c.args.g)

pub returns : goal.returns
returns c = (gap_is c.args.g, omega arith, omega (arith, gap_small c.args.g))
