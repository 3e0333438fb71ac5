-- `weight_of` reads a weight as `weight_of` says: half of the number, or -1 less that half. Assumes nothing.
use Rattle.list_input.specs.AskedLaws.{weight_even, weight_odd}
use Rattle.list_input.proofs.asked.weight_of.Goals as goal

pub returns-then-n-eq0 : goal.returns-then-n-eq0
returns-then-n-eq0 c = weight_even _ c.ranges.n.fits c.if-n-eq0.true

pub returns : goal.returns
returns c = weight_odd _ c.ranges.n.fits c.if-n-eq0.false
