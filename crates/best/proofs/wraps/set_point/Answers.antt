-- A key at place 0 has no wrap point; any other has the bit n - x, which is one of the set's.
use Rattle.std.proofs.Common.{arith}
use Rattle.best.proofs.Stored.{filled_none, filled_point}
use Rattle.best.proofs.wraps.set_point.Goals as goal

pub returns-then-x-ne0 : goal.returns-then-x-ne0
returns-then-x-ne0 c = filled_point _ _ _ _ _ c.place_of-x.ensures c.if-x-ne0.true (omega arith) c.requires.count_in_bounds.0 c.set_bit.ensures

pub returns-else-x-ne0 : goal.returns-else-x-ne0
returns-else-x-ne0 c = filled_none _ _ _ _ _ c.place_of-x.ensures c.if-x-ne0.false
