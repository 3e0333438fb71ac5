-- `next_set` gives the first free rotation of the segment, and costs never fall from there on.
use native.Mathlib.Omega.{arith}
use Rattle.best.specs.Segments.{segment_first, segment_none}
use Rattle.best.proofs.many.best_segment.Goals as goal

pub returns-then-j-end : goal.returns-then-j-end
returns-then-j-end c = segment_first _ _ _ _ _ _ (omega arith) c.requires.rises c.next_set-j.ensures.0 c.if-j-end.true c.better_of.ensures

pub returns-else-j-end : goal.returns-else-j-end
returns-else-j-end c = segment_none _ _ _ _ _ _ (omega arith) c.next_set-j.ensures.0 c.if-j-end.false
