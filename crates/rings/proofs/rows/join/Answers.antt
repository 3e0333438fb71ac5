-- `join` gives the 64 bits from bit s of the pair on, by the law of the two shifts.
use Rattle.words.specs.RowLaws.{funnel}
use Rattle.rings.proofs.rows.join.Goals as goal

pub returns : goal.returns
returns c = funnel _ _ _ c.ranges.lo.fits c.requires
