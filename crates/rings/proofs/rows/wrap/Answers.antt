-- `wrap` gives the low k bits of a under those of b.
use Rattle.rings.specs.RowLaws.{wrapped}
use Rattle.rings.proofs.rows.wrap.Goals as goal

pub returns : goal.returns
returns c = wrapped _ _ _ c.requires
