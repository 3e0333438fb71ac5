-- `turn` gives the low n bits turned by x; no shift is of 64, since n - x is taken mod 64.
use Rattle.rings.specs.RowLaws.{turned}
use Rattle.rings.proofs.rows.turn.Goals as goal

pub returns : goal.returns
returns c = turned _ _ _ _ c.requires.0 c.requires.1 c.low_bits-low.ensures
