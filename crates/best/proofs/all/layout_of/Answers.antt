-- Layout and rotation of the number are its quotient and its remainder. Assumes nothing.
use Rattle.best.proofs.FlatLaws.{layout_code}
use Rattle.best.proofs.all.layout_of.Goals as goal

pub returns : goal.returns
returns c = layout_code _ _ c.rotation_of.ensures.0
