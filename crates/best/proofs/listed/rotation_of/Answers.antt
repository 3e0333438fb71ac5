-- The mask of 2^shift - 1 is the remainder by 2^shift. Assumes nothing.
use Rattle.best.proofs.FlatLaws.{low_code, low_small}
use Rattle.best.proofs.listed.rotation_of.Goals as goal

pub returns : goal.returns
returns c = (low_code _ _ c.requires, low_small c.args.q _ c.requires)
