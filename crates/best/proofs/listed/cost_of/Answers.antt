-- The keys of the number's layout at its rotation. Assumes nothing.
use mathlib.Core.Path.{◌∙◌}
use Rattle.best.proofs.FlatLaws.{cost_code}
use Rattle.best.proofs.listed.cost_of.Goals as goal

pub returns : goal.returns
returns c = c.cost.ensures.0 ∙ cost_code c.args.g c.args.table.now c.args.work.now c.args.at c.args.size c.args.shift c.args.q c.rotation_of-j.ensures.0
