use Rattle.geometry.proofs.Sizing.{by_tests}
use Rattle.geometry.proofs.count.size_fits.Goals as goal

pub returns-then-size : goal.returns-then-size
returns-then-size c = cc (by_tests c.args.cap c.args.size c.requires)

pub returns-else-size : goal.returns-else-size
returns-else-size c = cc (by_tests c.args.cap c.args.size c.requires)
