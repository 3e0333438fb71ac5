-- The two cases of rule S's seed. Assumes nothing.
use Rattle.search.specs.SettleLaws.{seed_whole, seed_part}
use Rattle.search.proofs.settle.seed_of.Goals as goal

pub returns-then-r-j-eq0 : goal.returns-then-r-j-eq0
returns-then-r-j-eq0 c = seed_whole _ _ c.args.r c.args.j c.if-r-j-eq0.true

pub returns-else-r-j-eq0 : goal.returns-else-r-j-eq0
returns-else-r-j-eq0 c = seed_part _ _ c.args.r c.args.j c.if-r-j-eq0.false
