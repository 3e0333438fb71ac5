-- The two branches are the two cases of `better`.
use mathlib.Core.Path.{refl}
use Rattle.best.specs.BestLaws.{better_taken, better_left}
use Rattle.best.proofs.price.cheaper.Goals as goal

pub returns-then-c-best : goal.returns-then-c-best
returns-then-c-best c = better_taken _ _ _ refl c.if-c-best.true

pub returns-else-c-best : goal.returns-else-c-best
returns-else-c-best c = better_left _ _ _ refl c.if-c-best.false
