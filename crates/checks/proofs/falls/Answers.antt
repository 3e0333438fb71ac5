use Rattle.std.proofs.Common.{◌∙◌, not, refl, arith, rules, tests}
use Rattle.std.proofs.lemmas.Iterator.{YieldsList-from_range}
use Rattle.std.proofs.lemmas.Iterator.Search.{any_from_yields_List}
use Rattle.rules.specs.Numbers.{step_up, rising}
use Rattle.checks.proofs.Every.{some_below}
use Rattle.checks.proofs.falls.Goals as goal

pub returns : goal.returns
unfolding rising step_up
returns c =
    any_from_yields_List (λ k. not (step_up c.args.xs.now k)) _ _ _ c.any.ensures.ran (YieldsList-from_range 0 c.args.n c.args.n refl (omega arith)) (λ k b q r. search (rules, tests))
    ∙ some_below (step_up c.args.xs.now) c.args.n
