use Rattle.std.proofs.Common.{◌∙◌, not, rules, tests}
use Rattle.std.proofs.lemmas.Iterator.{YieldsList-from_slice}
use Rattle.std.proofs.lemmas.Iterator.Search.{any_from_yields_List}
use Rattle.rules.specs.Numbers.{moderate}
use Rattle.checks.proofs.Every.{some_fails}
use Rattle.checks.proofs.heavy.Goals as goal

pub returns : goal.returns
unfolding moderate
returns c =
    any_from_yields_List (λ w. not (moderate w)) _ _ _ c.any.ensures.ran (YieldsList-from_slice c.args.weights cc) (λ w b q r. search (rules, tests))
    ∙ some_fails moderate c.args.weights
