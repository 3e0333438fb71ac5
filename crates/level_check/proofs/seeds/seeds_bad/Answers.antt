-- A seed is bad where its bucket's test fails.
use Rattle.std.proofs.Common.{◌∙◌, not, refl, length, arith, rules, tests}
use Rattle.std.proofs.lemmas.Iterator.{YieldsList-from_range}
use Rattle.std.proofs.lemmas.Iterator.Search.{any_from_yields_List}
use Rattle.checks.proofs.Every.{some_below}
use Rattle.level_check.specs.Walk.{seed_at}
use Rattle.level_check.proofs.seeds.seeds_bad.Goals as goal

pub returns : goal.returns
unfolding seed_at
returns c =
    let a = c.args in
    let n = length a.seeds.now in
    any_from_yields_List (λ b. not (seed_at a.limit a.begins.now a.seeds.now b)) _ _ _ c.any.ensures.ran (YieldsList-from_range 0 n n refl (omega arith)) (λ b r q k. search (rules, tests))
    ∙ some_below (seed_at a.limit a.begins.now a.seeds.now) n
