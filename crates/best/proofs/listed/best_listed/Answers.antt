-- The loop is a `Passing`: one free number a step, and the count of those left tells the end.
use Rattle.std.proofs.Common.{◌≡◌, ◌≢◌, ◌+◌, ◌-◌, ◌∙◌, arith}
use Rattle.best.proofs.Passing.{pass_start, pass_end, pass_in, pass_prices, pass_on}
use Rattle.best.proofs.Stored.{none_test}
use Rattle.best.proofs.listed.best_listed.Goals as goal

pub loop-init : goal.loop-init
loop-init c =
    let all : c.args.total - 0 ≡ c.args.total = omega arith in
    rw all (pass_start _ _ _ _ _ _ _ _)

pub bounds-work-k-in-loop : goal.bounds-work-k-in-loop
bounds-work-k-in-loop c =
    let n : c.args.total - c.loop.counter ≢ 0 = λ e. omega arith in
    (pass_in c.loop.invariant n c.requires).1

pub cost_of-c-requires-clause-prices : goal.cost_of-c-requires-clause-prices
cost_of-c-requires-clause-prices c =
    let n : c.args.total - c.loop.counter ≢ 0 = λ e. omega arith in
    pass_prices c.loop.invariant n c.requires

pub loop-preserved : goal.loop-preserved
loop-preserved c =
    let n : c.args.total - c.loop.counter ≢ 0 = λ e. omega arith in
    let one_less : c.args.total - (c.loop.counter + 1) ≡ c.args.total - c.loop.counter - 1 = omega arith in
    let a = c.loop.invariant in
    rw one_less (pass_on a n (pass_in a n c.requires) c.cost_of-c.ensures c.cheaper-best.ensures (c.from.ensures ∙ none_test _))

pub returns : goal.returns
returns c = pass_end c.loop.invariant (omega arith)
