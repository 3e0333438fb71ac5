-- The loop is a `Passing`: one free number a step, and the count of those left tells the end.
use Rattle.std.proofs.Common.{◌-◌}
use Rattle.best.proofs.Passing.{Passing}
use Rattle.best.proofs.listed.best_listed.Given as goal

abbrev pub invariant-loop : goal.invariant-loop
invariant-loop l = Passing l.g l.table l.initial.work l.at l.size l.shift l.list l.total l.work l.best l.k (l.total - l.counter)
