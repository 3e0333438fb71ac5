use Rattle.window.proofs.LargeLaws.{Scanned}
use Rattle.window.proofs.large.largest.Given as goal

abbrev pub invariant-loop-b : goal.invariant-loop-b
invariant-loop-b l = Scanned l.set l.begins l.table l.o l.e l.b l.best
