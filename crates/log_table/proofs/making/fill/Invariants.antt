-- `fill` meets its contract: the loop keeps that the entries before d are there. Assumes nothing.
use Rattle.log_table.proofs.Entries.{Filled}
use Rattle.log_table.proofs.making.fill.Given as goal

abbrev pub invariant-loop-d : goal.invariant-loop-d
invariant-loop-d l = Filled l.d l.table
