-- `log_entry` meets its contract: the loop keeps the exponent to which the squarings that are left lead. Assumes nothing.
use Rattle.log_table.specs.Logs.{squares}
use Rattle.log_table.proofs.Entries.{Left}
use Rattle.log_table.proofs.making.log_entry.Given as goal

abbrev pub invariant-loop-n : goal.invariant-loop-n
invariant-loop-n l = Left l.n l.p.x l.p.e (squares l.initial.n l.initial.p.x l.initial.p.e)

abbrev pub decreases-loop-n : goal.decreases-loop-n
decreases-loop-n l = l.n
