-- The best so far is that of the layouts below r, and the work is as it was. Assumes nothing.
use Rattle.std.proofs.Common.{◌≡◌}
use Rattle.search.specs.Distinct.{best_distinct}
use Rattle.search.proofs.distinct.best_distinct.Given as goal

abbrev pub invariant-loop-r : goal.invariant-loop-r
invariant-loop-r l = (l.work ≡ l.initial.work) × (l.best ≡ best_distinct l.g l.table l.initial.work l.rows.at l.rows.size l.start l.rows.to l.rows.count l.r)
