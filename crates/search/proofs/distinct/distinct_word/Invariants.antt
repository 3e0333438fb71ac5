-- The best so far is that of the rotations below the lowest bit left (`Walk`), and the work is as it was. The measure is what is left of the word.
-- Assumes nothing.
use mathlib.Core.Path.{◌≡◌}
use Rattle.rings.specs.Keys.{cost_at}
use Rattle.best.specs.Walk.{Walk}
use Rattle.search.specs.Rows.{row_at}
use Rattle.search.specs.Distinct.{is_distinct}
use Rattle.search.proofs.distinct.distinct_word.Given as goal

abbrev pub invariant-loop-left : goal.invariant-loop-left
invariant-loop-left l = (l.work ≡ l.initial.work) × Walk (cost_at l.g l.table (row_at l.initial.work l.fn.rows.at l.fn.rows.size l.r)) (is_distinct l.g l.start (row_at l.initial.work l.fn.rows.at l.fn.rows.size l.r) (row_at l.initial.work l.fn.rows.to l.fn.rows.count l.r)) (row_at l.initial.work l.fn.rows.to l.fn.rows.count l.r) l.r l.w l.initial.best l.left l.best

abbrev pub decreases-loop-left : goal.decreases-loop-left
decreases-loop-left l = l.left
