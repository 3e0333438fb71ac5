-- The best so far is that of the rotations below 64 w, and from n on none is free; the work is as it was. Assumes nothing.
use Rattle.std.proofs.Common.{◌≡◌, ◌*◌}
use Rattle.rings.specs.Keys.{cost_at}
use Rattle.best.specs.Best.{best_from}
use Rattle.search.specs.Rows.{row_at}
use Rattle.search.specs.Distinct.{is_distinct}
use Rattle.search.proofs.distinct.distinct_layout.Given as goal

abbrev pub invariant-loop-w : goal.invariant-loop-w
invariant-loop-w l = (l.work ≡ l.initial.work) × (l.best ≡ best_from (cost_at l.g l.table (row_at l.initial.work l.rows.at l.rows.size l.r)) (is_distinct l.g l.start (row_at l.initial.work l.rows.at l.rows.size l.r) (row_at l.initial.work l.rows.to l.rows.count l.r)) l.r l.initial.best 0 (64 * l.w))
