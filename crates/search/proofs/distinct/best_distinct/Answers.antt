-- The best so far is that of the layouts below r, and the work is as it was. Assumes nothing.
use Rattle.std.proofs.Common.{refl, ◌∙◌}
use Rattle.search.specs.DistinctLaws.{rows_none, rows_more}
use Rattle.search.proofs.distinct.best_distinct.Goals as goal

pub loop-r-init : goal.loop-r-init
loop-r-init c = (refl, rows_none _ _ _ _ _ _ _ _)

pub loop-r-preserved : goal.loop-r-preserved
loop-r-preserved c =
    (c.distinct_layout-best.ensures.1 ∙ c.loop-r.invariant.0, rows_more c.args.g c.args.table.now c.args.work.now c.args.rows.at c.args.rows.size c.args.start c.args.rows.to c.args.rows.count c.loop-r.r c.loop-r.invariant.1 (rw c.loop-r.invariant.0 at c.distinct_layout-best.ensures.0))
