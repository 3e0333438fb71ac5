-- The best so far is that of the rotations below 64 w, and from n on none is free; the work is as it was. Assumes nothing.
use Rattle.std.proofs.Common.{◌+◌, ◌*◌, refl, sym, ◌∙◌, arith}
use Rattle.rings.specs.Parts.{length_part}
use Rattle.best.specs.BestLaws.{from_none}
use Rattle.best.specs.Walk.{word_more, word_end}
use Rattle.search.specs.Rows.{row_at}
use Rattle.search.specs.DistinctLaws.{distinct_only}
use Rattle.search.proofs.distinct.distinct_layout.Goals as goal

pub loop-w-init : goal.loop-w-init
loop-w-init c = (refl, sym (from_none _ _ _ _ _))

pub loop-w-preserved : goal.loop-w-preserved
loop-w-preserved c =
    (c.distinct_word-best.ensures.1 ∙ c.loop-w.invariant.0, word_more _ _ _ _ _ c.loop-w.invariant.1 (rw c.loop-w.invariant.0 at c.distinct_word-best.ensures.0))

pub returns : goal.returns
returns c =
    (word_end _ _ _ _ _ _ c.loop-w.w (distinct_only c.args.g c.args.start (row_at c.args.work.now c.args.rows.at c.args.rows.size c.args.r) (row_at c.args.work.now c.args.rows.to c.args.rows.count c.args.r)) c.requires.free_row.ended (omega (arith, length_part c.args.work.now (c.args.rows.to + c.args.r * c.args.rows.count) c.args.rows.count c.requires.free_row.room)) c.loop-w.invariant.1, c.loop-w.invariant.0)
