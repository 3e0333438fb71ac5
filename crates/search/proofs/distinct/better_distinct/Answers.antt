-- The rotation is priced, and where it costs less it is tried. A trial of slots that are unused tells whether two of them are one, and is taken back.
-- Assumes nothing.
use mathlib.Core.Path.{refl}
use Rattle.rings.specs.Parts.{part_range}
use Rattle.search.specs.DistinctLaws.{step_dear, step_fits, step_meets}
use Rattle.search.proofs.distinct.better_distinct.Goals as goal
use Rattle.search.proofs.distinct.better_distinct.Goals.{else-c-best-via-then-c-best+else-fits, else-c-best-via-else-c-best}

pub returns-then-fits : goal.returns-then-fits
returns-then-fits c = let e = rw (part_range c.args.work.now c.args.row.a c.args.row.size) at c.cost-c.ensures.0 in
    (step_fits c.requires.key_row c.requires.j_lt_n c.requires.unused _ _ e c.if-c-best.true c.fits.ensures.0 c.if-fits.true, c.fits.ensures.1)

pub returns : goal.returns
returns c =
    elim c.else-c-best.branch [
      | else-c-best-via-then-c-best+else-fits w ↦ rw w.work-is (step_meets c.requires.key_row c.requires.j_lt_n c.requires.unused _ _ w.fits.ensures.0 w.if-fits.false, w.fits.ensures.1)
      | else-c-best-via-else-c-best w ↦ rw w.work-is (step_dear _ _ _ _ _ _ _ (rw (part_range c.args.work.now c.args.row.a c.args.row.size) at c.cost-c.ensures.0) w.if-c-best.false, refl)
    ]
