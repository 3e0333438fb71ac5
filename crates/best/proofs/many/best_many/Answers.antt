-- The best so far is that of the layouts below r (`Trying`), and what is below `up` is kept, so each layout's parts are still those of the list at entry.
use Rattle.std.proofs.Common.{◌+◌, ◌*◌, refl, arith}
use Rattle.rings.specs.Parts.{length_part}
use Rattle.best.specs.Kept.{kept_self, kept_on}
use Rattle.best.specs.Layouts.{trying_none, trying_more, trying_end, row_le, prices_layout, layout_part}
use Rattle.best.proofs.many.best_many.Goals as goal

pub loop-r-init : goal.loop-r-init
loop-r-init c = (trying_none _ _ _ _ _ _ _, kept_self _ _)

pub best_between-best-requires : goal.best_between-best-requires
best_between-best-requires c =
    let p = c.requires.size_bound in
    let lt = c.loop-r-test.true in
    let r = c.loop-r.r in
    let k = row_le r c.args.rows.layouts c.args.rows.size lt in
    let f = row_le r c.args.rows.layouts c.args.rows.count lt in
    record {
      shape = c.requires.shape;
      prices = rw (layout_part c.args.rows.at c.args.rows.size c.args.rows.layouts r (c.args.rows.at + r * c.args.rows.size) c.loop-r.invariant.1 (omega arith) lt refl)
          (prices_layout c.args.rows.size c.args.rows.layouts r c.requires.prices (length_part c.args.work.now c.args.rows.at (c.args.rows.layouts * c.args.rows.size) (omega arith)) lt);
      size_bound = (omega arith, omega arith, omega (arith, c.loop-r.invariant.1.len), p.3);
    }

pub loop-r-preserved : goal.loop-r-preserved
loop-r-preserved c =
    let lt = c.loop-r-test.true in
    let e = c.best_between-best.ensures in
    let k = c.loop-r.invariant.1 in
    let r = c.loop-r.r in (
      trying_more c.loop-r.invariant.0 lt
          (layout_part c.args.rows.at c.args.rows.size c.args.rows.layouts r (c.args.rows.at + r * c.args.rows.size) k (omega arith) lt refl)
          (layout_part c.args.rows.to c.args.rows.count c.args.rows.layouts r (c.args.rows.to + r * c.args.rows.count) k (omega arith) lt refl)
          e.0,
      kept_on k e.1,
    )

pub returns : goal.returns
returns c = (trying_end c.loop-r.invariant.0 c.loop-r-test.false, c.loop-r.invariant.1)
