-- The best so far is that of the rotations below `begin`; from there to the next wrap point costs never fall. The measure is n - begin. Assumes nothing.
use mathlib.Core.Path.{◌≡◌, sym}
use native.Mathlib.Omega.{arith}
use Rattle.rings.specs.RingLaws.{n_le}
use Rattle.best.specs.BestLaws.{from_none}
use Rattle.best.specs.Segments.{next_rises, segment_more}
use Rattle.best.proofs.many.best_segments.Goals as goal

pub loop-begin-init : goal.loop-begin-init
loop-begin-init c = (omega arith, sym (from_none _ _ _ _ _))

pub best_segment-best-requires : goal.best_segment-best-requires
best_segment-best-requires c =
    record {
      shape = c.requires.shape;
      prices = c.requires.prices;
      begin_le_end = (omega arith, omega (arith, n_le c.args.g c.requires.shape), omega arith);
      rises = next_rises c.args.g c.requires.shape c.args.table.now c.args.keys.now c.requires.prices c.args.wraps.now c.requires.points c.loop-begin.begin c.loop-begin-test.true c.next_set-end.ensures.0;
    }

pub loop-begin-preserved : goal.loop-begin-preserved
loop-begin-preserved c = (omega arith, segment_more _ _ _ _ _ _ c.loop-begin.invariant.1 (omega arith) c.best_segment-best.ensures)

pub returns : goal.returns
returns c = let e : c.loop-begin.begin ≡ c.args.g.n = omega arith in
    rw e at c.loop-begin.invariant.1
