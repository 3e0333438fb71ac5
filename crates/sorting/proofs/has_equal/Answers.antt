-- `sorting::has_equal` meets its contract: the sorted keys stand at the front of the work, and equal keys are then neighbours.
-- Assumes nothing.
use mathlib.Core.Path.{sym}
use Prim.Native.Nat.{◌*◌}
use native.Mathlib.Omega.{arith}
use lib.ListN.{length}
use lib.Seq.{length-take-le}
use Rattle.sorting.proofs.Lent.{answer, beyond, long}
use Rattle.sorting.proofs.has_equal.Goals as goal

pub slice_bounds-sort_into-end-2 : goal.slice_bounds-sort_into-end-2
slice_bounds-sort_into-end-2 c = sym (length-take-le _ _ (omega arith))

pub sort_into-requires : goal.sort_into-requires
sort_into-requires c =
    omega (arith, length-take-le (2 * length c.args.keys.now) c.args.work.now (omega arith))

pub slice_bounds-equal_neighbours-end-2 : goal.slice_bounds-equal_neighbours-end-2
slice_bounds-equal_neighbours-end-2 c = sym (length-take-le _ _ (omega arith))

pub returns : goal.returns
returns c =
    record {
      answer = answer c.args.keys.now c.args.work.now c.sort_into.new.work c.requires c.sort_into.auto.work c.sort_into.ensures c.equal_neighbours.result c.equal_neighbours.ensures;
      beyond = beyond c.args.keys.now c.args.work.now c.sort_into.new.work c.requires c.sort_into.auto.work;
      long = long c.args.keys.now c.args.work.now c.sort_into.new.work c.requires c.sort_into.auto.work;
    }
