-- `sorting::neighbours::equal_neighbours` meets its contract: where no pair is left there is none that is equal. Assumes nothing.
use Rattle.std.proofs.Common.{sym, ◌∙◌, arith}
use Rattle.std.specs.Slice.Iter.{windows_rest}
use Rattle.sorting.proofs.TwinSteps.{no_pair}
use Rattle.sorting.proofs.neighbours.equal_neighbours.Goals as goal

pub returns : goal.returns
returns c =
    let none = rw c.in-None.is at c.next.ensures.steps in
    sym (no_pair (windows_rest c.loop-pair.pair-iterator) (omega (arith, none.1.0, c.loop-pair.invariant.0))) ∙ c.loop-pair.invariant.1
