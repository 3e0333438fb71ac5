-- `measure_head`: the bytes of the numbers so far, at most ten to each (`Measuring`). Assumes nothing.
use Rattle.level_file.proofs.MeasureLaws.{Measuring}
use mathlib.Core.Bool.{true}
use lib.ListN.{drop}
use Prim.Native.Nat.{◌*◌, ◌≤◌}
use Rattle.level_file.proofs.writing.measure_head.Given as goal

abbrev pub invariant-loop-number : goal.invariant-loop-number
invariant-loop-number l = Measuring true l.number-items true (drop l.number-index l.number-items) l.total × (l.total ≤ 10 * l.number-index)
