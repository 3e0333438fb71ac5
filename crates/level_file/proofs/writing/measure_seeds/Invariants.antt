-- `measure_seeds`: what is told of the seeds is told of those that are left (`Measuring`). Assumes nothing.
use Rattle.level_file.proofs.MeasureLaws.{Measuring}
use Rattle.level_file.specs.Format.{not_below, all_but}
use Prim.Native.Nat.{◌*◌, ◌≤◌}
use lib.ListN.{drop}
use Rattle.level_file.proofs.writing.measure_seeds.Given as goal

abbrev pub invariant-loop-seed : goal.invariant-loop-seed
invariant-loop-seed l = Measuring (all_but (not_below l.limit) l.seeds) l.seeds (all_but (not_below l.limit) (drop l.seed-index l.seeds)) (drop l.seed-index l.seeds) l.total × (l.total ≤ 10 * l.seed-index)
