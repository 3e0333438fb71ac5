-- `measure_holes`: as `measure_seeds`, with the hole before and the least difference; holes that rise below m are at most m, so the sum fits. Assumes nothing.
use Rattle.level_file.proofs.MeasureLaws.{Measuring}
use Rattle.level_file.specs.Format.{gaps_from, holes_fine}
use Prim.Native.Nat.{◌+◌, ◌*◌, ◌≤◌}
use lib.ListN.{drop}
use Rattle.level_file.proofs.writing.measure_holes.Given as goal

abbrev pub invariant-loop-hole : goal.invariant-loop-hole
invariant-loop-hole l =
    Measuring (holes_fine l.m 0 0 l.holes) (gaps_from 0 l.holes) (holes_fine l.m l.before l.least (drop l.hole-index l.holes)) (gaps_from l.before (drop l.hole-index l.holes)) l.total
    × (l.total ≤ 10 * l.hole-index) × (l.hole-index ≤ l.before + l.least) × (l.before ≤ l.m) × (l.least ≤ 1)
