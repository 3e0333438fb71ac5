-- `put_holes`: as `put_seeds`, with the hole before; a hole is never below it (`Climbs`). Assumes nothing.
use Rattle.level_file.proofs.PutLaws.{Putting}
use Rattle.level_file.specs.Format.{gaps_from}
use Rattle.level_file.specs.Writing.{Climbs}
use lib.ListN.{drop}
use Rattle.level_file.proofs.writing.put_holes.Given as goal

abbrev pub invariant-loop-hole : goal.invariant-loop-hole
invariant-loop-hole l = Putting (gaps_from 0 l.holes) (gaps_from l.before (drop l.hole-index l.holes)) l.initial.out l.out l.at l.place × Climbs l.before (drop l.hole-index l.holes)
