-- `put_seeds`: what is left from the present place on (`Putting`). Assumes nothing.
use Rattle.level_file.proofs.PutLaws.{Putting}
use lib.ListN.{drop}
use Rattle.level_file.proofs.writing.put_seeds.Given as goal

abbrev pub invariant-loop-seed : goal.invariant-loop-seed
invariant-loop-seed l = Putting l.seeds (drop l.seed-index l.seeds) l.initial.out l.out l.at l.place
