-- `put_head`: the version and the settings as a list of numbers, of which what is left is written from the present place on (`Putting`).
-- Assumes nothing.
use Rattle.level_file.proofs.PutLaws.{Putting}
use lib.ListN.{drop}
use Rattle.level_file.proofs.writing.put_head.Given as goal

abbrev pub invariant-loop-number : goal.invariant-loop-number
invariant-loop-number l = Putting l.number-items (drop l.number-index l.number-items) l.initial.out l.out 0 l.place
