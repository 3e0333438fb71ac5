-- The words passed are listed (`ListedTo`).
use Rattle.best.proofs.ListLaws.{ListedTo}
use Rattle.best.proofs.listed.list_words.Given as goal

abbrev pub invariant-loop-i : goal.invariant-loop-i
invariant-loop-i l = ListedTo l.initial.work l.to l.bits l.list l.i l.c l.work
