-- `fill_keys` fills hash after hash: hash i's keys go to word i of each layout's part.
use Rattle.ring_keys.specs.FillLaws.{KeysTo}
use Rattle.ring_keys.proofs.fill.fill_keys.Given as goal

abbrev pub invariant-loop-i : goal.invariant-loop-i
invariant-loop-i l = KeysTo l.g.settings l.hashes l.start l.at l.i l.initial.work l.work
