-- The scratch marks what has been met (`Marking`), so a bit that is set is a slot that is met again.
use Rattle.level_check.proofs.Marking.{Marking}
use Rattle.rules.specs.Geometry as G
use Rattle.level_check.proofs.slots.mark_keys.Given as goal

abbrev pub invariant-loop-key : goal.invariant-loop-key
invariant-loop-key l = Marking l.g.settings.m (G.position l.g.settings l.seed) l.keys l.initial.scratch l.key-index l.scratch
