-- After i turns the first i slots are written, and what is written next is the slot of hash i.
use mathlib.Core.Path.{◌≡◌}
use mathlib.Core.List.{map}
use lib.Seq.{paste}
use Rattle.exports.specs.Positions.{slot_of}
use Rattle.exports.proofs.asking.fill_in.Given as goal

abbrev pub invariant-loop-i : goal.invariant-loop-i
invariant-loop-i l = l.slots ≡ paste l.initial.slots 0 (map (slot_of l.g.settings l.seeds) l.hashes) l.i
