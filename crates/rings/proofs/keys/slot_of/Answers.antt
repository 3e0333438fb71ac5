-- `slot_of` gives the slot: the entry, counted from start - 95.
use native.Mathlib.Omega.{arith}
use Rattle.rings.specs.KeyLaws.{entry_ge}
use Rattle.rings.specs.Keys.{slot_at}
use Rattle.rings.proofs.keys.slot_of.Goals as goal

pub overflow_sub-result : goal.overflow_sub-result
overflow_sub-result c = omega (arith, entry_ge c.args.g c.args.d c.args.j)

pub returns : goal.returns
unfolding slot_at
returns c = omega arith
