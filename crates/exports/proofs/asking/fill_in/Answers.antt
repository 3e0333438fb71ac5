-- After i turns the first i slots are written, and what is written next is the slot of hash i.
use native.Mathlib.Omega.{arith}
use Rattle.exports.specs.Positions.{slot_of}
use Rattle.exports.proofs.Fill.{filled_more}
use Rattle.exports.proofs.asking.fill_in.Goals as goal

pub loop-i-preserved : goal.loop-i-preserved
loop-i-preserved c =
    let a = c.args in
    rw (c.loop-i.invariant, c.slot_in.ensures) (filled_more (slot_of a.g.settings a.seeds.now) a.hashes.now a.slots.now c.requires.slots_len c.loop-i.i (omega arith))
