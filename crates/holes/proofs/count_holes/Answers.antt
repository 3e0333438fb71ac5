-- How many holes there are. The total so far and the holes from word w on make all of them, and one turn moves a free word's ones across.
use Prim.Native.Nat.{◌+◌}
use mathlib.Core.Path.{◌≡◌, ap}
use native.Mathlib.Omega.{arith}
use lib.ListN.{length}
use lib.Count.{ones}
use Rattle.holes.proofs.Walk.{rest_from, rest_all, rest_none, holes_length, count_step}
use Rattle.holes.proofs.count_holes.Goals as goal
use Rattle.holes.proofs.count_holes.Goals.{After-free_bits}

-- the holes from word w on are its free word's ones and those from the next word on
one_more : (c : goal.After-free_bits)
    → length (rest_from c.args.m c.args.bitmap.now c.loop-w.w)
    ≡ ones c.free_bits.result
    + length (rest_from c.args.m c.args.bitmap.now (c.loop-w.w + 1))
one_more c = rw c.free_bits.ensures (count_step _ _ _ (c.type_inv.bitmap _).fits)

pub loop-w-init : goal.loop-w-init
loop-w-init c = omega (arith, ap length (rest_all c.args.m c.args.bitmap.now))

pub overflow_add-total : goal.overflow_add-total
overflow_add-total c = omega (arith, one_more (goal.at.overflow_add-total c).After-free_bits, holes_length c.args.m c.args.bitmap.now)

pub loop-w-preserved : goal.loop-w-preserved
loop-w-preserved c = omega (arith, one_more (goal.at.loop-w-preserved c).After-free_bits)

pub returns : goal.returns
returns c =
    let a = c.args in
    omega (arith, ap length (rest_none a.m a.bitmap.now c.loop-w.w (omega arith)), holes_length a.m a.bitmap.now)
