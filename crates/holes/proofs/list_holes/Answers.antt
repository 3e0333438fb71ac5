-- The holes at the front of the buffer. Both loops keep that what is written and what is left make the whole list: the outer one leaves the
-- holes from word w on, the inner one the set bits of what remains of a free word before those of the next words.
use Prim.Native.Nat.{◌+◌, ◌-◌, ◌*◌}
use mathlib.Core.List.{◌∷◌, ◌++◌}
use native.Mathlib.Omega.{arith}
use lib.Bits.{bit_and, and_le_r}
use lib.Count.{count_trailing_zeros, trailing_le}
use Rattle.rules.specs.Holes.{holes_of}
use Rattle.holes.proofs.SetBits.{set_slots}
use Rattle.holes.proofs.Walk.{rest_from, rest_all, rest_none, rest_step}
use Rattle.holes.proofs.Filling.{Filling, fill_start, fill_restart, fill_all, fill_end, fill_room, fill_put, fill_chain, fill_slots, fill_word}
use Rattle.holes.proofs.list_holes.Goals as goal
use Rattle.holes.proofs.list_holes.Goals.{In-loop-free}

-- the lowest set bit is the next element
next : (c : goal.In-loop-free)
    → let a = c.args in
    let w = c.loop-w.w in
    Filling (holes_of a.m a.bitmap.now) c.loop-w.out c.loop-free.out c.loop-free.n
    ((w * 64 + count_trailing_zeros 64 c.loop-free.free) ∷ (set_slots (w * 64) 64 (bit_and c.loop-free.free (c.loop-free.free - 1)) ++ rest_from a.m a.bitmap.now (w + 1)))
next c = fill_slots _ _ _ c.loop-free.invariant.0 (omega (arith, c.loop-free-test.true)) c.loop-free.invariant.2

pub loop-w-init : goal.loop-w-init
loop-w-init c = rw rest_all (fill_start _ _ c.requires.2)

pub loop-free-init : goal.loop-free-init
loop-free-init c = (
  omega arith,
  omega arith,
  rw (c.free_bits-free.ensures, ← rest_step _ _ _ (c.type_inv.bitmap _).fits) (fill_restart c.loop-w.invariant),
)

pub overflow_add-out : goal.overflow_add-out
overflow_add-out c = omega (arith, trailing_le 64 c.loop-free.free)

pub bounds-out-n : goal.bounds-out-n
bounds-out-n c = fill_room (next (goal.at.bounds-out-n c).In-loop-free)

pub loop-free-smaller : goal.loop-free-smaller
loop-free-smaller c = omega (arith, c.loop-free-test.true, and_le_r c.loop-free.free (c.loop-free.free - 1))

pub loop-free-preserved : goal.loop-free-preserved
loop-free-preserved c = (omega (arith, and_le_r c.loop-free.free (c.loop-free.free - 1)), omega arith, fill_put (next (goal.at.loop-free-preserved c).In-loop-free))

pub loop-w-preserved : goal.loop-w-preserved
loop-w-preserved c = fill_chain c.loop-w.invariant (fill_word _ _ _ (omega (arith, c.loop-free-test.false)) c.loop-free.invariant.2) c.loop-free.invariant.1

pub shape_of-out : goal.shape_of-out
shape_of-out c = c.loop-w.invariant.same

pub returns : goal.returns
returns c =
    let a = c.args in
    let f = c.loop-w.invariant in
    let none = rest_none a.m a.bitmap.now c.loop-w.w (omega arith) in
    record {
      counted = fill_all f none;
      listed = fill_end f none;
    }
