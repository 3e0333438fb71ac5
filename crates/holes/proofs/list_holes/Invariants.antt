-- The holes at the front of the buffer. Both loops keep that what is written and what is left make the whole list: the outer one leaves the
-- holes from word w on, the inner one the set bits of what remains of a free word before those of the next words.
use Prim.Native.Nat.{◌≤◌, ◌<◌, ◌+◌, ◌*◌, ◌^◌}
use mathlib.Core.List.{◌++◌}
use Rattle.rules.specs.Holes.{holes_of}
use Rattle.holes.proofs.SetBits.{set_slots}
use Rattle.holes.proofs.Walk.{rest_from}
use Rattle.holes.proofs.Filling.{Filling}
use Rattle.holes.proofs.list_holes.Given as goal

abbrev pub invariant-loop-free : goal.invariant-loop-free
invariant-loop-free l =
    (l.free < 2 ^ 64) × (l.initial.n ≤ l.n) × Filling (holes_of l.m l.bitmap) l.initial.out l.out l.n (set_slots (l.w * 64) 64 l.free ++ rest_from l.m l.bitmap (l.w + 1))

abbrev pub decreases-loop-free : goal.decreases-loop-free
decreases-loop-free l = l.free

abbrev pub invariant-loop-w : goal.invariant-loop-w
invariant-loop-w l = Filling (holes_of l.m l.bitmap) l.initial.out l.out l.n (rest_from l.m l.bitmap l.w)
