use Rattle.sweep.specs.Sweeping.{Starting, Sweeping}
use Rattle.window.specs.Window.{state_of}
use Rattle.rules.specs.Order.{Input}
use lib.ListN.{length}
use Prim.Native.Nat.{ℕ}
use mathlib.Core.List.{List}
use mathlib.Core.Path.{◌≡◌}
use Rattle.sweep.proofs.turning.take_turns.Given as goal

abbrev pub invariant-loop-turn : goal.invariant-loop-turn
invariant-loop-turn l =
    ((i : Input) (pre : List ℕ) → Starting i l.g l.bump l.hashes l.begins l.table l.weights pre l.lo l.hi l.from l.z (state_of l.initial.window) l.initial.seeds l.initial.bitmap l.initial.work
    → Sweeping i l.bump pre l.lo l.hi l._turn (state_of l.window) l.first_slot l.z l.seeds l.bitmap l.work)
    × (length l.seeds ≡ length l.initial.seeds) × (length l.bitmap ≡ length l.initial.bitmap) × (length l.work ≡ length l.initial.work)
