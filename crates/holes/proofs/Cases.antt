-- Of the three lines none applies to a fine call of `holes`. Assumes nothing.
use mathlib.Core.Path.{◌≡◌, refl}
use mathlib.Core.List.{List}
use Prim.Native.Nat.{ℕ, ◌+◌, ◌/◌, ◌≤◌}
use lib.ListN.{length}
use borrow.Author.Tests.{le-ltb, eq-eqb}
use Rattle.rules.specs.Holes.{holes_of}
use Rattle.rules.specs.Numbers.{first_of, line5, holes_lines}

pub all_fine : (m : ℕ) (ws : List ℕ) (room : ℕ) → 1 ≤ m → m ≤ 134217728 → length ws ≡ (m + 63) / 64 → length (holes_of m ws) ≤ room
    → first_of (holes_lines m ws room) ≡ 0
unfolding first_of holes_lines line5
all_fine m ws room a b e h =
    rw (le-ltb m 1 a, le-ltb 134217728 m b, eq-eqb (length ws) ((m + 63) / 64) e, le-ltb room (length (holes_of m ws)) h) refl
