-- What the window was before the loop it still is, with the buckets below b entered.
use Rattle.window.specs.Large.{tell}
use Rattle.window.specs.Window.{State, state_at, state_of, Ranged, Window}
use Rattle.rules.specs.Order.{Input}
use lib.IntN.{ℤ}
use Prim.Native.Nat.{ℕ}
use mathlib.Core.List.{List}
use mathlib.Core.Path.{◌≡◌}
use Rattle.window.proofs.Window.fill.Given as goal

-- a window before is a window after
abbrev pub Filling : List ℕ → List ℤ → ℕ → State → State → Type 0
Filling begins table hi s₀ s = (i : Input) (lo k : ℕ) (rest : List ℕ) → Ranged i begins table hi → Window i lo hi k s₀ rest → Window i lo hi k s rest

abbrev pub invariant-loop-b : goal.invariant-loop-b
invariant-loop-b l =
    (l.self.oldest ≡ l.initial.self.oldest)
    × Filling l.begins l.table l.hi (state_of l.initial.self) (state_at l.self.queues l.self.set (tell l.self.large) l.self.oldest l.b)
    × (l.self.queues.heads ≡ l.initial.self.queues.heads)
