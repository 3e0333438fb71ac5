use Rattle.std.proofs.Common.{◌≡◌, ℕ, ◌<◌, true}
use Rattle.checks.proofs.Stray.{home_at}
use Rattle.checks.proofs.strayed.Given as goal

abbrev pub invariant-loop-b : goal.invariant-loop-b
invariant-loop-b l = (a : ℕ) → a < l.b → home_at l.g.settings l.hashes l.begins a ≡ true
