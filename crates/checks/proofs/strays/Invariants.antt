use Rattle.std.proofs.Common.{◌≡◌, ℕ, ◌<◌, get_or, true, eqb}
use Rattle.rules.specs.Geometry.{bucket_of}
use Rattle.checks.proofs.strays.Given as goal

abbrev pub invariant-loop-h : goal.invariant-loop-h
invariant-loop-h l = (k : ℕ) → k < l.h-index → eqb (bucket_of l.g.settings (get_or l.keys k 0)) l.b ≡ true
