use Rattle.rules.specs.Geometry.{slices}
use Rattle.std.proofs.Common.{ℕ, ◌+◌, ◌-◌, ap, arith}
use Rattle.geometry.proofs.settings.slice_count.Goals as goal

pub returns : goal.returns
unfolding slices
returns c = (ap (λ (l : ℕ). c.args.s.m + 1 - l) c.slice_len.ensures.0, omega arith, omega arith)
