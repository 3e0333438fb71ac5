use Rattle.rules.specs.Geometry.{per_bucket}
use Rattle.std.proofs.Common.{ℕ, ◌+◌, ◌-◌, ◌/◌, ap, lt_of_le_of_lt, div-le_self, arith}
use Rattle.geometry.proofs.settings.per_bucket.Goals as goal

pub returns : goal.returns
unfolding per_bucket
returns c =
    let b = c.args.s.buckets in
    (ap (λ (n : ℕ). (n + (b - 1)) / b) c.slice_count.ensures.0, lt_of_le_of_lt (div-le_self (c.slice_count.result + (b - 1)) b) (omega (arith, c.slice_count.ensures.2, c.requires.m_high, c.requires.buckets_high)))
