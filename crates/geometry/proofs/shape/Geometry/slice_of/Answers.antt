use Rattle.geometry.proofs.Sizes.{sized}
use Rattle.rules.specs.Geometry as G
use Rattle.std.proofs.Common.{ℕ, ◌*◌, ◌/◌, ◌^◌, ap, ◌∙◌, arith}
use Rattle.geometry.proofs.shape.Geometry.slice_of.Goals as goal

pub returns : goal.returns
unfolding G.slice_of
returns c =
    let z = sized c.args.self in
    (c.mul_hi.ensures.0 ∙ ap (λ (n : ℕ). c.args.h * n / 2 ^ 64) z.ns_is, omega (arith, c.mul_hi.ensures.2, z.ns_low))
