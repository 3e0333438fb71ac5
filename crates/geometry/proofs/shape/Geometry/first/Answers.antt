use Rattle.geometry.proofs.Places.{first_halves, first_high}
use Rattle.geometry.proofs.Sizes.{sized}
use Rattle.rules.specs.Geometry as G
use Rattle.std.proofs.Common.{◌≡◌, ℕ, ◌+◌, ◌*◌, ◌/◌, ◌^◌, ◌≤◌, ap, ◌∙◌, ap₂, arith, w64, Fits}
use Rattle.geometry.proofs.shape.Geometry.first.Goals as goal
use Rattle.geometry.proofs.shape.Geometry.first.Goals.{Start}

left_fits : (x y : ℕ) → x + y ≤ 134217728 → Fits w64 x
left_fits x y h = omega arith

-- the two parts, at any place that knows the arguments
halves : (c : goal.Start) → c.args.b * c.args.self.q_hi + c.args.b * c.args.self.q_lo / 2 ^ 64 ≡ G.first c.args.self.settings c.args.b
unfolding G.first
halves c =
    let a = c.args in
    let z = sized a.self in
    ap₂ (λ (x y : ℕ). a.b * x + a.b * y / 2 ^ 64) z.hi_is z.lo_is ∙ first_halves a.b (G.quotient a.self.settings)

upto : (c : goal.Start) → c.args.b * c.args.self.q_hi + c.args.b * c.args.self.q_lo / 2 ^ 64 ≤ c.args.self.slices
upto c =
    let a = c.args in
    let z = sized a.self in
    omega (arith, halves c, first_high a.self.settings a.b c.requires, z.ns_is)

small : (c : goal.Start) → c.args.b * c.args.self.q_hi + c.args.b * c.args.self.q_lo / 2 ^ 64 ≤ 134217728
small c = omega (arith, upto c, (sized c.args.self).ns_high)

pub overflow_mul-result : goal.overflow_mul-result
overflow_mul-result c = left_fits (c.args.b * c.args.self.q_hi) (c.args.b * c.args.self.q_lo / 2 ^ 64) (small (goal.at.overflow_mul-result c).Start)

pub overflow_add-result : goal.overflow_add-result
overflow_add-result c = omega (arith, small (goal.at.overflow_add-result c).Start, c.mul_hi.ensures.0)

pub returns : goal.returns
returns c =
    let a = c.args in
    let e = ap (λ (n : ℕ). a.b * a.self.q_hi + n) c.mul_hi.ensures.0 in
    (e ∙ halves (goal.at.returns c).Start, omega (arith, e, upto (goal.at.returns c).Start))
