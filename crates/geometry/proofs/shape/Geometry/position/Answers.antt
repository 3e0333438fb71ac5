use Rattle.geometry.proofs.Places.{shift_lt, seed_lt, masked}
use Rattle.geometry.proofs.Sizes.{Sized, sized}
use Rattle.rules.proofs.GeometryLaws.{position_lt}
use Rattle.rules.specs.Geometry as G
use Rattle.integers.specs.Shifts.{mask_is}
use lib.Bits.{bit_and, and_le_r}
use Rattle.std.proofs.Common.{◌≡◌, ℕ, ◌+◌, ◌-◌, ◌*◌, ◌/◌, ◌%◌, ◌^◌, ◌<◌, sym, ap, ◌∙◌, subst, mod-lt, mod-eq_of_lt, arith}
use Rattle.geometry.proofs.shape.Geometry.position.Goals as goal
use Rattle.geometry.proofs.shape.Geometry.position.Goals.{Start}

size : (c : goal.Start) → Sized c.args.self
size c = sized c.args.self

-- the layout of the seed
abbrev layout : goal.Start → ℕ
layout c = bit_and c.args.seed (c.args.self.layouts - 1)

layout_is : (c : goal.Start) → layout c ≡ c.args.seed % c.args.self.layouts
layout_is c = mask_is c.args.seed c.args.self.layouts c.args.self.settings.ll (size c).layouts_is

shift_small : (c : goal.Start) → layout c * c.args.self.layout_bits < 64
shift_small c =
    let z = size c in
    rw (layout_is c, z.bits_is) (shift_lt (c.args.seed % c.args.self.layouts) c.args.self.layouts (mod-lt c.args.seed z.layouts_low) z.layouts_low z.layouts_high)

seed_small : (c : goal.Start) → c.args.seed * 2 ^ c.args.self.scale < 2 ^ 32
seed_small c = seed_lt c.args.seed c.args.self.scale (omega arith) (size c).scale_high

-- what the code adds to the slice, for an offset o
abbrev inner : goal.Start → ℕ → ℕ
inner c o = bit_and (o / 2 ^ (layout c * c.args.self.layout_bits)) (c.args.self.l - 1) + (c.args.seed * 2 ^ c.args.self.scale) % 2 ^ 64

inner_is : (c : goal.Start) (o : ℕ) → bit_and (inner c o) (c.args.self.l - 1) ≡ (o / 2 ^ (layout c * c.args.self.layout_bits) + c.args.seed * 2 ^ c.args.self.scale) % c.args.self.l
inner_is c o =
    masked c.args.self.l (G.log_len c.args.self.settings) (o / 2 ^ (layout c * c.args.self.layout_bits)) (c.args.seed * 2 ^ c.args.self.scale)
    (size c).l_pow (omega (arith, seed_small c))

whole : (c : goal.Start) (o sl : ℕ) → o ≡ G.offset_of c.args.self.settings c.args.h → sl ≡ G.slice_of c.args.self.settings c.args.h
    → sl + bit_and (inner c o) (c.args.self.l - 1) ≡ G.position c.args.self.settings c.args.seed c.args.h
unfolding G.position G.layout_offset G.layouts
whole c o sl eo es =
    let z = size c in
    let e0 = layout_is c in
    let e1 = z.layouts_is in
    let e2 = z.bits_is in
    let e3 = z.scale_is in
    let e4 = z.l_is in
    ap (λ (n : ℕ). sl + n) (inner_is c o) ∙ cc

pub overflow_sub-mask : goal.overflow_sub-mask
overflow_sub-mask c = (size (goal.at.overflow_sub-mask c).Start).l_low

pub overflow_sub-r : goal.overflow_sub-r
overflow_sub-r c = (size (goal.at.overflow_sub-r c).Start).layouts_low

pub overflow_shr-x : goal.overflow_shr-x
overflow_shr-x c = shift_small (goal.at.overflow_shr-x c).Start

pub overflow_shl-result : goal.overflow_shl-result
overflow_shl-result c = omega (arith, (size (goal.at.overflow_shl-result c).Start).scale_high)

pub overflow_add-result : goal.overflow_add-result
overflow_add-result c =
    omega (arith, and_le_r (c.offset_of.result / 2 ^ (layout (goal.at.overflow_add-result c).Start * c.args.self.layout_bits)) (c.args.self.l - 1), (size (goal.at.overflow_add-result c).Start).l_high, seed_small (goal.at.overflow_add-result c).Start, mod-eq_of_lt {n = c.args.seed * 2 ^ c.args.self.scale} {m = 2 ^ 64} (omega (arith, seed_small (goal.at.overflow_add-result c).Start)))

pub overflow_add-result-2 : goal.overflow_add-result-2
overflow_add-result-2 c =
    omega (arith, c.slice_of.ensures.1, (size (goal.at.overflow_add-result-2 c).Start).ns_high, and_le_r (inner (goal.at.overflow_add-result-2 c).Start c.offset_of.result) (c.args.self.l - 1), (size (goal.at.overflow_add-result-2 c).Start).l_high)

pub returns : goal.returns
returns c =
    let e = whole (goal.at.returns c).Start c.offset_of.result c.slice_of.result c.offset_of.ensures c.slice_of.ensures.0 in
    (e, subst (λ (n : ℕ). n < c.args.self.settings.m) (sym e) (position_lt c.args.self.settings c.args.seed c.args.h c.args.self.usable.m_low (omega arith)))
