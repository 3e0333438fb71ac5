-- `layout_place` masks twice in place of one remainder by l, a power of two.
use mathlib.Core.Path.{◌≡◌}
use Prim.Native.Nat.{ℕ, ◌+◌, ◌-◌, ◌*◌, ◌/◌, ◌%◌, ◌^◌, ◌<◌}
use native.Mathlib.Omega.{arith}
use native.Mathlib.Nat.{mod-eq_of_lt}
use lib.Bits.{bit_and, and_le_r}
use Rattle.rules.specs.Geometry.{log_len}
use Rattle.geometry.specs.declared.shape.Geometry.{Geometry}
use Rattle.geometry.proofs.Sizes.{Sized, sized}
use Rattle.geometry.proofs.Places.{seed_lt, masked}
use Rattle.ring_keys.proofs.fill.layout_place.Goals as goal
use Rattle.ring_keys.proofs.fill.layout_place.Goals.{Start}

size : (c : goal.Start) → Sized c.args.g
size c = sized c.args.g

-- what the layout's number adds
turn_small : (c : goal.Start) → c.args.r * 2 ^ c.args.g.scale < 2 ^ 32
turn_small c = seed_lt c.args.r c.args.g.scale (omega arith) (size c).scale_high

-- the sum before the second mask
abbrev inner : Geometry → (offset shift r : ℕ) → ℕ
inner g offset shift r = bit_and (offset / 2 ^ shift) (g.l - 1) + (r * 2 ^ g.scale) % 2 ^ 64

place_is : (c : goal.Start) → bit_and (inner c.args.g c.args.offset c.args.shift c.args.r) (c.args.g.l - 1) ≡ (c.args.offset / 2 ^ c.args.shift + c.args.r * 2 ^ c.args.g.scale) % c.args.g.l
place_is c =
    masked c.args.g.l (log_len c.args.g.settings) (c.args.offset / 2 ^ c.args.shift) (c.args.r * 2 ^ c.args.g.scale)
    (size c).l_pow (omega (arith, turn_small c))

pub overflow_sub-mask : goal.overflow_sub-mask
overflow_sub-mask c = (size (goal.at.overflow_sub-mask c).Start).l_low

pub overflow_shl-result : goal.overflow_shl-result
overflow_shl-result c = omega (arith, (size (goal.at.overflow_shl-result c).Start).scale_high)

pub overflow_add-result : goal.overflow_add-result
overflow_add-result c =
    omega (arith, and_le_r (c.args.offset / 2 ^ c.args.shift) (c.args.g.l - 1), (size (goal.at.overflow_add-result c).Start).l_high, turn_small (goal.at.overflow_add-result c).Start, mod-eq_of_lt {n = c.args.r * 2 ^ c.args.g.scale} {m = 2 ^ 64} (omega (arith, turn_small (goal.at.overflow_add-result c).Start)))

pub returns : goal.returns
returns c =
    (place_is (goal.at.returns c).Start, omega (arith, and_le_r (inner c.args.g c.args.offset c.args.shift c.args.r) (c.args.g.l - 1), (size (goal.at.returns c).Start).l_high, (size (goal.at.returns c).Start).l_low))
