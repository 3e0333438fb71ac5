-- `grow` takes one more byte as `grown_by` says. The group fits above the value exactly where it is at most what is left of 64 bits,
-- shifted down, and then the shift up loses no bit. Assumes nothing.
use Rattle.std.specs.Prelude.{Some}
use Prim.Native.Nat.{ℕ, ◌+◌, ◌<◌, ◌^◌}
use Rattle.house_numbers.specs.DecodeLaws.{grown_long, grown_wide, grown_whole, grown_more, value_wide, value_fits, value_is}
use Rattle.house_numbers.specs.declared.Grown.TheVariants as Grow
use mathlib.Core.Path.{ap, ◌∙◌}
use native.Mathlib.Omega.{arith}
use Rattle.house_numbers.proofs.grow.Goals as goal

pub returns-then-groups-gt9 : goal.returns-then-groups-gt9
returns-then-groups-gt9 c = grown_long _ _ c.if-groups-gt9.true

pub returns-then-group-value : goal.returns-then-group-value
returns-then-group-value c =
    let a = c.args in
    grown_wide a.part a.byte (omega arith) (value_wide a.part a.byte (omega arith) c.if-group-value.true)

pub returns-then-byte-lt128 : goal.returns-then-byte-lt128
returns-then-byte-lt128 c =
    let a = c.args in
    let f : a.part.value < 2 ^ 64 = omega arith in
    ap (λ (v : ℕ). Some (Grow.Whole v)) (value_is a.part a.byte f c.if-group-value.false)
    ∙ grown_whole a.part a.byte (omega arith) (value_fits a.part a.byte f c.if-group-value.false) c.if-byte-lt128.true

pub returns : goal.returns
returns c =
    let a = c.args in
    let f : a.part.value < 2 ^ 64 = omega arith in
    ap (λ (v : ℕ). Some (Grow.More (record { value = v; groups = a.part.groups + 1 }))) (value_is a.part a.byte f c.if-group-value.false)
    ∙ grown_more a.part a.byte (omega arith) (value_fits a.part a.byte f c.if-group-value.false) c.if-byte-lt128.false
