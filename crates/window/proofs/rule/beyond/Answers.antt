use Rattle.window.proofs.KeyLaws.{rise_fits, line_fits, sum_fits}
use Rattle.window.specs.Key.{beyond_of}
use Rattle.integers.specs.Ints.{held, held_abs}
use Rattle.std.proofs.lemmas.Int.{ints, clamps}
use Rattle.std.specs.Int.{int_min, int_max}
use mir.Facts.{to_z-of_z, to_z_pos}
use mir.Val.{SFits, to_z, of_z}
use mir.Syntax.{w64}
use lib.IntN.{ℤ, pos, negsuc, nat_abs, ◌+ℤ◌, ◌-ℤ◌, ◌*ℤ◌}
use native.Mathlib.Omega.{arith}
use Prim.Native.Nat.{◌-◌, ◌≤◌, ◌^◌}
use mathlib.Core.Path.{◌≡◌, sym, ◌∙◌, subst}
use Rattle.window.proofs.rule.beyond.Goals as goal
use Rattle.window.proofs.rule.beyond.Goals.{Start}

-- what is read back from z's bits is z
abbrev Back : ℤ → Type 0
Back z = to_z w64 (of_z w64 z) ≡ z

back_6 : (c : goal.Start) → Back c.args.w6
back_6 c = to_z-of_z c.ranges.w6

back_7 : (c : goal.Start) → Back c.args.w7
back_7 c = to_z-of_z c.ranges.w7

times : (c : goal.Start) → to_z w64 (c.args.size - 7) ≡ pos (c.args.size - 7)
times c = to_z_pos w64 (omega (arith, c.requires.le_size))

rise : (c : goal.Start) → SFits w64 (c.args.w7 -ℤ c.args.w6)
rise c = rise_fits c.args.w6 c.args.w7 c.args.size c.requires.w6_bound.0 c.requires.w6_bound.1 c.requires.le_size.1

line : (c : goal.Start) → SFits w64 ((c.args.w7 -ℤ c.args.w6) *ℤ pos (c.args.size - 7))
line c = line_fits c.args.w6 c.args.w7 c.args.size c.requires.w6_bound.0 c.requires.w6_bound.1 c.requires.le_size.1

whole : (c : goal.Start) → SFits w64 ((c.args.w7 -ℤ c.args.w6) *ℤ pos (c.args.size - 7) +ℤ c.args.w7)
whole c = sum_fits c.args.w6 c.args.w7 c.args.size c.requires.w6_bound.0 c.requires.w6_bound.1 c.requires.le_size.1

pub overflow_sub-w : goal.overflow_sub-w
overflow_sub-w c =
    let s = (goal.at.overflow_sub-w c).Start in
    simp (back_6 s, back_7 s) (rise s)

pub overflow_mul-w : goal.overflow_mul-w
overflow_mul-w c =
    let s = (goal.at.overflow_mul-w c).Start in
    simp (back_6 s, back_7 s, times s, to_z-of_z (rise s)) (line s)

pub overflow_add-w : goal.overflow_add-w
overflow_add-w c =
    let s = (goal.at.overflow_add-w c).Start in
    simp (back_6 s, back_7 s, times s, to_z-of_z (rise s), to_z-of_z (line s)) (whole s)

held_clamped : (z : ℤ) → int_max (negsuc 1099511627775) (int_min z (pos 1099511627776)) ≡ held (2 ^ 40) z
unfolding held
held_clamped z = grind (arith, ints, clamps)

pub returns : goal.returns
unfolding beyond_of
returns c =
    let s = (goal.at.returns c).Start in
    let w = (c.args.w7 -ℤ c.args.w6) *ℤ pos (c.args.size - 7) +ℤ c.args.w7 in
    let e : c.clamp.result ≡ int_max (negsuc 1099511627775) (int_min w (pos 1099511627776)) =
    simp (back_6 s, back_7 s, times s, to_z-of_z (rise s), to_z-of_z (line s), to_z-of_z (whole s)) at c.clamp.ensures.value in
    let back : Back c.clamp.result = to_z-of_z {w = w64} (record { sfits = c.clamp.type_inv }) in
    let value = back ∙ e ∙ held_clamped w in
    record { value = value; result_bound = subst (λ (z : ℤ). nat_abs z ≤ 2 ^ 40) (sym value) (held_abs (2 ^ 40) w) }
