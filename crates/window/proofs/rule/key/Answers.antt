use mathlib.Core.Path.{◌≡◌}
use Prim.Native.Nat.{◌*◌, ◌-◌, ◌%◌}
use native.Mathlib.Omega.{arith}
use lib.IntN.{pos, ◌-ℤ◌, ◌*ℤ◌}
use mir.Syntax.{w64}
use mir.Val.{SFits, to_z}
use mir.Facts.{to_z-of_z, to_z_pos}
use Rattle.window.proofs.KeyLaws.{priority_fits, scaled_fits, key_fits}
use Rattle.window.specs.Key.{key_of}
use Rattle.window.proofs.rule.key.Goals as goal
use Rattle.window.proofs.rule.key.Goals.{Start}

small : (c : goal.Start) → to_z w64 c.args.b ≡ pos c.args.b
small c = to_z_pos w64 (omega arith)

product_fits : (c : goal.Start) → SFits w64 (pos (1024 * c.args.b))
product_fits c = record { sfits = omega arith }

whole : (c : goal.Start) → SFits w64 (c.args.weight -ℤ pos (1024 * c.args.b))
whole c = priority_fits c.args.weight c.args.b c.requires.0 c.requires.1

scaled : (c : goal.Start) → SFits w64 ((c.args.weight -ℤ pos (1024 * c.args.b)) *ℤ pos 1024)
scaled c = scaled_fits c.args.weight c.args.b c.requires.0 c.requires.1

low : (c : goal.Start) → to_z w64 (1023 - c.args.b % 1024) ≡ pos (1023 - c.args.b % 1024)
low c = to_z_pos w64 (omega arith)

key : (c : goal.Start) → SFits w64 (key_of c.args.weight c.args.b)
key c = key_fits c.args.weight c.args.b c.requires.0 c.requires.1

pub returns : goal.returns
unfolding key_of
returns c =
    let s = (goal.at.returns c).Start in
    simp (small s, low s, to_z-of_z c.ranges.weight, to_z-of_z (product_fits s), to_z-of_z (whole s), to_z-of_z (scaled s), to_z-of_z (key s))
