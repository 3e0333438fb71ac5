use mathlib.Core.Path.{◌≡◌, ap, ap₂, ◌∙◌}
use Prim.Native.Nat.{ℕ}
use native.Mathlib.Omega.{arith}
use lib.IntN.{ℤ, pos, nat_abs}
use mathlib.Core.List.{List}
use Prim.Native.Nat.{◌≤◌, ◌^◌}
use lib.ListN.{get_or}
use mir.Syntax.{w64}
use mir.Val.{to_z, of_z}
use mir.Facts.{to_z-of_z}
use Rattle.integers.specs.Ints.{small_fits}
use Rattle.window.specs.Large.{better_of}
use Rattle.window.proofs.LargeLaws.{step}
use Rattle.window.proofs.large.largest.Goals as goal

-- an entry of the table is read back from its bits
back : (table : List ℤ) (k : ℕ) → nat_abs (get_or table k (pos 0)) ≤ 2 ^ 32 → to_z w64 (of_z w64 (get_or table k (pos 0))) ≡ get_or table k (pos 0)
back table k h = to_z-of_z (small_fits (get_or table k (pos 0)) (omega (arith, h)))

pub loop-b-preserved : goal.loop-b-preserved
loop-b-preserved c =
    step c.args.set.now c.args.begins.now c.args.table.now c.args.o c.args.e c.loop-b.b c.loop-b.best c.loop-b.invariant (omega (arith, c.loop-b-test.true)) c.better-best.result
    (c.better-best.ensures ∙ ap₂ (λ (u v : ℤ). better_of c.args.set.now u v c.loop-b.best c.size_of-size.result c.loop-b.b) (back c.args.table.now 6 c.requires.measured.sixth) (back c.args.table.now 7 c.requires.measured.seventh)
    ∙ ap (λ (n : ℕ). better_of c.args.set.now (get_or c.args.table.now 6 (pos 0)) (get_or c.args.table.now 7 (pos 0)) c.loop-b.best n c.loop-b.b) c.size_of-size.ensures.0)
