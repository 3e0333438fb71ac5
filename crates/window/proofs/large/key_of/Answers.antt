use mathlib.Core.Path.{◌≡◌, ap, ◌∙◌}
use native.Mathlib.Omega.{arith}
use lib.IntN.{ℤ, pos, nat_abs}
use mathlib.Core.List.{List}
use Prim.Native.Nat.{ℕ, ◌≤◌, ◌^◌}
use lib.ListN.{get_or}
use mir.Syntax.{w64}
use mir.Val.{to_z, of_z}
use mir.Facts.{to_z-of_z}
use Rattle.integers.specs.Ints.{small_fits}
use Rattle.window.specs.Key.{key_of, beyond_of}
use Rattle.window.specs.Large.{large_key}
use Rattle.window.proofs.large.key_of.Goals as goal

-- an entry of the table is read back from its bits
back : (table : List ℤ) (k : ℕ) → nat_abs (get_or table k (pos 0)) ≤ 2 ^ 32 → to_z w64 (of_z w64 (get_or table k (pos 0))) ≡ get_or table k (pos 0)
back table k h = to_z-of_z (small_fits (get_or table k (pos 0)) (omega (arith, h)))

pub returns : goal.returns
unfolding large_key
returns c =
    let n = c.size_of-size.ensures.0 in
    let weighs : c.beyond-w.result ≡ beyond_of (get_or c.args.table.now 6 (pos 0)) (get_or c.args.table.now 7 (pos 0)) c.size_of-size.result =
    simp (back c.args.table.now 6 c.requires.measured.sixth, back c.args.table.now 7 c.requires.measured.seventh) at c.beyond-w.ensures.value in
    let made : c.key.result ≡ key_of c.beyond-w.result c.args.b =
    simp (to_z-of_z (small_fits c.beyond-w.result (omega (arith, c.beyond-w.ensures.result_bound)))) at c.key.ensures in
    let back : to_z w64 (of_z w64 c.key.result) ≡ c.key.result = to_z-of_z {w = w64} (record { sfits = c.key.type_inv }) in
    back ∙ made ∙ ap (λ (v : ℤ). key_of v c.args.b) (weighs ∙ ap (beyond_of (get_or c.args.table.now 6 (pos 0)) (get_or c.args.table.now 7 (pos 0))) n)
