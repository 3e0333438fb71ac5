use borrow.Author.Tests.{eq-eqb, ne_eqb}
use mathlib.Core.Bool.{Bool, true, false, cond}
use mathlib.Core.List.{List}
use mathlib.Core.Path.{◌≡◌, sym, ap, ap₂, ◌∙◌}
use Prim.Native.Nat.{ℕ, ◌+◌, ◌-◌}
use native.Mathlib.Omega.{arith}
use lib.IntN.{ℤ}
use lib.Signed.{lt_z}
use mir.Syntax.{w64}
use mir.Val.{to_z, of_z}
use mir.Facts.{to_z-of_z}
use Rattle.window.specs.Large.{tell, key_in, first_of}
use Rattle.window.proofs.large.first_of.Goals as goal
use Rattle.window.proofs.large.first_of.Goals.{After-key_of-l}

-- by the two tests
none_told : (begins : List ℕ) (table : List ℤ) (large b : ℕ) → large ≡ 0 → b + 1 ≡ first_of begins table large b
unfolding first_of
none_told begins table large b z =
    sym (ap (λ (u : Bool). cond u (b + 1) (cond (lt_z (key_in begins table (large - 1)) (key_in begins table b)) (b + 1) large)) (eq-eqb large 0 z))

one_told : (begins : List ℕ) (table : List ℤ) (large b : ℕ) (t : Bool) → (large ≡ 0 → ⊥) → lt_z (key_in begins table (large - 1)) (key_in begins table b) ≡ t
    → cond t (b + 1) large ≡ first_of begins table large b
unfolding first_of
one_told begins table large b t d q =
    sym (ap (λ (u : Bool). cond u (b + 1) (cond (lt_z (key_in begins table (large - 1)) (key_in begins table b)) (b + 1) large)) (ne_eqb large 0 d)
    ∙ ap (λ (u : Bool). cond u (b + 1) large) q)

-- bucket x is told
x_told : (begins : List ℕ) (table : List ℤ) (large x b : ℕ) (t : Bool) → large ≡ x + 1 → lt_z (key_in begins table x) (key_in begins table b) ≡ t
    → cond t (b + 1) (x + 1) ≡ first_of begins table large b
x_told begins table large x b t e q =
    let y : large - 1 ≡ x = omega arith in
    ap (cond t (b + 1)) (sym e)
    ∙ one_told begins table large b t (λ z. absurd (omega arith)) (ap (λ (v : ℕ). lt_z (key_in begins table v) (key_in begins table b)) y ∙ q)

-- the keys as the test reads them
tested : (c : goal.After-key_of-l)
    → lt_z (key_in c.args.begins.now c.args.table.now c.in-Some.x) (key_in c.args.begins.now c.args.table.now c.args.b)
    ≡ lt_z (to_z w64 (of_z w64 c.key_of-k.result)) (to_z w64 (of_z w64 c.key_of-l.result))
tested c =
    let k : to_z w64 (of_z w64 c.key_of-k.result) ≡ c.key_of-k.result = to_z-of_z {w = w64} (record { sfits = c.key_of-k.type_inv }) in
    let l : to_z w64 (of_z w64 c.key_of-l.result) ≡ c.key_of-l.result = to_z-of_z {w = w64} (record { sfits = c.key_of-l.type_inv }) in
    ap₂ lt_z (sym (k ∙ c.key_of-k.ensures)) (sym (l ∙ c.key_of-l.ensures))

pub returns-in_default : goal.returns-in_default
returns-in_default c = none_told c.args.begins.now c.args.table.now (tell c.args.large) c.args.b (ap tell c.in_default.is)

pub returns-then-k-l : goal.returns-then-k-l
returns-then-k-l c =
    x_told c.args.begins.now c.args.table.now (tell c.args.large) c.in-Some.x c.args.b true (ap tell c.in-Some.is)
    (tested (goal.at.returns-then-k-l c).After-key_of-l ∙ c.if-k-l.true)

pub returns-else-k-l : goal.returns-else-k-l
returns-else-k-l c =
    x_told c.args.begins.now c.args.table.now (tell c.args.large) c.in-Some.x c.args.b false (ap tell c.in-Some.is)
    (tested (goal.at.returns-else-k-l c).After-key_of-l ∙ c.if-k-l.false)
