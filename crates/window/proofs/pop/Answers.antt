-- The bucket of the greatest key: the large one where no queue has a greater key.
use Prim.Native.Nat.{◌-◌}
use native.Mathlib.Omega.{arith}
use borrow.Author.Tests.{eqb-true}
use mathlib.Core.Path.{◌≡◌, refl, sym, ap, ap₂, ◌∙◌}
use lib.IntN.{pos}
use lib.ListN.{get_or}
use lib.Signed.{lt_z}
use mir.Syntax.{w64}
use mir.Val.{to_z, of_z}
use mir.Facts.{to_z-of_z}
use Rattle.window.specs.Large.{tell, key_in}
use Rattle.window.proofs.Chosen.{only_large, large_wins}
use Rattle.window.proofs.pop.Goals as goal

pub returns-then-is_empty : goal.returns-then-is_empty
returns-then-is_empty c =
    let q = c.args.queues.now in
    let n = tell c.args.large in
    let e = ap tell c.in-Some.is in
    record {
      size = 64;
      key = key_in c.args.begins.now c.args.table.now (n - 1);
      keyed = λ p. refl;
      choice = only_large q.keys q.nonempty n _ (eqb-true q.nonempty 0 (sym c.is_empty.ensures.value ∙ c.if-is_empty.true)) (omega (arith, e));
      queue = λ l. absurd (omega arith);
      large = λ z. (refl, omega (arith, e));
    }

pub returns-then-key-key_of : goal.returns-then-key-key_of
returns-then-key-key_of c =
    let q = c.args.queues.now in
    let n = tell c.args.large in
    let e = ap tell c.in-Some.is in
    let k : to_z w64 (of_z w64 c.key.result) ≡ get_or q.keys c.top-size-2.result (pos 0) = to_z-of_z {w = w64} (record { sfits = c.key.type_inv }) ∙ c.key.ensures in
    let l : to_z w64 (of_z w64 c.key_of.result) ≡ key_in c.args.begins.now c.args.table.now c.in-Some.b = to_z-of_z {w = w64} (record { sfits = c.key_of.type_inv }) ∙ c.key_of.ensures in
    let same : n - 1 ≡ c.in-Some.b = omega (arith, e) in
    record {
      size = 64;
      key = key_in c.args.begins.now c.args.table.now c.in-Some.b;
      keyed = λ p. ap (key_in c.args.begins.now c.args.table.now) (sym same);
      choice = large_wins q.keys q.nonempty n _ c.top-size-2.result c.top-size-2.ensures (omega (arith, e)) (ap₂ lt_z (sym k) (sym l) ∙ c.if-key-key_of.true);
      queue = λ l. absurd (omega arith);
      large = λ z. (refl, sym same);
    }
