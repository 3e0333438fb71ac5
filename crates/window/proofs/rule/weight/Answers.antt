use Rattle.window.proofs.KeyLaws.{beyond_weight, entry_weight}
use Rattle.window.specs.Key.{Within, beyond_of}
use Rattle.integers.specs.Ints.{small_fits}
use mir.Facts.{to_z-of_z}
use mir.Val.{to_z, of_z}
use mir.Syntax.{w64}
use lib.ListN.{get_or}
use lib.IntN.{ℤ, pos}
use native.Mathlib.Omega.{arith}
use Prim.Native.Nat.{ℕ, ◌-◌}
use mathlib.Core.List.{List}
use mathlib.Core.Path.{◌≡◌, sym, ◌∙◌}
use Rattle.window.proofs.rule.weight.Goals as goal

-- what the bits of an entry read back as
entry : (ws : List ℤ) (k : ℕ) → Within ws → to_z w64 (of_z w64 (get_or ws k (pos 0))) ≡ get_or ws k (pos 0)
entry ws k h = to_z-of_z (small_fits (get_or ws k (pos 0)) (omega (arith, h.within k)))

pub returns-then-size-le7 : goal.returns-then-size-le7
returns-then-size-le7 c =
    record {
      value = rw (entry c.args.weights (c.args.size - 1) c.requires.within) (sym (entry_weight c.args.weights c.args.size c.if-size-le7.true));
      result_bound = rw (entry c.args.weights (c.args.size - 1) c.requires.within) (omega (arith, c.requires.within.within (c.args.size - 1)));
    }

pub beyond-requires : goal.beyond-requires
beyond-requires c =
    record {
      w6_bound = simp (entry c.args.weights 5 c.requires.within, entry c.args.weights 6 c.requires.within) (c.requires.within.within 5, c.requires.within.within 6);
      le_size = (omega (arith, c.if-size-le7.false), c.requires.le_size.1);
    }

pub returns : goal.returns
returns c =
    let e : c.beyond.result ≡ beyond_of (get_or c.args.weights 5 (pos 0)) (get_or c.args.weights 6 (pos 0)) c.args.size =
    simp (entry c.args.weights 5 c.requires.within, entry c.args.weights 6 c.requires.within) at c.beyond.ensures.value in
    let back = to_z-of_z (small_fits c.beyond.result (omega (arith, c.beyond.ensures.result_bound))) in
    record {
      value = rw back (e ∙ sym (beyond_weight c.args.weights c.args.size (omega (arith, c.if-size-le7.false))));
      result_bound = rw back c.beyond.ensures.result_bound;
    }
