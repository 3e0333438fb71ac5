-- `decode` reads the number at a place as `decoded_at` says. What the bytes from the present place make of the present part is at each turn
-- what all of them make of no groups. Assumes nothing.
use Rattle.house_numbers.specs.DecodeLaws.{from_end, from_more, from_whole, from_refused}
use Rattle.house_numbers.specs.Decode.{no_groups, decoded_from, decoded_at}
use Rattle.house_numbers.specs.declared.Part.{Part}
use Prim.Native.Nat.{ℕ}
use Rattle.std.specs.Prelude.{Some}
use lib.ListN.{drop}
use mathlib.Core.Path.{◌≡◌, ap, refl, sym, ◌∙◌}
use Rattle.house_numbers.proofs.decode.Goals as goal

-- a part of no groups is `no_groups`
none_is : (p : Part) → p.value ≡ 0 → p.groups ≡ 0 → p ≡ no_groups
none_is p v g = ap (λ (x : ℕ). record { value = x; groups = p.groups }) v ∙ ap (λ (x : ℕ). record { value = 0; groups = x }) g

pub loop-place-init : goal.loop-place-init
unfolding decoded_at
loop-place-init c =
    let d = c.default-part.ensures in
    ap (decoded_from c.args.at (drop c.args.at c.args.bytes.now)) (none_is c.default-part.result d.0 d.1)

pub returns-in_err-more : goal.returns-in_err-more
returns-in_err-more c =
    c.from_residual.ensures ∙ from_refused _ _ _ c.loop-place-test.true _ c.in_err-more.ensures refl ∙ c.loop-place.invariant

pub returns-in-Whole : goal.returns-in-Whole
returns-in-Whole c =
    from_whole _ _ _ c.loop-place-test.true _ c.in_ok-more.ensures _ (ap Some c.in-Whole.is) ∙ c.loop-place.invariant

pub loop-place-preserved : goal.loop-place-preserved
loop-place-preserved c =
    from_more _ _ _ c.loop-place-test.true _ c.in_ok-more.ensures _ (ap Some c.in-More.is) ∙ c.loop-place.invariant

pub returns : goal.returns
returns c = sym (from_end _ _ _ c.loop-place-test.false) ∙ c.loop-place.invariant
