-- `put_groups` stores the bytes of a number one after the other: storing the rest from the present place on gives at each turn what
-- storing all of them gives. Assumes nothing.
use Rattle.house_numbers.specs.EncodeLaws.{sets_small, sets_large, length_small, length_large, length_pos}
use lib.ListN.{length-set}
use mathlib.Core.Path.{refl, ◌∙◌}
use native.Mathlib.Omega.{arith}
use Rattle.house_numbers.proofs.put_groups.Goals as goal

pub loop-rest-init : goal.loop-rest-init
loop-rest-init c = (refl, refl, refl, omega arith)

pub overflow_add-out : goal.overflow_add-out
overflow_add-out c = omega arith

pub overflow_cast-out : goal.overflow_cast-out
overflow_cast-out c = omega arith

pub bounds-out-place : goal.bounds-out-place
bounds-out-place c = omega (arith, length_pos c.loop-rest.rest)

pub overflow_add-place : goal.overflow_add-place
overflow_add-place c = omega (arith, length_pos c.loop-rest.rest)

pub loop-rest-smaller : goal.loop-rest-smaller
loop-rest-smaller c = omega arith

pub loop-rest-preserved : goal.loop-rest-preserved
loop-rest-preserved c =
    (omega (arith, length_large c.loop-rest.rest c.loop-rest.invariant.3 c.loop-rest-test.true), simp length-set c.loop-rest.invariant.1, sets_large _ _ _ c.loop-rest.invariant.3 c.loop-rest-test.true ∙ c.loop-rest.invariant.2, omega arith)

pub overflow_cast-out-2 : goal.overflow_cast-out-2
overflow_cast-out-2 c = omega arith

pub bounds-out-place-2 : goal.bounds-out-place-2
bounds-out-place-2 c = omega (arith, length_pos c.loop-rest.rest)

pub overflow_add-result : goal.overflow_add-result
overflow_add-result c = omega (arith, length_pos c.loop-rest.rest)

pub shape_of-out : goal.shape_of-out
shape_of-out c = simp length-set c.loop-rest.invariant.1

pub returns : goal.returns
returns c =
    record {
      value = omega (arith, length_small c.loop-rest.rest c.loop-rest-test.false);
      out_after = sets_small _ _ _ c.loop-rest-test.false ∙ c.loop-rest.invariant.2;
    }
