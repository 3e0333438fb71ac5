use lib.Pow.{pow_pos}
use Rattle.geometry.proofs.Sizes.{sized}
use mathlib.Core.Path.{refl, ◌∙◌}
use native.Mathlib.Omega.{arith}
use Rattle.sweep.proofs.moving.advance.Goals as goal

pub column_slots-column-requires : goal.column_slots-column-requires
column_slots-column-requires c = c.requires.shape

pub loop-at-init : goal.loop-at-init
loop-at-init c = (refl, omega (arith, c.first-to.ensures.0, c.requires.words_in_bounds.2), c.requires.caches)

pub overflow_add-at : goal.overflow_add-at
overflow_add-at c = omega (arith, c.loop-at.invariant.1, c.first-to.ensures.1, (sized c.args.g).ns_high, c.column_slots-column.ensures.1)

pub retire-at-requires : goal.retire-at-requires
retire-at-requires c =
    record {
      shape = c.requires.shape;
      words_in_bounds = (omega (arith, c.loop-at.invariant.0, c.requires.words_in_bounds.0), omega (arith, c.loop-at.invariant.1, c.first-to.ensures.1, (sized c.args.g).ns_high));
      caches = c.loop-at.invariant.2;
    }

pub loop-at-smaller : goal.loop-at-smaller
loop-at-smaller c = omega (arith, pow_pos c.args.ring.t, c.retire-at.ensures.value.0, c.column_slots-column.ensures.0, c.loop-at-test.true, c.loop-at.invariant.1)

pub loop-at-preserved : goal.loop-at-preserved
loop-at-preserved c = (c.retire-at.auto.work ∙ c.loop-at.invariant.0, omega (arith, c.retire-at.ensures.value.0, c.column_slots-column.ensures.0, c.loop-at-test.true), c.retire-at.ensures.value.1)

pub shape_of-work : goal.shape_of-work
shape_of-work c = c.loop-at.invariant.0

pub returns : goal.returns
returns c =
    record {
      upper_bound = (omega (arith, c.first-to.ensures.0, c.loop-at.invariant.1), omega (arith, c.first-to.ensures.0, c.column_slots-column.ensures.0, c.loop-at-test.false));
      caches_2 = c.loop-at.invariant.2;
    }
