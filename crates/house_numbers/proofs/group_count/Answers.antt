-- `group_count` counts the bytes of a number: those counted and those of the rest are at each turn all of them, and one more. Assumes nothing.
use Rattle.house_numbers.specs.EncodeLaws.{length_small, length_large, length_pos, length_ten}
use native.Mathlib.Omega.{arith}
use Rattle.house_numbers.proofs.group_count.Goals as goal

pub overflow_add-count : goal.overflow_add-count
overflow_add-count c = omega (arith, length_pos c.loop-rest.rest, length_ten c.args.value)

pub loop-rest-preserved : goal.loop-rest-preserved
loop-rest-preserved c = omega (arith, length_large c.loop-rest.rest (omega arith) c.loop-rest-test.true)

pub returns : goal.returns
returns c = omega (arith, length_small c.loop-rest.rest c.loop-rest-test.false)
