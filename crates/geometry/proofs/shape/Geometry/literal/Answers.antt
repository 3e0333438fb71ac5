-- The literals are rule G's numbers for these settings.
use Rattle.std.proofs.Common.{arith}
use Rattle.geometry.proofs.UsualLaws.{usual_slots, literal_numbers}
use Rattle.geometry.proofs.shape.Geometry.literal.Goals as goal

pub overflow_sub-result : goal.overflow_sub-result
overflow_sub-result c = omega (arith, usual_slots c.requires)

pub invariant_of-result : goal.invariant_of-result
invariant_of-result c = record { usable = c.args.self.usable; numbers = literal_numbers c.requires }
