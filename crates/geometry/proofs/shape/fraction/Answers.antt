use Rattle.integers.specs.Division.{two_digits}
use Rattle.std.proofs.Common.{◌^◌, arith}
use Rattle.geometry.proofs.shape.fraction.Goals as goal
use Rattle.geometry.proofs.shape.fraction.Goals.{Start}

pub returns : goal.returns
returns c = two_digits c.args.r (2 ^ 32) c.args.b (omega arith)
