-- What the rounding of a quotient asks of it. Assumes nothing.
use Rattle.std.specs.Prelude.{◌*◌, ◌≤◌, false, Float}
use Rattle.std.specs.Float.Ieee.Exact.{HasValue}
use Rattle.std.specs.Float.Ieee.Positive.{num, den}

-- x is finite, not negative, and at most 2 ^ 26
pub record Small (x : Float) : Type 0 where
  pub value : HasValue x false (num x) (den x)
  pub most : num x ≤ 67108864 * den x
