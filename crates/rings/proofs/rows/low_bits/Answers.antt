-- `low_bits` gives the remainder by 2^n: a mask below 64, and at 64 the whole word.
use native.Mathlib.Omega.{arith}
use Rattle.words.specs.ShiftLaws.{and_low}
use Rattle.rings.proofs.rows.low_bits.Goals as goal

pub returns-then-n-lt64 : goal.returns-then-n-lt64
returns-then-n-lt64 c = and_low 64 _ _ (omega arith)
