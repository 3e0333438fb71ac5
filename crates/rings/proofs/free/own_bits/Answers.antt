-- `own_bits` gives the low n bits: 2^n - 1 below 64, and all bits of the word from there on.
use native.Mathlib.Omega.{arith}
use Rattle.rings.specs.BlockedLaws.{own_short, own_long}
use Rattle.rings.proofs.free.own_bits.Goals as goal

pub returns-then-n-lt64 : goal.returns-then-n-lt64
returns-then-n-lt64 c = own_short _ (omega arith)

pub returns-else-n-lt64 : goal.returns-else-n-lt64
returns-else-n-lt64 c = own_long _ (omega arith)
