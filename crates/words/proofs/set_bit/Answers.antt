-- `set_bit` stores the word with bit p % 64 set, which is what `marked` says.
-- Assumes nothing.
use Prim.Native.Nat.{◌/◌, ◌%◌}
use native.Mathlib.Omega.{arith}
use Rattle.words.specs.Map.{marked}
use Rattle.words.specs.MapLaws.{mark_code}
use Rattle.words.proofs.set_bit.Goals as goal

pub returns : goal.returns
unfolding marked
returns c =
    let p = c.args.p in
    mark_code c.args.bits.now (p / 64) (p % 64) (omega arith)
