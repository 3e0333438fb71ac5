-- `clear_bit` stores the word with bit p % 64 cleared, which is what `cleared` says.
-- Assumes nothing.
use Prim.Native.Nat.{◌/◌, ◌%◌}
use native.Mathlib.Omega.{arith}
use Rattle.words.specs.Map.{cleared}
use Rattle.words.specs.MapLaws.{clear_code}
use Rattle.words.proofs.clear_bit.Goals as goal

pub returns : goal.returns
unfolding cleared
returns c =
    let p = c.args.p in
    clear_code c.args.bits.now (p / 64) (p % 64) (omega arith)
