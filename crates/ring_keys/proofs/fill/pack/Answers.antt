-- `pack` puts the column to the high half and what is left of the place to the low half.
use mathlib.Core.Path.{◌≡◌}
use Prim.Native.Nat.{ℕ, ◌+◌, ◌-◌, ◌*◌, ◌%◌, ◌^◌, ◌≤◌}
use native.Mathlib.Omega.{arith}
use lib.Bits.{bit_and}
use Rattle.ring_keys.specs.RingKey.{packed}
use Rattle.ring_keys.specs.FillLaws.{column_code, pack_code}
use Rattle.ring_keys.proofs.fill.pack.Goals as goal
use Rattle.ring_keys.proofs.fill.pack.Goals.{Start}

-- the column as the code has it
abbrev column : (t o : ℕ) → ℕ
column t o = bit_and o (1 * 2 ^ t % 2 ^ 64 - 1)

column_is : (c : goal.Start) → column c.args.t c.args.o ≡ c.args.o % 2 ^ c.args.t
column_is c = column_code c.args.t c.args.o (omega arith)

packs : (c : goal.Start) → (column c.args.t c.args.o ≤ c.args.o) × ((c.args.base + column c.args.t c.args.o) * 2 ^ 32 % 2 ^ 64 + (c.args.o - column c.args.t c.args.o) ≡ packed c.args.t c.args.base c.args.o)
packs c = pack_code c.args.t c.args.base c.args.o (column c.args.t c.args.o) (omega arith) (omega arith) (column_is c)

pub returns : goal.returns
returns c = (packs (goal.at.returns c).Start).1
