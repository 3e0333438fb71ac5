use mathlib.Core.Path.{◌≡◌}
use Prim.Native.Nat.{◌<◌, ◌^◌, ◌*◌, ◌%◌}
use lib.Bits.{bit_xor}
use lib.Count.{count_trailing_zeros}
use native.Mathlib.Omega.{arith}
use Rattle.window.proofs.Tops.{start, better, stays, ended}
use Rattle.integers.specs.Shifts.{one_shl}
use Rattle.words.specs.Bit.{bit}
use Rattle.words.specs.BitLaws.{flip_less}
use Rattle.words.specs.CountLaws.{tz_lt, tz_set}
use Rattle.window.proofs.queues.Queues.top.Goals as goal
use Rattle.window.proofs.queues.Queues.top.Goals.{In-loop-rest, Start}

fits : (c : goal.Start) → c.args.self.now.nonempty < 2 ^ 64
fits c = omega arith

-- the lowest place at the start, and in a turn
from : (c : goal.Start) → (count_trailing_zeros 64 c.args.self.now.nonempty < 64) × (bit c.args.self.now.nonempty (count_trailing_zeros 64 c.args.self.now.nonempty) ≡ 1)
from c = (tz_lt 64 c.args.self.now.nonempty (fits c) c.requires, tz_set 64 c.args.self.now.nonempty (fits c) c.requires)

next : (c : goal.In-loop-rest) → (count_trailing_zeros 64 c.loop-rest.rest < 64) × (bit c.loop-rest.rest (count_trailing_zeros 64 c.loop-rest.rest) ≡ 1)
next c = (tz_lt 64 c.loop-rest.rest c.loop-rest.invariant.small c.loop-rest-test.true, tz_set 64 c.loop-rest.rest c.loop-rest.invariant.small c.loop-rest-test.true)

pub loop-rest-init : goal.loop-rest-init
loop-rest-init c =
    let s = (goal.at.loop-rest-init c).Start in
    rw (one_shl (count_trailing_zeros 64 c.args.self.now.nonempty) (from s).0)
    (start c.args.self.now.keys c.args.self.now.nonempty (count_trailing_zeros 64 c.args.self.now.nonempty) (fits s) (from s).0 (from s).1 (record { sfits = c.best-1.given }))

falls : (c : goal.In-loop-rest) → bit_xor c.loop-rest.rest ((1 * 2 ^ count_trailing_zeros 64 c.loop-rest.rest) % 2 ^ 64) < c.loop-rest.rest
falls c =
    rw (one_shl (count_trailing_zeros 64 c.loop-rest.rest) (next c).0)
    (flip_less c.loop-rest.rest (count_trailing_zeros 64 c.loop-rest.rest) (next c).1)

pub loop-rest-smaller-then-best-k : goal.loop-rest-smaller-then-best-k
loop-rest-smaller-then-best-k c = falls (goal.at.loop-rest-smaller-then-best-k c).In-loop-rest

pub loop-rest-preserved-then-best-k : goal.loop-rest-preserved-then-best-k
loop-rest-preserved-then-best-k c =
    rw (one_shl (count_trailing_zeros 64 c.loop-rest.rest) (next (goal.at.loop-rest-preserved-then-best-k c).In-loop-rest).0)
    (better c.args.self.now.keys c.args.self.now.nonempty c.loop-rest.size _ c.loop-rest.rest (count_trailing_zeros 64 c.loop-rest.rest) c.loop-rest.invariant (next (goal.at.loop-rest-preserved-then-best-k c).In-loop-rest).0 (next (goal.at.loop-rest-preserved-then-best-k c).In-loop-rest).1 (record { sfits = c.k-1.given }) c.if-best-k.true)

pub loop-rest-smaller : goal.loop-rest-smaller
loop-rest-smaller c = falls (goal.at.loop-rest-smaller c).In-loop-rest

pub loop-rest-preserved : goal.loop-rest-preserved
loop-rest-preserved c =
    rw (one_shl (count_trailing_zeros 64 c.loop-rest.rest) (next (goal.at.loop-rest-preserved c).In-loop-rest).0)
    (stays c.args.self.now.keys c.args.self.now.nonempty c.loop-rest.size _ c.loop-rest.rest (count_trailing_zeros 64 c.loop-rest.rest) c.loop-rest.invariant (next (goal.at.loop-rest-preserved c).In-loop-rest).0 (next (goal.at.loop-rest-preserved c).In-loop-rest).1 (record { sfits = c.k-1.given }) c.if-best-k.false)

pub returns : goal.returns
returns c =
    ended c.args.self.now.keys c.args.self.now.nonempty c.loop-rest.size _ c.loop-rest.rest c.loop-rest.invariant c.loop-rest-test.false
