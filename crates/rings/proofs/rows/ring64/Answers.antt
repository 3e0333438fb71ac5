-- `ring64` gives 64 slots of a ring in three ways: a row turned, a row as it is, and two rows where the ring goes round.
use mathlib.Core.Path.{ap}
use Prim.Native.Nat.{ℕ, ◌+◌}
use Rattle.rings.specs.RingLaws.{step_code}
use Rattle.rings.specs.RowLaws.{ring_straight, ring_round}
use Rattle.rings.proofs.rows.ring64.Goals as goal

pub returns-then-x-n : goal.returns-then-x-n
returns-then-x-n c =
    ring_straight c.if-x-n.true (ap (λ (y : ℕ). c.args.first + y) (step_code c.args.g c.requires.shape c.args.x c.requires.x_lt_n.0)) c.row64-row.ensures

pub returns : goal.returns
returns c =
    ring_round
    c.if-n-le64.false
    c.requires.x_lt_n.0
    c.if-x-n.false
    (ap (λ (y : ℕ). c.args.first + y) (step_code c.args.g c.requires.shape c.args.x c.requires.x_lt_n.0))
    c.row64-row.ensures
    c.row64-2.ensures
    c.wrap.ensures
