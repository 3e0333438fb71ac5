use Rattle.geometry.proofs.Halving.{asked, part_small, rounds_down, rounds_up}
use lib.Ieee.{in_float}
use Rattle.std.proofs.Common.{◌≤◌, le_trans, arith, lit≤, le→leb}
use Rattle.geometry.proofs.count.rounded.Goals as goal
use Rattle.geometry.proofs.count.rounded.Goals.{After-truncating_f64_to_u64-t}

small : (c : goal.After-truncating_f64_to_u64-t) → c.truncating_f64_to_u64-t.result ≤ 67108864
small c = part_small c.args.q c.truncating_f64_to_u64-t.result c.requires c.truncating_f64_to_u64-t.ensures

pub truncating_f64_to_u64-t-requires : goal.truncating_f64_to_u64-t-requires
truncating_f64_to_u64-t-requires c =
    let whole = asked c.args.q c.requires in
    record { lower_bound = whole.0; upper_bound = whole.1 }

pub int_to_float-t : goal.int_to_float-t
unfolding in_float
int_to_float-t c = le→leb c.truncating_f64_to_u64-t.result 9007199254740992 (le_trans (small (goal.at.int_to_float-t c).After-truncating_f64_to_u64-t) (lit≤ tt))

pub overflow_add-result : goal.overflow_add-result
overflow_add-result c = omega (arith, small (goal.at.overflow_add-result c).After-truncating_f64_to_u64-t)

pub returns-then-q-t : goal.returns-then-q-t
returns-then-q-t c =
    (rounds_down c.args.q c.truncating_f64_to_u64-t.result c.requires c.truncating_f64_to_u64-t.ensures c.if-q-t.true, omega (arith, small (goal.at.returns-then-q-t c).After-truncating_f64_to_u64-t))

pub returns-else-q-t : goal.returns-else-q-t
returns-else-q-t c =
    (rounds_up c.args.q c.truncating_f64_to_u64-t.result c.requires c.truncating_f64_to_u64-t.ensures c.if-q-t.false, omega (arith, small (goal.at.returns-else-q-t c).After-truncating_f64_to_u64-t))
