-- Each call leaves what its contract says; the theorems follow from that.
use Rattle.steady.proofs.Calls.{both_leave}
use Rattle.steady.proofs.sweep_both.Goals as goal

pub returns : goal.returns
returns c =
    let one = c.sweep-one.ensures in
    let other = c.sweep-other.ensures in
    let whole = both_leave (one.answer, (one.given, (one.marked, one.worked))) (other.answer, (other.given, (other.marked, other.worked))) in
    record { one = whole.0; other = whole.1.0; early = whole.1.1.0; free = whole.1.1.1.0; refused = whole.1.1.1.1 }
