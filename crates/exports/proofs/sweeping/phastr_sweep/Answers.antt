-- The sweep's contract says what is left in the buffers, and what `tell_outcome` is told.
use Rattle.rules.specs.Answers.{said_sweep}
use Rattle.exports.proofs.sweeping.phastr_sweep.Goals as goal

pub returns : goal.returns
unfolding said_sweep
returns c =
    let s = c.sweep-record.ensures in
    rw (← c.settings_of-s.ensures) (record {
      answer = rw s.answer at c.tell_outcome.ensures.answer;
      given = s.given;
      marked = s.marked;
      worked = s.worked;
      counted = rw s.answer at c.tell_outcome.ensures.counted;
      named = rw s.answer at c.tell_outcome.ensures.named;
    })
