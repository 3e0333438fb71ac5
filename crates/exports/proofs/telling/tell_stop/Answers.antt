-- The place of the bucket has what is named, or what it had. Assumes nothing.
use Rattle.rules.specs.Answers.{named_by, said_stop}
use Rattle.exports.specs.Told.{number_told, bucket_told}
use Rattle.exports.proofs.telling.tell_stop.Goals as goal
use Rattle.exports.proofs.telling.tell_stop.Goals.{in-Some, in_default}

pub returns-clause-answer : goal.returns-clause-answer
unfolding said_stop number_told
returns-clause-answer c = c.number.ensures

pub returns-clause-named : goal.returns-clause-named
unfolding said_stop named_by bucket_told
returns-clause-named c = elim c.match-stop.branch [ in-Some w ↦ rw w.in-Some.is w.bucket-is | in_default w ↦ rw w.in_default.is w.bucket-is ]
