-- Each arm tells what is said of its variant. Assumes nothing.
use mathlib.Core.Path.{refl}
use Rattle.rules.specs.Answers.{said_outcome, said_stop, count_values}
use Rattle.exports.specs.Told.{number_told, values_told, bucket_told}
use Rattle.exports.proofs.sweeping.tell_outcome.Goals as goal

pub returns-in-Ok : goal.returns-in-Ok
unfolding said_outcome count_values number_told values_told bucket_told
returns-in-Ok c = rw c.in-Ok.is (record { answer = refl; counted = refl; named = refl })

pub returns-in-Err : goal.returns-in-Err
unfolding said_outcome said_stop number_told values_told bucket_told
returns-in-Err c = rw c.in-Err.is (record { answer = c.tell_stop.ensures.answer; counted = refl; named = c.tell_stop.ensures.named })
