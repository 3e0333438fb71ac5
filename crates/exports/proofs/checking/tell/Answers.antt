-- Each arm tells what is said of its variant. Assumes nothing.
use mathlib.Core.Path.{refl}
use Rattle.level_check.specs.Check.{said_matched}
use Rattle.exports.specs.Told.{number_told, bucket_told}
use Rattle.exports.proofs.checking.tell.Goals as goal

pub returns-in-Ok : goal.returns-in-Ok
unfolding said_matched number_told bucket_told
returns-in-Ok c = rw c.in-Ok.is (record { answer = refl; named = refl })

pub returns-in-Err : goal.returns-in-Err
unfolding said_matched
returns-in-Err c = rw c.in-Err.is (record { answer = c.tell_stop.ensures.answer; named = c.tell_stop.ensures.named })
