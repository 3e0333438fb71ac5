-- Each way out says what `level_answer` says there.
use Rattle.level_check.proofs.Judging.{blank, says_28, says_29, says_30, says_accepted}
use Rattle.level_check.proofs.judge.Goals as goal

pub returns-then-seeds_bad-clause-answer : goal.returns-then-seeds_bad-clause-answer
returns-then-seeds_bad-clause-answer c =
    let a = c.args in
    rw c.into.ensures (says_28 a.g.settings a.hashes.now a.begins.now a.seeds.now a.bitmap.now c.requires.seeds_len.0 c.power_of_two.ensures.0 c.seeds_bad.ensures c.if-seeds_bad.true)

pub mark_buckets-requires-clause-scratch_value : goal.mark_buckets-requires-clause-scratch_value
mark_buckets-requires-clause-scratch_value c = (blank _ _ _ (c.fill.ensures.after (λ y e. e)) c.requires.seeds_len.2).1

pub returns-in-Some-clause-answer : goal.returns-in-Some-clause-answer
returns-in-Some-clause-answer c =
    let a = c.args in
    says_29 a.g.settings a.hashes.now a.begins.now a.seeds.now a.bitmap.now c.requires.seeds_len.0 c.power_of_two.ensures.0 c.seeds_bad.ensures c.if-seeds_bad.false c.in-Some.ensures

pub returns-then-not-same-clause-answer : goal.returns-then-not-same-clause-answer
returns-then-not-same-clause-answer c =
    let a = c.args in
    rw c.into-then-not-same.ensures (says_30 a.g.settings a.hashes.now a.begins.now a.seeds.now a.bitmap.now c.requires.seeds_len.0 c.power_of_two.ensures.0 c.seeds_bad.ensures c.if-seeds_bad.false c.in_default.ensures c.if-not-same.ensures)

pub returns-clause-answer : goal.returns-clause-answer
returns-clause-answer c =
    let a = c.args in
    says_accepted a.g.settings a.hashes.now a.begins.now a.seeds.now a.bitmap.now c.requires.seeds_len.0 c.power_of_two.ensures.0 c.seeds_bad.ensures c.if-seeds_bad.false c.in_default.ensures c.if-not-same.ensures
