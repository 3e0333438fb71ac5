-- The scratch marks what the buckets before b have met (`Walking`), so the first bucket at which a slot is met again is the lowest.
use Rattle.level_check.proofs.Walking.{next, hit, done, met_bucket}
use mathlib.Core.Path.{◌∙◌}
use native.Mathlib.Omega.{arith}
use Rattle.level_check.proofs.slots.mark_buckets.Goals as goal

pub returns-then-mark_bucket : goal.returns-then-mark_bucket
returns-then-mark_bucket c =
    hit _ _ c.loop-b.b (omega arith) _ _
    c.loop-b.invariant.1
    (met_bucket _ _ _ _ c.loop-b.b c.mark_bucket.ensures c.keys_of.ensures c.if-mark_bucket.true)

pub loop-b-preserved : goal.loop-b-preserved
loop-b-preserved c =
    (c.mark_bucket.ensures.long ∙ c.loop-b.invariant.0, next _ _ c.loop-b.b (omega arith) _ _ c.loop-b.invariant.1 (met_bucket _ _ _ _ c.loop-b.b c.mark_bucket.ensures c.keys_of.ensures c.if-mark_bucket.false))

pub returns : goal.returns
returns c = done _ _ c.loop-b.b _ (omega arith) c.loop-b.invariant.1
