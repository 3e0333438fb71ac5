-- The scratch marks what the buckets before b have met (`Walking`), so the first bucket at which a slot is met again is the lowest.
use Rattle.level_check.proofs.Walking.{Walking}
use Rattle.level_check.specs.Check.{level_of}
use lib.ListN.{length}
use mathlib.Core.Path.{◌≡◌}
use Rattle.level_check.proofs.slots.mark_buckets.Given as goal

abbrev pub invariant-loop-b : goal.invariant-loop-b
invariant-loop-b l = (length l.scratch ≡ length l.initial.scratch) × Walking (level_of l.g.settings l.hashes l.begins) l.seeds l.b l.scratch
