-- `run` takes range after range: before range k the turns taken are those of the first k ranges. The next has none of them, since each bucket stands in one range,
-- and after the last they are all turns of the sweep.
use mathlib.Core.List.{[]}
use mathlib.Core.Path.{◌≡◌}
use Prim.Native.Nat.{ℕ}
use lib.ListN.{length}
use Rattle.rules.specs.Order.{Input}
use Rattle.rules.specs.Chunks.{chunk_count}
use Rattle.rules.specs.Chunks as R
use Rattle.sweep.specs.Sweeping.{Resting}
use Rattle.sweep.proofs.RunLaws.{up_to}
use Rattle.sweep.proofs.turning.run.Given as goal

abbrev pub invariant-loop-k : goal.invariant-loop-k
invariant-loop-k l =
    ((i : Input) (c : ℕ) → l.chunks ≡ chunk_count l.g.settings c → Resting i l.g l.bump l.hashes l.begins l.table l.by_size [] l.z l.initial.seeds l.initial.bitmap l.initial.work
    → Resting i l.g l.bump l.hashes l.begins l.table l.by_size (up_to i (R.ranges i.settings c) l.k) l.z l.seeds l.bitmap l.work)
    × (length l.seeds ≡ length l.initial.seeds) × (length l.bitmap ≡ length l.initial.bitmap) × (length l.work ≡ length l.initial.work)
