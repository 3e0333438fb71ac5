-- `read_seeds`: at each turn the whole gives what the seeds so far and what is left to read give (`Filling`). Assumes nothing.
use Rattle.level_file.proofs.FillLaws.{Filling}
use Rattle.level_file.specs.Format.{not_below}
use Rattle.level_file.specs.Reading.{numbers_at}
use Prim.Native.Nat.{◌-◌}
use lib.ListN.{length}
use mathlib.Core.Path.{◌≡◌}
use Rattle.level_file.proofs.reading.read_seeds.Given as goal

abbrev pub invariant-loop-seed : goal.invariant-loop-seed
invariant-loop-seed l =
    (l.reader.bytes.now ≡ l.initial.reader.bytes.now)
    × Filling (numbers_at l.initial.reader.bytes.now (not_below l.limit) (length l.initial.seeds) l.initial.reader.at) (numbers_at l.initial.reader.bytes.now (not_below l.limit) (length l.initial.seeds - l.seed-index) l.reader.at) l.seeds l.seed-index
