-- `read_holes`: as `read_seeds`, with the hole before and the least difference as what goes on. Assumes nothing.
use Rattle.level_file.proofs.FillLaws.{Filling}
use Rattle.level_file.specs.Reading.{holes_at}
use Prim.Native.Nat.{◌-◌, ◌≤◌}
use lib.ListN.{length}
use mathlib.Core.Path.{◌≡◌}
use Rattle.level_file.proofs.reading.read_holes.Given as goal

abbrev pub invariant-loop-hole : goal.invariant-loop-hole
invariant-loop-hole l =
    (l.reader.bytes.now ≡ l.initial.reader.bytes.now)
    × Filling (holes_at l.initial.reader.bytes.now l.m (length l.initial.holes) 0 0 l.initial.reader.at) (holes_at l.initial.reader.bytes.now l.m (length l.initial.holes - l.hole-index) l.before l.least l.reader.at) l.holes l.hole-index
    × (l.before ≤ l.m)
