-- `next_set` scans word by word (`Scan`): each return gives the answer that the words passed allow. The measure is the number of words left.
-- Assumes nothing.
use Prim.Native.Nat.{◌-◌}
use Rattle.words.proofs.Scan.{Scan}
use Rattle.words.proofs.next_set.Given as goal

abbrev pub invariant-loop-word : goal.invariant-loop-word
invariant-loop-word l = Scan l.bits l.begin l.end l.last l.w l.word

abbrev pub decreases-loop-word : goal.decreases-loop-word
decreases-loop-word l = l.last - l.w
