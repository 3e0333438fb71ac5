-- `stride_word` gathers 64 slots 2^t apart, one bit after the other.
use Rattle.rings.specs.Columns.{Strided}
use Rattle.rings.proofs.columns.stride_word.Given as goal

abbrev pub invariant-loop-i : goal.invariant-loop-i
invariant-loop-i l = Strided l.t l.bitmap l.p l.i l.word
