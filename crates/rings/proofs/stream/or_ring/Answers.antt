-- `or_ring` adds word after word: k is the ring's word with which the next begins, low is what the ring has there, and the word after it is read.
use native.Mathlib.Omega.{arith}
use Rattle.rings.specs.StreamLaws.{stream_none, stream_more}
use Rattle.rings.proofs.stream.or_ring.Goals as goal

pub loop-i-init : goal.loop-i-init
loop-i-init c =
    stream_none c.args.to c.requires.shape (omega arith) (omega arith) (omega arith) c.word_of-base.ensures.is c.bit_of-s.ensures.0 c.ring_word-low.ensures

pub loop-i-preserved : goal.loop-i-preserved
loop-i-preserved c =
    let i = c.loop-i.invariant in
    stream_more c.requires.shape (omega arith) (omega arith) (omega arith) i c.word_of-base.ensures.is c.bit_of-s.ensures.0 (omega arith) c.ring_word-high.ensures c.join.ensures
