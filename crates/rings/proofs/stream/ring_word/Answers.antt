-- `ring_word` gives word k of a ring: the words where its 64 places begin and go on, joined at the bit that the ring starts with.
use native.Mathlib.Omega.{arith}
use Rattle.rings.specs.StreamLaws.{on_code, ring_word}
use Rattle.rings.proofs.stream.ring_word.Goals as goal

pub returns : goal.returns
returns c =
    ring_word
    (c.shared_slice_known-2-1.given _).fits
    (on_code c.args.g c.requires.shape c.args.base c.args.k (omega arith))
    c.next_word-next.ensures
    c.join.ensures
