-- `next_word` gives the word one column on: the mask is the remainder by the words, a power of two.
use native.Mathlib.Omega.{arith}
use native.Mathlib.Nat.{mod-lt}
use Rattle.rings.specs.RingLaws.{next_code, shape_pos}
use Rattle.rings.proofs.slots.next_word.Goals as goal

pub returns : goal.returns
returns c =
    let e = next_code c.args.g.t c.requires.shape.e c.args.g.words c.args.w (omega arith) c.requires.shape.size in
    record { is = e; lt = rw e (mod-lt _ (shape_pos c.args.g c.requires.shape)) }
