-- `word_of` gives the slot's word: its shifts and masks are the division and the remainders of `word_of`, and nothing overflows since a column's number is at most the slot's.
use native.Mathlib.Omega.{arith}
use Rattle.rings.specs.RingLaws.{shape_pos, word_fits, word_code, word_lt}
use Rattle.rings.proofs.slots.word_of.Goals as goal

pub overflow_add-result : goal.overflow_add-result
overflow_add-result c = record { fits = word_fits c.args.g.t c.args.p (omega arith) c.ranges.p.fits }

pub returns : goal.returns
returns c =
    let e = word_code c.args.g.t c.requires.e c.args.g.words c.args.p (omega arith) c.ranges.p.fits c.requires.size in
    record { is = e; lt = rw e (word_lt _ _ _ (shape_pos c.args.g c.requires)) }
