-- `unmark` clears the slot's bit of its word.
use Rattle.rings.specs.MarkLaws.{ring_clear_code}
use Rattle.rings.proofs.marks.unmark.Goals as goal

pub returns : goal.returns
returns c =
    ring_clear_code c.args.g.t c.args.g.words c.args.work.now c.args.p c.word_of-w.ensures.is c.bit_of-b.ensures.0 c.bit_of-b.ensures.1
