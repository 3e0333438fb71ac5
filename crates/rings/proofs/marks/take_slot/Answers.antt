-- `take_slot` marks a slot that was free, and leaves the ring where it was not.
use mathlib.Core.Path.{sym, ◌∙◌}
use Rattle.rings.specs.MarkLaws.{ring_test_code, ring_mark_code, took_no, took_yes}
use Rattle.rings.proofs.marks.take_slot.Goals as goal

pub returns-then-x-b-eq1 : goal.returns-then-x-b-eq1
returns-then-x-b-eq1 c =
    took_no c.args.g c.args.work.now c.args.p
    (sym (ring_test_code c.args.g.t c.args.g.words c.args.work.now c.args.p c.word_of-w.ensures.is c.bit_of-b.ensures.0) ∙ c.if-x-b-eq1.true)

pub returns : goal.returns
returns c =
    took_yes c.args.g c.args.work.now c.args.p
    (λ e. c.if-x-b-eq1.false (ring_test_code c.args.g.t c.args.g.words c.args.work.now c.args.p c.word_of-w.ensures.is c.bit_of-b.ensures.0 ∙ e))
    (ring_mark_code c.args.g.t c.args.g.words c.args.work.now c.args.p c.word_of-w.ensures.is c.bit_of-b.ensures.0 c.bit_of-b.ensures.1)
