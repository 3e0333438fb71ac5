-- `stride_word` gathers 64 slots 2^t apart, one bit after the other.
use mathlib.Core.Path.{ap, ◌∙◌}
use Rattle.words.specs.Map.{slot}
use Rattle.rings.specs.ColumnLaws.{strided_none, strided_more, row_code}
use Rattle.rings.proofs.columns.stride_word.Goals as goal

pub loop-i-init : goal.loop-i-init
loop-i-init c = strided_none _ _ _

pub loop-i-preserved : goal.loop-i-preserved
loop-i-preserved c =
    strided_more c.loop-i.invariant c.loop-i-test.true
    (c.slot_bit.ensures ∙ ap (slot c.args.bitmap.now) (row_code c.args.t c.args.p c.loop-i.i c.requires.0 c.loop-i-test.true))
