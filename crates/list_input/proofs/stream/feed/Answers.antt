-- `feed` takes bytes as `fed_scan` and `fed_numbers` say: feeding the rest from the present state gives at each turn what feeding all of
-- them gives. Assumes nothing.
use Rattle.list_input.specs.ScanLaws.{fed_end, fed_step, numbers_end, numbers_step}
use mathlib.Core.Path.{refl, sym, ◌∙◌}
use Rattle.list_input.proofs.stream.feed.Goals as goal

pub loop-byte-preserved : goal.loop-byte-preserved
loop-byte-preserved c =
    let chunk = c.args.chunk.now in
    let t = c.take_byte-now.ensures in (
      fed_step c.loop-byte.now chunk c.loop-byte.byte-index c.loop-byte-test.true _ refl _ t.value ∙ c.loop-byte.invariant.0,
      numbers_step c.loop-byte.now chunk c.loop-byte.byte-index c.loop-byte-test.true _ refl _ t.value c.loop-byte.numbers _ t.numbers_after ∙ c.loop-byte.invariant.1,
    )

pub returns : goal.returns
returns c =
    record {
      value = sym (fed_end _ _ _ c.loop-byte-test.false) ∙ c.loop-byte.invariant.0;
      numbers_after = sym (numbers_end _ _ _ _ c.loop-byte-test.false) ∙ c.loop-byte.invariant.1;
    }
