-- `fill_free` begins with the barred rotation, adds key after key to the words of all layouts, and turns the words over.
use native.Mathlib.Omega.{arith}
use mathlib.Core.Path.{◌≡◌}
use Rattle.rings.specs.BlockedLaws.{within_then}
use Rattle.rings.specs.StreamLaws.{keyed_none, keyed_more, keyed_all, layout_keys, few_words}
use Rattle.rings.proofs.free.fill_free.Goals as goal

pub loop-i-init : goal.loop-i-init
loop-i-init c = keyed_none _ _ _ c.begin_free.ensures

pub or_layouts-requires : goal.or_layouts-requires
or_layouts-requires c =
    record {
      shape = c.requires.shape;
      words_le_to = (omega arith, omega (arith, c.loop-i.invariant.within.len, c.begin_free.ensures.within.len), c.requires.words_le_at.3, c.requires.words_le_at.4);
      layout_keys = layout_keys c.args.at c.args.size c.args.layouts c.loop-i.i c.loop-i-test.true c.requires.words_le_at.1 (omega arith) (within_then c.begin_free.ensures.within c.loop-i.invariant.within) c.requires.keys;
      start_bound = c.requires.start_bound.0;
    }

pub loop-i-preserved : goal.loop-i-preserved
loop-i-preserved c =
    keyed_more c.requires.shape (omega arith) c.loop-i-test.true c.requires.words_le_at.1 c.loop-i.invariant c.or_layouts.ensures

pub finish_free-requires : goal.finish_free-requires
finish_free-requires c =
    (omega (arith, c.loop-i.invariant.within.len, c.begin_free.ensures.within.len), few_words c.args.g c.requires.shape c.args.layouts c.args.count c.requires.start_bound.1 c.requires.words_le_at.3)

pub returns : goal.returns
returns c =
    let e : c.loop-i.i ≡ c.args.size = omega arith in
    keyed_all c.requires.shape (omega arith) c.requires.words_le_at.1 (omega arith) c.begin_free.ensures (rw e at c.loop-i.invariant) c.finish_free.ensures
