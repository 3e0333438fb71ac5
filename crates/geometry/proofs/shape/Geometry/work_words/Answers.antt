use Rattle.geometry.proofs.Sizes.{sized}
use Rattle.rules.specs.Geometry as G
use Rattle.std.proofs.Common.{refl, ◌∙◌, arith}
use Rattle.geometry.proofs.shape.Geometry.work_words.Goals as goal

pub words-requires : goal.words-requires
words-requires c = let s = sized c.args.self in (s.slots_high, omega arith, omega arith, omega arith)

pub returns : goal.returns
unfolding G.work_words G.layouts
returns c =
    let s = sized c.args.self in
    (c.words.ensures.0 ∙ (rw (s.slots_is, s.layouts_is, s.ring_is) refl), c.words.ensures.1)
