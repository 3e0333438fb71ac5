-- The sizes go into their places, or all is kept. Assumes nothing.
use mathlib.Core.Path.{◌∙◌}
use Rattle.exports.specs.Sizes.{sizes_after}
use Rattle.exports.proofs.Results.{kept}
use Rattle.exports.proofs.sizing.phastr_sizes.Goals as goal

pub returns : goal.returns
unfolding sizes_after
returns c =
    let e = c.settings_of-s.ensures in
    record {
      answer = rw e at (c.tell.ensures.number ∙ c.wanted.ensures.number);
      sized = rw e at (c.tell.ensures.value ∙ kept c.wanted.result _ c.args.sizes.now _ c.wanted.ensures.number c.wanted.ensures.sizes);
    }
