-- The slot that `lookup_in` found, or BUMPED. Assumes nothing.
use mathlib.Core.Path.{ap, ◌∙◌}
use Rattle.exports.specs.Told.{slot_or}
use Rattle.exports.specs.Positions.{slot_of}
use Rattle.exports.proofs.Results.{slot_found}
use Rattle.exports.proofs.asking.slot_in.Goals as goal

pub returns : goal.returns
unfolding slot_of
returns c = c.unwrap_or.ensures ∙ slot_found c.lookup_in.result ∙ ap slot_or c.lookup_in.ensures
