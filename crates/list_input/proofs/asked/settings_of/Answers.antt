-- `settings_of` is `settings_of`, field by field. Assumes nothing.
use Rattle.list_input.specs.Asked.{settings_of}
use mathlib.Core.Path.{refl}
use Rattle.list_input.proofs.asked.settings_of.Goals as goal

pub returns : goal.returns
unfolding settings_of
returns c = refl
