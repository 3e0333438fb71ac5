-- `bump_of` is `bump_of`, word for word. Assumes nothing.
use Rattle.list_input.specs.Asked.{bump_of}
use mathlib.Core.Path.{refl}
use Rattle.list_input.proofs.asked.bump_of.Goals as goal

pub returns : goal.returns
unfolding bump_of
returns c = refl
