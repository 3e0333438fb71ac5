-- `place_of` gives the place in the ring: the mask is the remainder by n, a power of two.
use Rattle.rings.specs.KeyLaws.{place_code}
use Rattle.rings.proofs.keys.place_of.Goals as goal

pub returns : goal.returns
returns c = place_code c.args.g c.requires.shape c.args.d c.args.j
