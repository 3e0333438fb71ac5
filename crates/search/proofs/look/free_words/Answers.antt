-- n is a power of two: below 64 one word is enough, and from 64 on it is a multiple of 64. Assumes nothing.
use Rattle.search.specs.LookLaws.{free_words_is}
use Rattle.search.proofs.look.free_words.Goals as goal

pub returns : goal.returns
returns c = rw c.max.ensures (free_words_is c.args.g c.requires)
