-- `finish_free` gives the complements cut to n bits, since the bits that `own_bits` keeps are those below n.
use Rattle.rings.specs.BlockedLaws.{finished}
use Rattle.rings.proofs.free.finish_free.Goals as goal

pub returns : goal.returns
returns c =
    finished (λ k. (c.slice_known-1.given k).fits) c.own_bits.ensures c.turn_over.ensures
