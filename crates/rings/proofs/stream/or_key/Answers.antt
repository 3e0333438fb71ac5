-- `or_key` adds a key's slots: they are its ring from the place that the key takes at rotation 0.
use Rattle.rings.specs.StreamLaws.{key_added}
use Rattle.rings.proofs.stream.or_key.Goals as goal

pub returns : goal.returns
returns c =
    key_added c.requires.key c.place_of-x.ensures (rw c.ring_start-first.ensures at c.or_ring.ensures)
