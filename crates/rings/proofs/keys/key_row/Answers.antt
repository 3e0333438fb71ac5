-- `key_row` gives a key's slots at 64 rotations: the ring from the place that the first of them takes.
use Rattle.rings.specs.KeyLaws.{key_row}
use Rattle.rings.proofs.keys.key_row.Goals as goal

pub returns : goal.returns
returns c =
    key_row c.requires.key c.place_of-x.ensures (rw c.ring_start.ensures at c.ring64.ensures)
