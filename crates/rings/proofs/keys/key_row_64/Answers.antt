-- `key_row_64` gives a key's slots at all 64 rotations: the row of its ring, turned by the place that it takes at rotation 0.
use native.Mathlib.Omega.{arith}
use Rattle.rings.specs.KeyLaws.{key_row_64}
use Rattle.rings.proofs.keys.key_row_64.Goals as goal

pub returns : goal.returns
returns c =
    key_row_64 c.requires.key c.requires.start_bound.1 (omega arith) (rw c.ring_start.ensures at c.row64-row.ensures)
