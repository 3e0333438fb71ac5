-- `entry_of` gives the table's entry: the mask (n - 1) 2^t keeps the digits of the place, and the high half is too small to overflow.
use native.Mathlib.Omega.{arith}
use Rattle.rings.specs.KeyLaws.{entry_code, entry_small}
use Rattle.rings.proofs.keys.entry_of.Goals as goal

pub returns : goal.returns
returns c =
    let e = entry_code c.args.g c.requires.shape c.args.d c.args.j c.requires.d_bound.1 in
    (e, omega (arith, e, entry_small c.args.g c.requires.shape c.args.d c.args.j c.requires.d_bound.0))
