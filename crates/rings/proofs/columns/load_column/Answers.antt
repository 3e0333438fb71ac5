-- `load_column` loads the words that column c has in the ring, from those that it has in the bitmap.
use mathlib.Core.Path.{◌≡◌}
use Prim.Native.Nat.{◌*◌, ◌%◌, ◌^◌}
use native.Mathlib.Omega.{arith}
use native.Mathlib.Nat.{mod-eq_of_lt}
use Rattle.rings.specs.ColumnLaws.{col_code, col_end}
use Rattle.rings.proofs.columns.load_column.Goals as goal

pub load_rows-requires : goal.load_rows-requires
load_rows-requires c =
    let from : c.args.c * 2 ^ c.args.g.t % 2 ^ 64 ≡ c.args.c * 2 ^ c.args.g.t = mod-eq_of_lt (omega arith) in
    (c.requires.shape.stride, omega (arith, from), omega (arith, col_code c.args.g c.requires.shape c.args.c (omega arith), col_end c.args.g c.requires.shape c.args.c))

pub returns : goal.returns
returns c =
    let from : c.args.c * 2 ^ c.args.g.t % 2 ^ 64 ≡ c.args.c * 2 ^ c.args.g.t = mod-eq_of_lt (omega arith) in
    rw (col_code c.args.g c.requires.shape c.args.c (omega arith), from) at c.load_rows.ensures
