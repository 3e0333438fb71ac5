-- `load_rows` writes row after row; where no slot of the stretch is used each row is 0.
use Prim.Native.Nat.{◌*◌}
use Rattle.rings.specs.Columns.{Loaded}
use Rattle.rings.proofs.columns.load_rows.Given as goal

abbrev pub invariant-loop-i : goal.invariant-loop-i
invariant-loop-i l = Loaded l.t l.initial.work l.bitmap (l.from * 64) l.a l.i l.work
