-- The best so far is that of the layouts below r (`Trying`), and what is below `up` is kept, so each layout's parts are still those of the list at entry.
use Prim.Native.Nat.{◌*◌}
use Rattle.rings.specs.Parts.{part}
use Rattle.best.specs.Kept.{Kept}
use Rattle.best.specs.Layouts.{Trying}
use Rattle.best.proofs.many.best_many.Given as goal

abbrev pub invariant-loop-r : goal.invariant-loop-r
invariant-loop-r l = (Trying l.g l.table (part l.initial.work l.rows.at (l.rows.layouts * l.rows.size)) l.rows.size (part l.initial.work l.rows.to (l.rows.layouts * l.rows.count)) l.rows.count l.rows.layouts l.r l.best × Kept l.up l.initial.work l.work)
