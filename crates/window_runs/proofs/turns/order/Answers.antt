-- An empty window is the first one; each turn leaves a window that waits for the next.
use Prim.Native.Nat.{◌+◌}
use mathlib.Core.Path.{sym, subst}
use Rattle.window.specs.Window.{State, Waiting}
use Rattle.window_runs.proofs.Begun.{begun}
use Rattle.window_runs.proofs.turns.order.Goals as goal

pub loop-turn-init : goal.loop-turn-init
loop-turn-init g c =
    let P : State → Type 0 = λ s. Waiting c.args.begins.now c.weight_table-table.result c.args.hi s in
    subst P (sym c.new-window.ensures)
    (begun c.args.weights c.args.begins.now c.weight_table-table.result c.args.lo c.args.hi c.requires.sized c.requires.within c.weight_table-table.ensures c.requires.lo_le_hi.0 c.requires.lo_le_hi.1)

pub loop-turn-preserved : goal.loop-turn-preserved
loop-turn-preserved g c =
    let d = c.loop-turn.invariant in
    let t = c.take-b.ensures.turned d.i d.lo c.args.hi d.k d.ranged (c.refill.ensures.full d.i d.lo d.k d.ranged d.windowed) in
    record { i = d.i; lo = d.lo; k = d.k + 1; ranged = d.ranged; windowed = t.windowed }
