-- The window waits for the next turn.
use Rattle.window.specs.Window.{state_of, Waiting}
use Rattle.window_runs.proofs.turns.order.Given as goal

abbrev pub invariant-loop-turn : goal.invariant-loop-turn
invariant-loop-turn g l = Waiting l.begins l.table l.hi (state_of l.window)
