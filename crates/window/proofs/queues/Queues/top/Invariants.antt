use Rattle.window.proofs.Tops.{Seen}
use Rattle.window.proofs.queues.Queues.top.Given as goal

abbrev pub invariant-loop-rest : goal.invariant-loop-rest
invariant-loop-rest l = Seen l.self.keys l.self.nonempty l.size l.best l.rest

abbrev pub decreases-loop-rest : goal.decreases-loop-rest
decreases-loop-rest l = l.rest
