-- Each turn is a law of the parts that wait.
use Rattle.trees.proofs.PartsWaiting.{Judging}
use Rattle.trees.proofs.held.Held.judge.Given as goal

abbrev pub invariant-loop-at : goal.invariant-loop-at
invariant-loop-at l = Judging l.self l.nodes l.waiting l.count l.due l.at
