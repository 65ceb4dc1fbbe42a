use Rattle.script.proofs.Reaching.{Reaching}
use Rattle.script.proofs.step.reach.Given as goal

abbrev pub invariant-loop : goal.invariant-loop
invariant-loop l = Reaching l.b l.n l.past l.counter
