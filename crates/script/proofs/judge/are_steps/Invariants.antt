use Rattle.script.proofs.Walking.{Walking}
use Rattle.script.proofs.judge.are_steps.Given as goal

abbrev pub invariant-loop : goal.invariant-loop
invariant-loop l = Walking l.file l.at l.n l.past l.counter
