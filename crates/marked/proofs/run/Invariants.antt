use Rattle.marked.proofs.Running.{Running}
use Rattle.marked.proofs.run.Given as goal

abbrev pub invariant-loop-k : goal.invariant-loop-k
invariant-loop-k g l = Running l.initial.mem l.k l.mem l.told l.wrong
