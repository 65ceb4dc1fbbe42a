use Rattle.script.proofs.Putting.{Measuring}
use Rattle.script.proofs.write.measure.Given as goal

abbrev pub invariant-loop-c : goal.invariant-loop-c
invariant-loop-c l = Measuring l.c-items l.c-index l.size
