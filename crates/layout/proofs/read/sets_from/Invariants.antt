use Rattle.layout.proofs.SetsAt.{SetsReading}
use Rattle.layout.proofs.read.sets_from.Given as goal

abbrev pub invariant-loop-i : goal.invariant-loop-i
invariant-loop-i l = SetsReading l.b l.n l.i l.sets l.rest
