use Rattle.layout.proofs.SpansAt.{SpansReading}
use Rattle.layout.proofs.read.ranges_from.Given as goal

abbrev pub invariant-loop-i : goal.invariant-loop-i
invariant-loop-i l = SpansReading l.b l.n l.i l.ranges l.rest
