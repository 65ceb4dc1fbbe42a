use Rattle.unit.proofs.Sealing.{Passed}
use Rattle.unit.proofs.edges.written_count.Given as goal

abbrev pub invariant-loop-i : goal.invariant-loop-i
invariant-loop-i l = Passed l.sh l.mem l.i
