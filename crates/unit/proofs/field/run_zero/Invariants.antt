use Rattle.unit.proofs.Fields.{Tested}
use Rattle.unit.proofs.field.run_zero.Given as goal

abbrev pub invariant-loop-i : goal.invariant-loop-i
invariant-loop-i l = Tested l.mem l.at l.i l.clean
