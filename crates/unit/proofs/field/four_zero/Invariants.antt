use Rattle.unit.proofs.Words.{Four}
use Rattle.unit.proofs.field.four_zero.Given as goal

abbrev pub invariant-loop-i : goal.invariant-loop-i
invariant-loop-i l = Four l.mem l.at l.part l.i l.sa l.sb l.sc l.sd
