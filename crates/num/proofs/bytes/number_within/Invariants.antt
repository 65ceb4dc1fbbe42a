use Rattle.num.proofs.Reading.{Summed}
use Rattle.num.proofs.bytes.number_within.Given as goal

abbrev pub invariant-loop-i : goal.invariant-loop-i
invariant-loop-i l = Summed l.bytes l.at l.width l.i l.n
