use Rattle.yard.proofs.Memories.{Passed}
use Rattle.yard.proofs.units.good_units.Given as goal

-- those passed are good
abbrev pub invariant-loop-i : goal.invariant-loop-i
invariant-loop-i l = Passed l.shape l.units l.i
