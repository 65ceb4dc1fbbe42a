use Rattle.yard.proofs.Freshening.{Filled}
use Rattle.yard.proofs.fresh.fresh_units.Given as goal

-- those from i on are made
abbrev pub invariant-loop-i : goal.invariant-loop-i
invariant-loop-i l = Filled l.shape l.units l.i
