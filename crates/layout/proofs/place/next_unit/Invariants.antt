use Rattle.std.proofs.Common.{◌≡◌}
use Rattle.layout.specs.Value.{lay_of}
use Rattle.layout.specs.Places.{next_unit}
use Rattle.layout.proofs.NextUnit.{above_from}
use Rattle.layout.proofs.place.next_unit.Given as goal

abbrev pub invariant-loop-k : goal.invariant-loop-k
invariant-loop-k l = above_from l.u (lay_of l.l).sets l.k ≡ next_unit (lay_of l.l) l.u
