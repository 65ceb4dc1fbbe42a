use Rattle.std.proofs.Common.{map}
use Rattle.layout.specs.Value.{units_in}
use Rattle.layout.proofs.Dropped.{Unnamed}
use Rattle.layout.proofs.plan.name_dropped.Given as goal

abbrev pub invariant-loop-u : goal.invariant-loop-u
invariant-loop-u l = Unnamed l.drops (map units_in l.sets) l.u-counter
