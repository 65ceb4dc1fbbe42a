use Rattle.layout.proofs.Dropped.{Unnamed}
use Rattle.desk.specs.InsideMade.{named_sets}
use Rattle.desk.proofs.made.name_dropped.Given as goal

abbrev pub invariant-loop-u : goal.invariant-loop-u
invariant-loop-u l = Unnamed l.drops (named_sets l.sets) l.u-counter
