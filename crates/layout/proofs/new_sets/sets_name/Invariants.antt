use Rattle.layout.proofs.AreSets.{NameLeft}
use Rattle.layout.proofs.new_sets.sets_name.Given as goal

abbrev pub invariant-loop-i : goal.invariant-loop-i
invariant-loop-i l = NameLeft l.unit l.b l._i-end l._i l.found l.rest
