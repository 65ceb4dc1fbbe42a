use Rattle.layout.proofs.Without.{Thinned}
use Rattle.layout.proofs.plan.shrunk.Given as goal

abbrev pub invariant-loop-u : goal.invariant-loop-u
invariant-loop-u l = Thinned l.drops l.u-items l.kept.units l.kept.count l.u-index
