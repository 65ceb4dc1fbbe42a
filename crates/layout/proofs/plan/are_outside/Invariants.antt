use Rattle.std.proofs.Common.{◌≡◌, ◌||◌, [], drop}
use Rattle.layout.specs.Plan.{bad_drops}
use Rattle.layout.proofs.plan.are_outside.Given as goal

abbrev pub invariant-loop-u : goal.invariant-loop-u
invariant-loop-u l = (l.outside || bad_drops (drop l.u-index l.drops) []) ≡ bad_drops l.drops []
