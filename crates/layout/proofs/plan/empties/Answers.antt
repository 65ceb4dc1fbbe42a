use Rattle.std.proofs.Common.{length, map, refl, rules}
use Rattle.std.proofs.Math.Dec.{eqb}
use Rattle.std.proofs.lemmas.List.Recursion.{or_is}
use Rattle.layout.specs.Value.{units_in, no_chain}
use Rattle.layout.specs.Plan.{without, emptied}
use Rattle.layout.proofs.plan.empties.Goals as goal

pub returns : goal.returns
unfolding emptied
returns c = or_is (λ cs. emptied c.args.drops.now (map units_in cs)) (λ d. eqb (length (without c.args.drops.now (units_in d))) 0) refl (λ _ _. refl) c.args.sets.now no_chain _ (search rules) (search rules)
