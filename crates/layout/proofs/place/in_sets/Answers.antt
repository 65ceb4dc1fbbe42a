use Rattle.std.proofs.Common.{map, refl, rules}
use Rattle.std.proofs.lemmas.List.Recursion.{or_is}
use Rattle.layout.specs.Lay.{◌in?◌, in_sets}
use Rattle.layout.specs.Value.{units_in, no_chain}
use Rattle.layout.proofs.place.in_sets.Goals as goal

pub returns : goal.returns
unfolding in_sets
returns c = or_is (λ cs. in_sets c.args.u (map units_in cs)) (λ d. c.args.u in? units_in d) refl (λ _ _. refl) c.args.sets.now no_chain _ (search rules) (search rules)
