use Rattle.std.proofs.Common.{◌&&◌, refl, rules}
use Rattle.std.proofs.lemmas.List.Recursion.{and_is}
use Rattle.layout.specs.Lay.{good_set}
use Rattle.layout.specs.Value.{units_in, no_chain, tidy_chain}
use Rattle.layout.specs.Plan.{good_chains}
use Rattle.layout.proofs.good.good_chains.Goals as goal

pub returns : goal.returns
unfolding good_chains
returns c = and_is good_chains (λ d. good_set (units_in d) && tidy_chain d) refl (λ _ _. refl) c.args.chains.now no_chain _ (search rules) (search rules)
