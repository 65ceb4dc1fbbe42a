use Rattle.std.proofs.Common.{◌&&◌, refl, rules}
use Rattle.std.proofs.Math.Dec.{eqb}
use Rattle.std.proofs.lemmas.List.Recursion.{and_is}
use Rattle.layout.specs.Value.{no_chain, tidy_chain, tidy_chains}
use Rattle.layout.proofs.good.no_chains.Goals as goal

pub returns : goal.returns
unfolding tidy_chains
returns c = and_is (tidy_chains 0) (λ d. tidy_chain d && eqb d.count 0) refl (λ _ _. refl) c.args.chains.now no_chain _ (search rules) (search rules)
