-- Laws of `good_chains`, the test of the sets that are wanted.
use mathlib.Core.Bool.{true, ◌&&◌}
use mathlib.Core.List.{List, [], ◌∷◌, map}
use mathlib.Core.Path.{◌≡◌, refl, sym, ap₂}
use Rattle.num.proofs.Tests.{and_both}
use Rattle.layout.specs.declared.Chain.{Chain}
use Rattle.layout.specs.Lay.{good_set, good_sets}
use Rattle.layout.specs.Value.{units_in, tidy_chain, chain_of}
use Rattle.layout.specs.Plan.{good_chains}
use Rattle.layout.proofs.ValueOf.{chain_back}

pub wish_sets : (cs : List Chain) → good_chains cs ≡ true → good_sets (map units_in cs) ≡ true
unfolding good_chains good_sets
wish_sets [] g = refl
wish_sets (c ∷ cs) g =
    let r = and_both (good_set (units_in c) && tidy_chain c) (good_chains cs) g in
    rw (and_both (good_set (units_in c)) (tidy_chain c) r.0).0 (wish_sets cs r.1)

-- its chains are those of its sets
pub wish_chains : (cs : List Chain) → good_chains cs ≡ true → cs ≡ map chain_of (map units_in cs)
unfolding good_chains
wish_chains [] g = refl
wish_chains (c ∷ cs) g =
    let r = and_both (good_set (units_in c) && tidy_chain c) (good_chains cs) g in
    ap₂ ◌∷◌ (sym (chain_back c (and_both (good_set (units_in c)) (tidy_chain c) r.0).1)) (wish_chains cs r.1)
