-- Laws of `tidy_chains`: the chains within the count, and those past it.
use Prim.Native.Nat.{ℕ, zero, suc}
use mathlib.Core.Bool.{◌&&◌, and_assoc}
use mathlib.Core.List.{List, [], ◌∷◌, map}
use mathlib.Core.Path.{◌≡◌, refl}
use lib.ListN.{take, drop}
use Rattle.num.proofs.Bools.{and_swap}
use Rattle.layout.specs.declared.Chain.{Chain}
use Rattle.layout.specs.Lay.{good_set, good_sets}
use Rattle.layout.specs.Value.{tidy_chain, units_in, tidy_chains}
use Rattle.layout.specs.Plan.{good_chains}

pub chains_split : (n : ℕ) (cs : List Chain) → (good_sets (map units_in (take n cs)) && tidy_chains n cs) ≡ (good_chains (take n cs) && tidy_chains 0 (drop n cs))
unfolding good_sets good_chains tidy_chains
chains_split zero [] = refl
chains_split (suc n) [] = refl
chains_split zero (c ∷ cs) = refl
chains_split (suc n) (c ∷ cs) =
    rw (and_swap (good_set (units_in c)) (good_sets (map units_in (take n cs))) (tidy_chain c) (tidy_chains n cs), chains_split n cs) (simp and_assoc)
