use Rattle.std.proofs.Common.{◌≡◌, ℕ, zero, suc, List, [], ◌∷◌, ◌≤◌, length, refl, ◌∙◌, rules, arith}
use Rattle.std.proofs.Math.Dec.{eqb}
use Rattle.std.specs.List.{list_all}
use Rattle.std.proofs.lemmas.List.Recursion.{and_is}
use Rattle.layout.specs.Value.{zeros}
use Rattle.layout.proofs.good.are_blank.Goals as goal

all_zero : (n : ℕ) (us : List ℕ) → length us ≤ n → list_all (λ u. eqb u 0) us ≡ zeros n us
unfolding zeros
all_zero zero [] h = refl
all_zero zero (u ∷ us) h = absurd (omega arith)
all_zero (suc n) [] h = refl
all_zero (suc n) (u ∷ us) h = rw (all_zero n us (omega arith)) refl

pub returns : goal.returns
returns c =
    and_is (list_all (λ u. eqb u 0)) (λ u. eqb u 0) refl (λ _ _. refl) c.args.units.now 0 _ (search rules) (search rules)
    ∙ all_zero 4 c.args.units.now c.requires
