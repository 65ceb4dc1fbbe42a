-- Laws of `◌in?◌`, by the word of std that `contains` mirrors.
use Rattle.std.proofs.Common.{◌≡◌, ℕ, List, [], ◌∷◌, refl, arith}
use Rattle.std.proofs.Math.Dec.{eqb}
use Rattle.std.proofs.lemmas.Bool.Decides.{nat_tests}
use Rattle.std.specs.List.{list_any}
use Rattle.layout.specs.Lay.{◌in?◌}

pub eqb_swap : (a b : ℕ) → eqb a b ≡ eqb b a
eqb_swap a b = grind (arith, nat_tests)

pub contains_is : (u : ℕ) (us : List ℕ) → (u in? us) ≡ list_any (λ y. eqb y u) us
unfolding ◌in?◌
contains_is u [] = refl
contains_is u (x ∷ xs) = rw (eqb_swap x u, contains_is u xs) refl
