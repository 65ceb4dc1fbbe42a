-- Laws of `used`: how many sets the ranges use, as a sum.
use Rattle.std.proofs.Common.{◌≡◌, List, map, refl}
use Rattle.std.specs.List.{sum_by}
use Rattle.std.proofs.lemmas.List.Recursion.{is_sum_by}
use Rattle.layout.specs.declared.Range.{Range}
use Rattle.layout.specs.Lay.{used}
use Rattle.layout.specs.Value.{span_in}

pub used_is : (rs : List Range) → used (map span_in rs) ≡ sum_by (λ r. r.sets) rs
unfolding used
used_is rs = is_sum_by (λ xs. used (map span_in xs)) (λ r. r.sets) refl (λ _ _. refl) rs
