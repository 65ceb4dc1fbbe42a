-- Laws of `keeps_sets` and `keeps_spans`: where the new list is too short.
use Rattle.std.proofs.Common.{◌≡◌, ℕ, false, List, [], ◌∷◌, ◌<◌, length, refl, arith}
use Rattle.layout.specs.Lay.{Span}
use Rattle.layout.specs.Successor.{keeps_sets, keeps_spans}

pub sets_short : (os ns : List (List ℕ)) → 0 < length os → length ns < 1 → keeps_sets os ns ≡ false
unfolding keeps_sets
sets_short [] ns h k = absurd (omega arith)
sets_short (o ∷ os) [] h k = refl
sets_short (o ∷ os) (n ∷ ns) h k = absurd (omega arith)

pub spans_short : (last : ℕ) (os ns : List Span) → 0 < length os → length ns < 1 → keeps_spans last os ns ≡ false
unfolding keeps_spans
spans_short last [] ns h k = absurd (omega arith)
spans_short last (o ∷ os) [] h k = refl
spans_short last (o ∷ os) (n ∷ ns) h k = absurd (omega arith)
