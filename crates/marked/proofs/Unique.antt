-- No second answer meets the promise of the library's one public function.
use Rattle.std.proofs.Common.{ℕ, List, [], ◌∷◌, Result, ◌≡◌, refl, ap}
use Rattle.num.specs.declared.refusal.Refusal.{Refusal}
use Rattle.num.proofs.Refusals.{result_once}
use Rattle.num.proofs.Unique.{once}
use Rattle.marked.specs.declared.ask.Shown.{Shown}
use Rattle.marked.specs.declared.Answered.{Answered}
use Rattle.marked.specs.Rows.{Told, nothing, told_in, all_told_in}
use Rattle.marked.specs.Answering.{IsAnswered}

told_once : (x y : Result Shown Refusal) → told_in x ≡ told_in y → x ≡ y
told_once x y e = result_once nothing x y (ap (λ (t : Told). t.answer) e) (λ i. record { first = (e i).first; second = (e i).second })

all_told_once : (xs ys : List (Result Shown Refusal)) → all_told_in xs ≡ all_told_in ys → xs ≡ ys
all_told_once [] [] e = refl
all_told_once [] (y ∷ ys) e = cc
all_told_once (x ∷ xs) [] e = cc
all_told_once (x ∷ xs) (y ∷ ys) e =
    let head : told_in x ≡ told_in y = cc in
    let tail : all_told_in xs ≡ all_told_in ys = cc in
    let h : x ≡ y = told_once x y head in
    let t : xs ≡ ys = all_told_once xs ys tail in
    λ i. h i ∷ t i

-- wrong_rows
pub answered_once : {m : List ℕ} {r s : Answered} → IsAnswered m r → IsAnswered m s → r ≡ s
answered_once {r = r} {s = s} x y =
    let told : r.told ≡ s.told = all_told_once r.told s.told (once x.told_is y.told_is) in
    λ i. record { told = told i; wrong = once x.none_wrong y.none_wrong i }
