-- No second answer, and no second content of what is lent, meets the promise.
use Prim.Native.Nat.{ℕ}
use mathlib.Core.List.{List}
use mathlib.Core.Path.{◌≡◌}
use Rattle.std.specs.Prelude.{Result}
use Rattle.num.specs.declared.refusal.Refusal.{Refusal}
use Rattle.num.proofs.Unique.{once}
use Rattle.play.specs.declared.Shown.{Shown}
use Rattle.play.specs.Shown.{IsRun, IsShown}

-- show_lines
pub run_once : {b : List ℕ} {from : ℕ} {out : List ℕ} {r s : Result Shown Refusal} {out₁ out₂ : List ℕ} → IsRun b from out r out₁ → IsRun b from out s out₂ → (r ≡ s) × (out₁ ≡ out₂)
run_once x y = (once x.told_is y.told_is, once x.out_is y.out_is)

-- play_lines of desk
pub shown_once : {b : List ℕ} {from : ℕ} {out : List ℕ} {n w r : ℕ} {out₁ : List ℕ} {n₁ w₁ s : ℕ} {out₂ : List ℕ} {n₂ w₂ : ℕ}
    → IsShown b from out n w r out₁ n₁ w₁ → IsShown b from out n w s out₂ n₂ w₂ → (r ≡ s) × ((out₁ ≡ out₂) × ((n₁ ≡ n₂) × (w₁ ≡ w₂)))
shown_once x y =
    (once x.answer_is y.answer_is, (once x.out_is y.out_is, (once x.lines_is y.lines_is, once x.written_is y.written_is)))
