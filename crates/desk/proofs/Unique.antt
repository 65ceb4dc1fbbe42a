-- No second answer, and no second content of what is lent, meets the promise of an entry.
use Prim.Native.Nat.{ℕ}
use mathlib.Core.List.{List}
use mathlib.Core.Path.{◌≡◌}
use Rattle.num.proofs.Unique.{once}
use Rattle.desk.specs.Told.{IsGoodTold, IsSetTold, IsOfferTold, IsPlanTold}

-- layout_good
pub good_told_once : {b : List ℕ} {r s : ℕ} → IsGoodTold b r → IsGoodTold b s → r ≡ s
good_told_once x y = once x.answer_is y.answer_is

-- layout_set
pub set_told_once : {b : List ℕ} {p n r n₁ s n₂ : ℕ} → IsSetTold b p n r n₁ → IsSetTold b p n s n₂ → (r ≡ s) × (n₁ ≡ n₂)
set_told_once x y = (once x.answer_is y.answer_is, once x.set_is y.set_is)

-- layout_offer
pub offer_told_once : {h o : List ℕ} {r s : ℕ} → IsOfferTold h o r → IsOfferTold h o s → r ≡ s
offer_told_once x y = once x.answer_is y.answer_is

-- layout_plan
pub plan_told_once : {h d n : List ℕ} {e : ℕ} {out : List ℕ} {w r : ℕ} {out₁ : List ℕ} {w₁ s : ℕ} {out₂ : List ℕ} {w₂ : ℕ}
    → IsPlanTold h d n e out w r out₁ w₁ → IsPlanTold h d n e out w s out₂ w₂ → (r ≡ s) × ((out₁ ≡ out₂) × (w₁ ≡ w₂))
plan_told_once x y = (once x.answer_is y.answer_is, (once x.out_is y.out_is, once x.written_is y.written_is))
