-- What a test chooses, with the fact that it tells. P is whatever is to be shown of the choice.
use mathlib.Core.Path.{◌≡◌, refl}
use mathlib.Core.Bool.{Bool, true, false, cond}
use Prim.Native.Nat.{ℕ, ◌≤◌, ◌<◌}
use lib.Dec.{eqb, leb, ltb}
use borrow.Author.Tests.{ltb-true, ltb-false, leb-true, leb-false, eqb-true, eqb-false}

module _ {A : Type 0} (P : A → Type 0) {x y : A} where
  pub either : (b : Bool) → (b ≡ true → P x) → (b ≡ false → P y) → P (cond b x y)
  either true so other = so refl
  either false so other = other refl

  pub if_equal : (m n : ℕ) → (m ≡ n → P x) → (¬ (m ≡ n) → P y) → P (cond (eqb m n) x y)
  if_equal m n so other = either (eqb m n) (λ e. so (eqb-true m n e)) (λ e. other (eqb-false m n e))

  pub if_below : (m n : ℕ) → (m < n → P x) → (n ≤ m → P y) → P (cond (ltb m n) x y)
  if_below m n so other = either (ltb m n) (λ e. so (ltb-true m n e)) (λ e. other (ltb-false m n e))

  pub if_within : (m n : ℕ) → (m ≤ n → P x) → (n < m → P y) → P (cond (leb m n) x y)
  if_within m n so other = either (leb m n) (λ e. so (leb-true m n e)) (λ e. other (leb-false m n e))
