-- No second answer, no second content of what is lent, meets a promise of this crate. The other entries promise what the unit does.
use Prim.Native.Nat.{ℕ}
use mathlib.Core.List.{List}
use mathlib.Core.Path.{◌≡◌}
use Rattle.num.specs.declared.Epoch.{Epoch}
use Rattle.num.specs.declared.Position.{Position}
use Rattle.num.proofs.Unique.{once}
use Rattle.unit.proofs.Unique.{answer_once}
use Rattle.station.specs.Told.{IsTold, IsSealTold, IsMeasureTold}

pub told_once : {m : List ℕ} {e : Epoch} {p : Position} {k s n a k₁ s₁ n₁ b k₂ s₂ n₂ : ℕ} → IsTold m e p k s n a k₁ s₁ n₁ → IsTold m e p k s n b k₂ s₂ n₂
    → (a ≡ b) × ((k₁ ≡ k₂) × ((s₁ ≡ s₂) × (n₁ ≡ n₂)))
told_once x y = (once x.answered.answer_is y.answered.answer_is, (once x.kind_is y.kind_is, (once x.start_is y.start_is, once x.length_is y.length_is)))

pub seal_told_once : {m : List ℕ} {e : Epoch} {g w a g₁ w₁ b g₂ w₂ : ℕ} {m₁ m₂ : List ℕ} → IsSealTold m e g w a g₁ w₁ m₁ → IsSealTold m e g w b g₂ w₂ m₂
    → (a ≡ b) × ((g₁ ≡ g₂) × ((w₁ ≡ w₂) × (m₁ ≡ m₂)))
seal_told_once x y =
    let (n, left) = answer_once x.answered y.answered in
    (n, (once x.edge_is y.edge_is, (once x.written_is y.written_is, left)))

pub measure_told_once : {m : List ℕ} {g w a g₁ w₁ b g₂ w₂ : ℕ} → IsMeasureTold m g w a g₁ w₁ → IsMeasureTold m g w b g₂ w₂ → (a ≡ b) × ((g₁ ≡ g₂) × (w₁ ≡ w₂))
measure_told_once x y = (once x.answered.answer_is y.answered.answer_is, (once x.edge_is y.edge_is, once x.written_is y.written_is))
