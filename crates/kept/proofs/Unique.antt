-- For each public function: no second answer and no second content of what is lent meets its promise.
use Prim.Native.Nat.{ℕ}
use mathlib.Core.List.{List}
use mathlib.Core.Path.{◌≡◌, sym, ap, ◌∙◌}
use Rattle.std.specs.Prelude.{Result}
use Rattle.num.specs.declared.refusal.Refusal.{Refusal}
use Rattle.num.proofs.Refusals.{result_once}
use Rattle.layout.specs.declared.Layout.{Layout}
use Rattle.client.specs.declared.state.Job.{Job}
use Rattle.rule.specs.declared.Step.{Step}
use Rattle.rule.specs.declared.Stepped.{Stepped}
use Rattle.rule.specs.Fresh.{Made}
use Rattle.rule.proofs.Unique.{taken_once, made_once}
use Rattle.kept.specs.declared.Kept.{Kept}
use Rattle.kept.specs.Promises.{IsKeptStep, kept_step_in, IsKeptMade, kept_made_in, unmade}

-- step_kept
pub kept_step_once : {k k₁ k₂ : Kept} {m m₁ m₂ : List ℕ} {s : Step} {j : Job} {r₁ r₂ : Stepped} → IsKeptStep k m s j (kept_step_in r₁ k₁) m₁ → k₁.yard ≡ r₁.yard → IsKeptStep k m s j (kept_step_in r₂ k₂) m₂ → k₂.yard ≡ r₂.yard
    → (r₁ ≡ r₂) × ((k₁ ≡ k₂) × (m₁ ≡ m₂))
kept_step_once x e y f =
    let o = taken_once x y in
    let yard = e ∙ (ap (λ (r : Stepped). r.yard) o.0 ∙ sym f) in
    (o.0, ((λ i. record { yard = yard i; sequencer = o.1.0 i; table = o.1.1.0 i }), o.1.1.1))

-- fresh_kept
pub kept_made_once : {l : Layout} {m m₁ m₂ : List ℕ} {r₁ r₂ : Result Kept Refusal} → IsKeptMade l m (kept_made_in r₁) m₁ → IsKeptMade l m (kept_made_in r₂) m₂ → (r₁ ≡ r₂) × (m₁ ≡ m₂)
kept_made_once {r₁ = r₁} {r₂ = r₂} x y =
    let o = made_once x y in
    (result_once unmade r₁ r₂ (ap (λ (r : Made). r.answer) o.0) (λ i. record { yard = (o.0 i).yard; sequencer = o.1.0 i; table = o.1.1.0 i }), o.1.1.1)
