-- For each public function: no second answer and no second content of what is lent meets its promise.
use Prim.Native.Nat.{ℕ, ◌≤◌}
use mathlib.Core.List.{List}
use mathlib.Core.Path.{◌≡◌, refl, ap}
use native.Mathlib.Omega.{arith}
use native.Mathlib.Bridge.{le_prop}
use mathlib.Core.HLevel.{is_prop→PathP}
use Rattle.std.specs.Prelude.{Option, None, Some, Result}
use Rattle.num.specs.declared.refusal.Refusal.{Refusal}
use Rattle.num.proofs.Refusals.{result_once}
use Rattle.num.proofs.Unique.{once}
use Rattle.layout.specs.Value.{blank}
use Rattle.rule.specs.declared.Yard.{Yard}
use Rattle.rule.specs.declared.Ended.{Ended}
use Rattle.rule.specs.declared.Stepped.{Stepped as Returned}
use Rattle.layout.specs.declared.Layout.{Layout}
use Rattle.sequencer.specs.declared.Sequencer.{Sequencer}
use Rattle.client.specs.declared.state.Job.{Job}
use Rattle.rule.specs.declared.Letter.{Letter}
use Rattle.rule.specs.declared.Step.{Step}
use Rattle.rule.specs.Stepped.{Stepped, who_of, outcome_of, stepped_in}
use Rattle.rule.specs.Lent.{Lent, IsStep}
use Rattle.rule.specs.Fresh.{Made, made_in, fresh_yard, IsMade}

ended_same : {x y : Ended} → x.who ≡ y.who → x.outcome ≡ y.outcome → x ≡ y
ended_same {x} {y} e f = λ i. record { who = e i; outcome = f i; somebody = is_prop→PathP (λ j. 1 ≤ e j) (λ j. le_prop) x.somebody y.somebody i }

-- an operation that ended is somebody's
ended_once : (x y : Option Ended) → who_of x ≡ who_of y → outcome_of x ≡ outcome_of y → x ≡ y
ended_once None None e f = refl
ended_once None (Some y) e f = absurd (omega (arith, y.somebody))
ended_once (Some x) None e f = absurd (omega (arith, x.somebody))
ended_once (Some x) (Some y) e f = ap Some (ended_same e f)

-- what is returned is known by its numbers
pub returned_once : {r₁ r₂ : Returned} → stepped_in r₁ ≡ stepped_in r₂ → r₁ ≡ r₂
returned_once {r₁} {r₂} e =
    let a = result_once tt r₁.answer r₂.answer (ap (λ (s : Stepped). s.answer) e) refl in
    let b = ended_once r₁.ended r₂.ended (ap (λ (s : Stepped). s.who) e) (ap (λ (s : Stepped). s.outcome) e) in
    λ i. record { answer = a i; ended = b i; yard = (e i).yard }

-- and so is a yard that is made
pub yard_once : (r₁ r₂ : Result Yard Refusal) → made_in r₁ ≡ made_in r₂ → r₁ ≡ r₂
yard_once r₁ r₂ e = result_once (fresh_yard blank) r₁ r₂ (ap (λ (m : Made). m.answer) e) (ap (λ (m : Made). m.yard) e)

module _ {q₁ q₂ : Sequencer} {t₁ t₂ : List Letter} {m₁ m₂ : List ℕ} where
  pub step_once : {b : Lent} {s : Step} {j : Job} {r₁ r₂ : Stepped} → IsStep b s j r₁ q₁ t₁ m₁ → IsStep b s j r₂ q₂ t₂ m₂ → (r₁ ≡ r₂) × ((q₁ ≡ q₂) × ((t₁ ≡ t₂) × (m₁ ≡ m₂)))
  step_once x y = (
    once x.result_is y.result_is,
    (once x.sequencer_is y.sequencer_is, (once x.table_is y.table_is, once x.memories_is y.memories_is)),
  )

  pub made_once : {l : Layout} {q : Sequencer} {t : List Letter} {m : List ℕ} {r₁ r₂ : Made} → IsMade l q t m r₁ q₁ t₁ m₁ → IsMade l q t m r₂ q₂ t₂ m₂
      → (r₁ ≡ r₂) × ((q₁ ≡ q₂) × ((t₁ ≡ t₂) × (m₁ ≡ m₂)))
  made_once {r₁ = r₁} {r₂ = r₂} x y = (
    (λ i. record { answer = once x.answer_is y.answer_is i; yard = once x.yard_is y.yard_is i }),
    (once x.sequencer_is y.sequencer_is, (once x.table_is y.table_is, once x.memories_is y.memories_is)),
  )

  -- ---- what the code returns

  -- step
  pub taken_once : {b : Lent} {s : Step} {j : Job} {r₁ r₂ : Returned} → IsStep b s j (stepped_in r₁) q₁ t₁ m₁ → IsStep b s j (stepped_in r₂) q₂ t₂ m₂ → (r₁ ≡ r₂) × ((q₁ ≡ q₂) × ((t₁ ≡ t₂) × (m₁ ≡ m₂)))
  taken_once x y = let k = step_once x y in (returned_once k.0, k.1)

  -- fresh
  pub fresh_once : {l : Layout} {q : Sequencer} {t : List Letter} {m : List ℕ} {r₁ r₂ : Result Yard Refusal} → IsMade l q t m (made_in r₁) q₁ t₁ m₁ → IsMade l q t m (made_in r₂) q₂ t₂ m₂
      → (r₁ ≡ r₂) × ((q₁ ≡ q₂) × ((t₁ ≡ t₂) × (m₁ ≡ m₂)))
  fresh_once {r₁ = r₁} {r₂ = r₂} x y = let k = made_once x y in (yard_once r₁ r₂ k.0, k.1)
