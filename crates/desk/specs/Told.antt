-- What a test on a desk is told: the layouts' own rules over bytes, with the numbers and the buffer that it lends.
use Rattle.std.specs.Prelude.{ℕ, Bool, ◌||◌, not, cond, List, ◌∷◌, ◌≡◌, eqb, length}
use Rattle.std.proofs.lemmas.List.Edits.{sets}
use Rattle.num.specs.Checks.{lowest, ◌if◌}
use Rattle.num.specs.Told.{told}
use Rattle.layout.specs.declared.Layout.{Layout}
use Rattle.layout.specs.Value.{lay_of, value_of, good_value}
use Rattle.layout.specs.Codec.{read_answer, read_layout, sets_said, are_sets, bytes_of, write_answer}
use Rattle.layout.specs.Places.{place_answer, set_number}
use Rattle.layout.specs.Plan.{plan_checks, planned, new_start, start_answer}
use Rattle.layout.specs.Holder.{offer_answer}

-- 10 where the bytes are those of no good layout
pub record IsGoodTold (b : List ℕ) (answer : ℕ) : Type 0 where
  pub answer_is : answer ≡ read_answer b

-- position p's set, and the lent number before and after it
pub record IsSetTold (b : List ℕ) (p set answer set' : ℕ) : Type 0 where
  pub answer_is : answer ≡ place_answer (read_layout b) p
  pub set_is : set' ≡ told (place_answer (read_layout b) p) (set_number (lay_of (read_layout b)) p) set

-- what the holder would answer
pub record IsOfferTold (held offered : List ℕ) (answer : ℕ) : Type 0 where
  pub answer_is : answer ≡ offer_answer (read_layout held) (read_layout offered)

-- ---- the plan of a reorganise

-- the first answer that is not fine
infix 40 ◌then◌
abbrev pub ◌then◌ : ℕ → ℕ → ℕ
a then b = cond (eqb a 0) b a

-- no new range, or a count and then that many good sets
unfoldable pub fine_sets : List ℕ → Bool
fine_sets b = eqb (length b) 0 || are_sets b

-- 10: the held layout is not good; then the checks in the order of docs/RULES.md, 8.3, 15, 10, 13, 14
unfoldable pub plan_refusal : Layout → List ℕ → List ℕ → ℕ
plan_refusal held drops new = lowest (10 if not (good_value held) ∷ plan_checks (lay_of held) drops (fine_sets new) (sets_said new))

-- then 9: the new range would start at 2^40
unfoldable pub made_answer : Layout → List ℕ → List ℕ → ℕ → ℕ
made_answer held drops new edge = plan_refusal held drops new then start_answer (lay_of held) (sets_said new) edge

-- the new layout, its new range's start from the edge
unfoldable pub new_layout : Layout → List ℕ → List ℕ → ℕ → Layout
new_layout held drops new edge = value_of (planned (lay_of held) drops (sets_said new) (new_start (lay_of held) edge))

-- then 10: a buffer too short for its bytes
unfoldable pub plan_told : Layout → List ℕ → List ℕ → ℕ → List ℕ → ℕ
plan_told held drops new edge out = made_answer held drops new edge then write_answer (new_layout held drops new edge) out

-- the plan, and the lent buffer and the lent number before and after it
pub record IsPlanTold (held drops new : List ℕ) (edge : ℕ) (out : List ℕ) (written answer : ℕ) (out' : List ℕ) (written' : ℕ) : Type 0 where
  pub answer_is : answer ≡ plan_told (read_layout held) drops new edge out
  pub out_is : out' ≡ cond (eqb (plan_told (read_layout held) drops new edge out) 0) (sets out 0 (bytes_of (new_layout (read_layout held) drops new edge))) out
  pub written_is : written' ≡ told (plan_told (read_layout held) drops new edge out) (length (bytes_of (new_layout (read_layout held) drops new edge))) written
