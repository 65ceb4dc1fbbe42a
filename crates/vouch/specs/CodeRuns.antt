-- Runs of the code: `fresh` answered 0, then each move was one call of `step`; both are known by their promises alone. Demand 3 is said of such runs, its last sentence
-- included. `proofs/CodeRuns` proves it (`of_code`).
-- Rests on the yard's promises (IsMade, IsStep) and on Shapes. `Made` and `Stepped` say what the functions' results are to the rules: `made_in`, `stepped_in`.
use Rattle.std.specs.Prelude.{◌≡◌, List, [], ◌∷◌, ℕ}
use Rattle.num.specs.declared.Position.{Position}
use Rattle.layout.specs.declared.Layout.{Layout}
use Rattle.unit.specs.declared.shape.Shape.{Shape}
use Rattle.sequencer.specs.declared.Sequencer.{Sequencer}
use Rattle.rule.specs.declared.Letter.{Letter}
use Rattle.rule.specs.Stepped.{Stepped}
use Rattle.client.specs.declared.Page.{Page}
use Rattle.client.specs.declared.state.Job.{Job}
use Rattle.rule.specs.Steps.{Done, step}
use Rattle.rule.specs.Lent.{Lent, IsStep, lent_number, seen}
use Rattle.rule.specs.Fresh.{Made, IsMade}
use Rattle.vouch.specs.Runs.{Move, Moves, ◌≼◌, result, world}
use Rattle.vouch.specs.Runs.Moves.{none, ◌▸◌}
use Rattle.vouch.specs.Demand.{AppendDone}
use Rattle.vouch.specs.LastSentence.{Conditions, DropsStopped, Again, reorganising, reading}
use Rattle.vouch.specs.Shapes.{Vouched}

-- ---- calls

-- `fresh` was called with the layout l over whatever was lent, and answered 0; b: the yard that it handed back, and what was lent as it left it
pub record Making (l : Layout) (b : Lent) : Type 0 where
  pub sequencer : Sequencer
  pub table : List Letter
  pub memories : List ℕ
  pub handed : Made
  pub promise : IsMade l sequencer table memories handed b.sequencer b.table b.memories
  pub fine : handed.answer ≡ 0
  pub yard_is : b.yard ≡ handed.yard

-- `step` was called with the move m over b, and handed back r; b': the yard in r, and what was lent as it left it
pub record Call (b : Lent) (m : Move) (r : Stepped) (b' : Lent) : Type 0 where
  pub promise : IsStep b m.does m.job r b'.sequencer b'.table b'.memories
  pub yard_is : b'.yard ≡ r.yard

-- a run: the moves made since `fresh`, what the calls that made them handed back, the latest first, and what is lent to the next
pub data Ran (l : Layout) : Moves → List Stepped → Lent → Type 0 where
  made : {b : Lent} → Making l b → Ran l none [] b
  went : {ms : Moves} {rs : List Stepped} {b b' : Lent} {m : Move} {r : Stepped} → Ran l ms rs b → Call b m r b' → Ran l (ms ▸ m) (r ∷ rs) b'

-- calls one after another with no other between, and what they hand back
pub data Calls : Lent → List Move → List Stepped → Lent → Type 0 where
  no_more : {b : Lent} → Calls b [] [] b
  then : {b b₁ b₂ : Lent} {m : Move} {ms : List Move} {r : Stepped} {rs : List Stepped} → Call b m r b₁ → Calls b₁ ms rs b₂ → Calls b (m ∷ ms) (r ∷ rs) b₂

-- ---- what they tell

-- what a call hands back is what the rule says: its answer, whose operation it ends and how
pub record Tells (r : Stepped) (d : Done) : Type 0 where
  pub answer_is : r.answer ≡ d.answer
  pub who_is : r.who ≡ d.who
  pub outcome_is : r.outcome ≡ d.outcome

-- each call of a run tells what the rule says of its move
pub data AllTell (l : Layout) : Moves → List Stepped → Type 0 where
  none_yet : AllTell l none []
  one_more : {ms : Moves} {rs : List Stepped} {m : Move} {r : Stepped} → AllTell l ms rs → Tells r (result (world l ms) m) → AllTell l (ms ▸ m) (r ∷ rs)

-- every call answers 0, and no operation ends before the last of them, which tells d
pub data Ended (d : Done) : List Stepped → Type 0 where
  at_last : {r : Stepped} → r.answer ≡ 0 → Tells r d → Ended d (r ∷ [])
  later : {r : Stepped} {rs : List Stepped} → r.answer ≡ 0 → r.who ≡ 0 → Ended d rs → Ended d (r ∷ rs)

-- whatever calls of these moves are made over b, they end with d and leave its yard
pub record Comes (b : Lent) (moves : List Move) (d : Done) : Type 0 where
  pub tells : {rs : List Stepped} {b' : Lent} → Calls b moves rs b' → Ended d rs
  pub leaves : {rs : List Stepped} {b' : Lent} → Calls b moves rs b' → seen b' ≡ d.world

-- "one undisturbed reorganise that drops the stopped ones makes the page answerable again": the reorganise's calls over b, and then the read's, come to what `Again` says
pub record AgainCalled (l : Layout) (ms : Moves) (b : Lent) (c : ℕ) (j : Job) (p : Position) (X : Page) : Type 0 where
  pub again : Again step l ms c j p X
  pub reorganise_comes : Comes b (reorganising (seen b) c j) again.answerable.reorganised.done
  pub read_comes : {rs : List Stepped} {b₁ : Lent} → Calls b (reorganising (seen b) c j) rs b₁ → Comes b₁ (reading (seen b₁) c p) again.answerable.was_read

-- ---- demand 3 of a run of the code, in a yard of shape sh

pub record OfCode (sh : Shape) (l : Layout) (ms : Moves) (rs : List Stepped) (b : Lent) : Type 0 where
  -- demand 3 holds of its moves, and what the calls handed back is what it speaks of
  pub vouched : Vouched sh l
  pub all_tell : AllTell l ms rs
  -- the next call is not refused for what it is lent, finds the run's yard there, and tells what the rule says of its move too
  pub not_refused : lent_number b ≡ 0
  pub seen_is : seen b ≡ world l ms
  pub next_tells : {m : Move} {r : Stepped} {b' : Lent} → Call b m r b' → Tells r (result (world l ms) m)
  -- and the last sentence holds of the calls
  pub answerable_again : {ms₀ : Moves} {m₀ : Move} {c : ℕ} {j : Job} {p : Position} {X : Page} → AppendDone step l ms₀ m₀ p.0 X → (ms₀ ▸ m₀) ≼ ms → Conditions (seen b) c → DropsStopped (seen b) j → AgainCalled l ms b c j p X
