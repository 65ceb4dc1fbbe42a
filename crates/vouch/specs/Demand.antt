-- Demand 3, of any step function: whatever moves are made from a fresh yard. `proofs/Stated` proves it of the yard's rule (`demand_3`), and proofs/Shams that it is
-- not so of steps that look much like the rule's (docs/RULES.md, 11).
-- Rests on Runs, Operations and Pages.
use Rattle.std.specs.Prelude.{◌≡◌, Bool, true, ℕ, ◌-◌, ◌<◌, length}
use Rattle.num.specs.declared.Epoch.{Epoch}
use Rattle.num.specs.declared.Position.{Position}
use Rattle.layout.specs.declared.Layout.{Layout}
use Rattle.client.specs.declared.Ask.TheVariants as ask
use Rattle.client.specs.declared.UnitAsk.TheVariants as unit_ask
use Rattle.client.specs.declared.Page.{Page}
use Rattle.client.specs.declared.Work.TheVariants.{Append, Read, Fill, Trim, Prune}
use Rattle.client.specs.declared.state.Job.{Job}
use Rattle.client.specs.declared.Outcome.{Outcome}
use Rattle.rule.specs.declared.Letter.{Letter}
use Rattle.rule.specs.declared.Body.TheVariants.{Asks}
use Rattle.rule.specs.declared.Step.TheVariants.{Deliver, GiveUp}
use Rattle.rule.specs.World.{World, is_client, letter_at}
use Rattle.vouch.specs.Runs.{Move, Moves, ◌≼◌, Stepping, world_by}
use Rattle.vouch.specs.Runs.Moves.{◌▸◌}
use Rattle.vouch.specs.Operations.{done, outcome, UnderWay, Ends, Asked}
use Rattle.vouch.specs.Pages.{junk_page, job_page, IsPage}

-- the letter that came last: "a new letter goes to the end"
abbrev pub last_letter : World → Letter
last_letter w = letter_at w (length w.letters - 1)

-- what a unit answers to a read: a page, "sealed", "trimmed" or "unwritten"
pub data UnitSays : ℕ → Type 0 where
  says_page : UnitSays 0
  says_sealed : UnitSays 4
  says_trimmed : UnitSays 5
  says_unwritten : UnitSays 7

module _ (f : Stepping) (l : Layout) where
  -- ---- appends and reads

  -- with the move m after ms an append reports done at p; X is the page of its job
  pub record AppendDone (ms : Moves) (m : Move) (p : ℕ) (X : Page) : Type 0 where
    pub client : ℕ
    pub job : Job
    pub ends : Ends f l ms m client job
    pub for_append : job.work ≡ Append
    pub number_is : (outcome f l ms m).number ≡ 0
    pub position_is : (outcome f l ms m).position.0 ≡ p
    pub page_is : job_page job ≡ X

  -- with the move m after ms a client's read of p ends, with any number (a fill's look at a head is no read)
  pub record ReadEnds (ms : Moves) (m : Move) (p : ℕ) : Type 0 where
    pub client : ℕ
    pub job : Job
    pub ends : Ends f l ms m client job
    pub position : Position
    pub is_read : job.work ≡ Read position
    pub position_is : position.0 ≡ p

  -- ---- asked for

  -- among the moves ms, an append of X was asked for, or a fill of p, and X is junk
  pub data PageAsked (ms : Moves) (p : ℕ) (X : Page) : Type 0 where
    by_append : {j : Job} → Asked f l ms j → j.work ≡ Append → job_page j ≡ X → PageAsked ms p X
    by_fill : {j : Job} {q : Position} → Asked f l ms j → j.work ≡ Fill q → q.0 ≡ p → junk_page ≡ X → PageAsked ms p X

  -- among the moves ms, a trim of p or a prune above p was asked for
  pub data CutAsked (ms : Moves) (p : ℕ) : Type 0 where
    by_trim : {j : Job} {q : Position} → Asked f l ms j → j.work ≡ Trim q → q.0 ≡ p → CutAsked ms p
    by_prune : {j : Job} {q : Position} → Asked f l ms j → j.work ≡ Prune q → p < q.0 → CutAsked ms p

  -- ---- when a read reaches its unit

  -- the move m after ms delivers this letter, and is not refused
  pub record Delivers (ms : Moves) (m : Move) (letter : Letter) : Type 0 where
    pub place : ℕ
    pub keep : Bool
    pub keep_answer : Bool
    pub is_delivery : m.does ≡ Deliver place keep keep_answer
    pub letter_is : letter_at (world_by f l ms) place ≡ letter
    pub not_refused : (done f l ms m).answer ≡ 0

  -- "A doubled read reaches it with the delivery whose answer the client took": the move m₁ after ms₁ brings a unit the request to read p in epoch e, and its answer,
  -- which is kept, is the letter that the move m after ms delivers.
  pub record Reaches (ms₁ : Moves) (m₁ : Move) (ms : Moves) (m : Move) (p : ℕ) (e : ℕ) : Type 0 where
    pub earlier : ms₁ ▸ m₁ ≼ ms
    pub request : Letter
    pub brings : Delivers ms₁ m₁ request
    pub unit : ℕ
    pub epoch : Epoch
    pub position : Position
    pub asks : request.body ≡ Asks (ask.Unit unit (unit_ask.Read epoch position))
    pub epoch_is : epoch.0 ≡ e
    pub position_is : position.0 ≡ p
    pub answer_kept : brings.keep_answer ≡ true
    pub takes : Delivers ms m (last_letter (world_by f l (ms₁ ▸ m₁)))

  -- "the read's epoch is the holder's when the read reaches the unit"
  abbrev pub InForce : Moves → ℕ → Type 0
  InForce ms e = (world_by f l ms).held.epoch.0 ≡ e

  -- ---- how an operation that reads p may end

  -- it reached a unit, while it was under way
  pub record Reached (ms : Moves) (m : Move) (c : ℕ) (j : Job) (p : ℕ) (e : ℕ) : Type 0 where
    pub before : Moves
    pub move : Move
    pub reaches : Reaches before move ms m p e
    pub under_way : UnderWay f l c j before

  -- with what a unit answered that it reached, at the outcome's position and in its epoch; with no number left to send; or told to give up
  pub data ReadOver (ms : Moves) (m : Move) (c : ℕ) (j : Job) (p : ℕ) (o : Outcome) : Type 0 where
    by_answer : UnitSays o.number → o.position.0 ≡ p → Reached ms m c j p o.epoch.0 → ReadOver ms m c j p o
    by_number : o.number ≡ 19 → ReadOver ms m c j p o
    by_give_up : m.does ≡ GiveUp c → o.number ≡ 20 → ReadOver ms m c j p o

  -- once an append of X at p is done: with that page, or with "trimmed" if that was asked for
  pub data Rightly (ms : Moves) (p : ℕ) (X : Page) (o : Outcome) : Type 0 where
    that_page : o.number ≡ 0 → o.page ≡ X → Rightly ms p X o
    trim_asked : o.number ≡ 5 → CutAsked ms p → Rightly ms p X o

  -- or with "sealed", where a reorganise has sealed the unit
  pub data OrSealed (ms : Moves) (p : ℕ) (X : Page) (o : Outcome) : Type 0 where
    not_sealed : Rightly ms p X o → OrSealed ms p X o
    was_sealed : o.number ≡ 4 → OrSealed ms p X o

-- an operation of client c, known by its begin, ends with the move m after ms
pub record Known (f : Stepping) (l : Layout) (ms : Moves) (m : Move) (c : ℕ) : Type 0 where
  pub job : Job
  pub ends : Ends f l ms m c job

-- cap: the bytes that a unit of the yard's shape holds at a position
pub record Demand3 (f : Stepping) (cap : ℕ) (l : Layout) : Type 0 where
  -- What ends is an operation that was begun.
  pub end_known : {ms : Moves} {m : Move} {c : ℕ} → is_client c ≡ true → (done f l ms m).who ≡ c → Known f l ms m c
  -- A read ends with a page, 4, 5 or 7 that a unit answered which it reached since it was begun, with 19 or with 20: with no other number.
  pub read_over : {ms : Moves} {m : Move} {p : ℕ} (read : ReadEnds f l ms m p) → ReadOver f l ms m read.client read.job p (outcome f l ms m)
  -- What it returns with 0 is a page of the yard: kind 1 with at most cap bytes, or kind 2 with none. So is what an append reports done.
  pub read_page : {ms : Moves} {m : Move} {p : ℕ} → ReadEnds f l ms m p → (outcome f l ms m).number ≡ 0 → IsPage cap (outcome f l ms m).page
  pub append_page : {ms : Moves} {m : Move} {p : ℕ} {X : Page} → AppendDone f l ms m p X → IsPage cap X
  -- Any two reads of one position that return a page return the same page,
  pub one_page : {ms₁ ms₂ ms : Moves} {m₁ m₂ : Move} {p : ℕ} → ms₁ ▸ m₁ ≼ ms → ms₂ ▸ m₂ ≼ ms → ReadEnds f l ms₁ m₁ p → ReadEnds f l ms₂ m₂ p →
      (outcome f l ms₁ m₁).number ≡ 0 → (outcome f l ms₂ m₂).number ≡ 0 → (outcome f l ms₁ m₁).page ≡ (outcome f l ms₂ m₂).page
  -- and one that was asked for: by an append of it, or, where it is junk, by a fill of that position.
  pub page_asked : {ms : Moves} {m : Move} {p : ℕ} → ReadEnds f l ms m p → (outcome f l ms m).number ≡ 0 → PageAsked f l (ms ▸ m) p (outcome f l ms m).page
  -- Once an append of X at p is done, a read of p under the layout in force ends with X, with "trimmed" if a trim of p or a prune above p was asked for, or with 4:
  -- with no other number.
  pub after_done : {ms₀ ms₁ ms : Moves} {m₀ m₁ m : Move} {p : ℕ} {e : ℕ} {X : Page} →
      AppendDone f l ms₀ m₀ p X → ms₀ ▸ m₀ ≼ ms₁ → Reaches f l ms₁ m₁ ms m p e → InForce f l ms₁ e → ReadEnds f l ms m p → OrSealed f l ms₁ p X (outcome f l ms m)
