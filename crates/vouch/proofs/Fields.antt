-- What happens in a run of the yard's rule, by the fields that its clients keep, and in the words of the history: the proofs go by these. proofs/Operations has
-- that the fields agree with the begin, and proofs/Stated leads from here to the statement of specs/.
-- Rests on specs/Runs and Demand, on the history's Words and on Carried.
use mathlib.Core.Path.{◌≡◌}
use mathlib.Core.Bool.{true}
use mathlib.Core.List.{List}
use Prim.Native.Nat.{ℕ, ◌<◌}
use Rattle.client.specs.Job.{data_page}
use Rattle.num.specs.declared.Epoch as num_epoch
use Rattle.num.specs.declared.Position.{Position}
use Rattle.layout.specs.declared.Layout.{Layout}
use Rattle.client.specs.declared.Ask.TheVariants as ask
use Rattle.client.specs.declared.UnitAsk.TheVariants as unit_ask
use Rattle.client.specs.declared.Work.{Work}
use Rattle.client.specs.declared.Work.TheVariants.{Append, Read, Fill, Trim, Prune}
use Rattle.client.specs.declared.state.Job.{Job}
use Rattle.client.specs.declared.Outcome.{Outcome}
use Rattle.client.specs.Client.{busy}
use Rattle.rule.specs.declared.Letter.{Letter}
use Rattle.rule.specs.declared.Body.TheVariants.{Asks}
use Rattle.rule.specs.declared.Step.TheVariants.{Begin}
use Rattle.rule.specs.World.{is_client, client_at}
use Rattle.rule.specs.Serve.{bytes_of, serve}
use Rattle.rule.specs.Steps.{step, answer_to}
use Rattle.history.specs.Words.{UnitNo, Pos, Epoch, Page, Answer}
use Rattle.history.specs.Words.Page.{junk, bytes}
use Rattle.history.specs.Words.Answer.{shows, trimmed, unwritten}
use Rattle.history.specs.History.{Note}
use Rattle.history.specs.History.Note.{append, fill_at, trim_at, prune_to}
use Rattle.vouch.specs.Runs.{Move, Moves, ◌≼◌, result, world}
use Rattle.vouch.specs.Runs.Moves.{◌▸◌}
use Rattle.vouch.specs.Demand as demand
use Rattle.vouch.proofs.Carried.{carried}

-- ---- asked for

-- an append asks for its first len bytes (Asking, `data_bytes`), a fill for junk at its position, a trim and a prune for themselves
pub data Wants (j : Job) : Note → Type 0 where
  wants_append : j.work ≡ Append → Wants j (append (bytes (bytes_of (data_page j.len j.bytes))))
  wants_fill : {p : Position} → j.work ≡ Fill p → Wants j (fill_at p.0)
  wants_trim : {p : Position} → j.work ≡ Trim p → Wants j (trim_at p.0)
  wants_prune : {p : Position} → j.work ≡ Prune p → Wants j (prune_to p.0)

-- among the moves ms, a begin that was not refused asked for w
pub record Asked (l : Layout) (ms : Moves) (w : Note) : Type 0 where
  pub before : Moves
  pub move : Move
  pub within : before ▸ move ≼ ms
  pub client : ℕ
  pub begins : move.does ≡ Begin client
  pub not_refused : (result (world l before) move).answer ≡ 0
  pub wants : Wants move.job w

-- ---- operations that end

-- with the move m after ms the operation of a client ends, one of this work
pub record Ends (l : Layout) (ms : Moves) (m : Move) (client : ℕ) (work : Work) : Type 0 where
  pub of_client : is_client client ≡ true
  pub was_busy : busy (client_at (world l ms) client).stage ≡ true
  pub work_is : (client_at (world l ms) client).work ≡ work
  pub who_is : (result (world l ms) m).who ≡ client

-- how it ends
abbrev pub outcome : Layout → Moves → Move → Outcome
outcome l ms m = (result (world l ms) m).outcome

-- with the move m after ms an append reports done at p; X is the page that its client carries since it began
pub record AppendDone (l : Layout) (ms : Moves) (m : Move) (p : Pos) (X : Page) : Type 0 where
  pub client : ℕ
  pub ends : Ends l ms m client Append
  pub number_is : (outcome l ms m).number ≡ 0
  pub position_is : (outcome l ms m).position.0 ≡ p
  pub page_is : carried (client_at (world l ms) client).page ≡ X

-- what the outcome of a read returns: a page, or 5, or 7
pub data Returns (o : Outcome) : Answer → Type 0 where
  returns_page : o.number ≡ 0 → Returns o (shows (carried o.page))
  returns_trimmed : o.number ≡ 5 → Returns o trimmed
  returns_unwritten : o.number ≡ 7 → Returns o unwritten

-- with the move m after ms a client's read operation of p ends, in epoch e, and returns r (a fill's look at a head is no read)
pub record ReadEnds (l : Layout) (ms : Moves) (m : Move) (p : Pos) (e : Epoch) (r : Answer) : Type 0 where
  pub client : ℕ
  pub position : Position
  pub ends : Ends l ms m client (Read position)
  pub position_is : position.0 ≡ p
  pub epoch_is : (outcome l ms m).epoch.0 ≡ e
  pub returns : Returns (outcome l ms m) r

-- ---- when a read reaches its unit

-- the statement's, of the yard's rule
abbrev pub Delivers : Layout → Moves → Move → Letter → Type 0
Delivers = demand.Delivers step

-- "A doubled read reaches it with the delivery whose answer the client took": the move m after ms takes an answer, and it is the answer that
-- the unit gave when the move m₁ after ms₁ brought it the request to read p in epoch e.
pub record Reaches (l : Layout) (ms₁ : Moves) (m₁ : Move) (ms : Moves) (m : Move) (p : Pos) (e : Epoch) : Type 0 where
  pub earlier : ms₁ ▸ m₁ ≼ ms
  pub request : Letter
  pub delivers : Delivers l ms₁ m₁ request
  pub unit : UnitNo
  pub epoch : num_epoch.Epoch
  pub position : Position
  pub asks : request.body ≡ Asks (ask.Unit unit (unit_ask.Read epoch position))
  pub epoch_is : epoch.0 ≡ e
  pub position_is : position.0 ≡ p
  pub takes : Delivers l ms m (answer_to request.stamp (serve (world l ms₁) (ask.Unit unit (unit_ask.Read epoch position)) request.page request.layout).response)

abbrev pub InForce : Layout → Moves → Epoch → Type 0
InForce = demand.InForce step

-- ---- demand 3, by them

-- among the moves ms, an append asked for those bytes, or a fill asked for junk at p
pub data PageAsked (l : Layout) (ms : Moves) (p : Pos) : Page → Type 0 where
  by_append : {bs : List ℕ} → Asked l ms (append (bytes bs)) → PageAsked l ms p (bytes bs)
  by_fill : Asked l ms (fill_at p) → PageAsked l ms p junk

-- among the moves ms, a trim of p or a prune above p was asked for
pub data CutAsked (l : Layout) (ms : Moves) (p : Pos) : Type 0 where
  by_trim : Asked l ms (trim_at p) → CutAsked l ms p
  by_prune : {q : Pos} → p < q → Asked l ms (prune_to q) → CutAsked l ms p

-- what a read of p may return once an append of X at p is done: not "unwritten", no other page, and "trimmed" only if that was asked for
pub data Rightly (l : Layout) (ms : Moves) (p : Pos) (X : Page) : Answer → Type 0 where
  that_page : Rightly l ms p X (shows X)
  trim_asked : CutAsked l ms p → Rightly l ms p X trimmed

pub record Demand3 (l : Layout) : Type 0 where
  -- Any two reads of one position that return a page return the same page,
  pub one_page : {ms ms₁ ms₂ : Moves} {m₁ m₂ : Move} {p : Pos} {e₁ e₂ : Epoch} {X Y : Page} →
      ms₁ ▸ m₁ ≼ ms → ms₂ ▸ m₂ ≼ ms → ReadEnds l ms₁ m₁ p e₁ (shows X) → ReadEnds l ms₂ m₂ p e₂ (shows Y) → X ≡ Y
  -- and one that was asked for: by an append of those bytes, or by a fill of that position.
  pub page_asked : {ms : Moves} {m : Move} {p : Pos} {e : Epoch} {X : Page} → ReadEnds l ms m p e (shows X) → PageAsked l (ms ▸ m) p X
  -- Once an append of X at p is done, a read of p under the layout in force returns X, or "trimmed" if a trim of p or a prune above p was asked for.
  pub after_done : {ms₀ ms₁ ms : Moves} {m₀ m₁ m : Move} {p : Pos} {e e' : Epoch} {X : Page} {r : Answer} →
      AppendDone l ms₀ m₀ p X → ms₀ ▸ m₀ ≼ ms₁ → Reaches l ms₁ m₁ ms m p e → InForce l ms₁ e → ReadEnds l ms m p e' r → Rightly l ms₁ p X r
