-- Demand 3's last sentence: "If each set still has a working unit, one undisturbed reorganise that drops the stopped ones makes the page answerable again." (docs/RULES.md, 11)
use Rattle.std.specs.Prelude.{ℕ, zero, suc, ◌+◌, ◌≤◌, ◌<◌, max, ◌≡◌, Bool, true, false, not, cond, List, [], ◌∷◌, eqb, length, get_or}
use Rattle.num.specs.Limits.{last_epoch}
use Rattle.num.specs.declared.Position.{Position}
use Rattle.layout.specs.declared.Layout.{Layout}
use Rattle.layout.specs.Lay.{Lay, ◌in?◌, units_of}
use Rattle.layout.specs.Value.{lay_of}
use Rattle.layout.specs.Places.{set_at, tail_of}
use Rattle.layout.specs.Plan.{planned}
use Rattle.unit.specs.State.{written_edge}
use Rattle.unit.specs.Unit.{Request, says, report}
use Rattle.unit.specs.Unit.Request.{read}
use Rattle.client.specs.declared.Page.{Page}
use Rattle.client.specs.declared.Work.TheVariants.{Append, Read, Reorganise}
use Rattle.client.specs.declared.Stage.TheVariants.{Idle}
use Rattle.client.specs.declared.state.Job.{Job}
use Rattle.client.specs.declared.Outcome.{Outcome}
use Rattle.client.specs.Message.{no_page}
use Rattle.client.specs.Client.{job_of, drop_limit, last_number}
use Rattle.client.specs.Way.{drops_of}
use Rattle.rule.specs.declared.Step.TheVariants.{Begin, Deliver}
use Rattle.rule.specs.World.{World, shape_under, is_client, is_unit, running, client_at, unit_at}
use Rattle.rule.specs.Serve.{page_of}
use Rattle.rule.specs.Steps.{Done}
use Rattle.vouch.specs.Runs.{Move, Moves, ◌≼◌, Stepping, result_by, world_by}
use Rattle.vouch.specs.Runs.Moves.{◌▸◌}
use Rattle.vouch.specs.Demand.{AppendDone, Rightly}

-- ---- a run of steps with no other between

-- the moves one after another, each answered with 0; no operation ends before the last of them, which comes to d
pub data Goes (f : Stepping) : World → List Move → Done → Type 0 where
  ends : {w : World} {m : Move} → (result_by f w m).answer ≡ 0 → Goes f w (m ∷ []) (result_by f w m)
  goes : {w : World} {m : Move} {ms : List Move} {d : Done} → (result_by f w m).answer ≡ 0 → (result_by f w m).who ≡ 0 → Goes f (result_by f w m).world ms d → Goes f w (m ∷ ms) d

abbrev pub begin : ℕ → Job → Move
begin c j = record { does = Begin c; job = j }

-- the letter at place k is delivered once and dropped; where it is a request, its answer is kept
abbrev pub deliver : ℕ → Move
deliver k = record { does = Deliver k false true; job = job_of Append }

-- n requests, each delivered once and dropped, as is its answer: both lie at place k, behind the letters that were there before
unfoldable pub exchanges : ℕ → ℕ → List Move
exchanges zero k = []
exchanges (suc n) k = deliver k ∷ deliver k ∷ exchanges n k

-- ---- the reorganise that drops the stopped units, and a read

-- those of the units from u on that have stopped
unfoldable pub stopped_from : ℕ → List Bool → List ℕ
stopped_from u [] = []
stopped_from u (b ∷ bs) = cond b (u ∷ stopped_from (suc u) bs) (stopped_from (suc u) bs)

abbrev pub stopped_units : World → List ℕ
stopped_units w = stopped_from 1 w.stopped

-- the new layout: epoch plus 1, the stopped units gone from every set
abbrev pub new_layout : World → Lay
new_layout w = planned (lay_of w.held) (stopped_units w) [] 0

-- n, the units in the new layout
abbrev pub unit_count : World → ℕ
unit_count w = length (units_of (new_layout w).sets)

-- n + 3 requests; j, what the reorganise is asked
abbrev pub reorganising : World → ℕ → Job → List Move
reorganising w c j = begin c j ∷ exchanges (unit_count w + 3) (length w.letters)

-- two requests
abbrev pub reading : World → ℕ → Position → List Move
reading w c p = begin c (job_of (Read p)) ∷ exchanges 2 (length w.letters)

-- ---- the conditions

pub record WorkingUnit (stopped : List Bool) (us : List ℕ) : Type 0 where
  pub unit : ℕ
  pub inside : (unit in? us) ≡ true
  pub works : running stopped unit ≡ true

-- "drops the stopped ones": a list of up to 8 units from 1 to 8, in any order, with repeats, that names of the layout's units those that have stopped and no other;
-- what it names besides is not in the layout
pub record DropsStopped (w : World) (j : Job) : Type 0 where
  pub is_reorganise : j.work ≡ Reorganise
  pub drops_few : j.change.count ≤ drop_limit
  pub drops_within : (u : ℕ) → (u in? drops_of j.change) ≡ true → is_unit u ≡ true
  pub drops_are : (u : ℕ) → (u in? units_of (lay_of w.held).sets) ≡ true → (u in? drops_of j.change) ≡ not (running w.stopped u)
  -- "no new range is asked"
  pub without_range : j.change.wish.count ≡ 0

-- client c reorganises
pub record Conditions (w : World) (c : ℕ) : Type 0 where
  pub of_client : is_client c ≡ true
  -- "the client is idle"
  pub is_idle : (client_at w c).stage ≡ Idle
  -- "at most 31 letters lie in the bag"
  pub few_letters : length w.letters ≤ 31
  -- "n + 5 of its numbers are unused"
  pub numbers_left : (client_at w c).used.0 + (unit_count w + 5) ≤ last_number
  -- "the held epoch is below 2^32 - 1"
  pub epoch_left : w.held.epoch.0 < last_epoch
  -- "each set still has a working unit"
  pub set_works : (k : ℕ) → k < length (lay_of w.held).sets → WorkingUnit w.stopped (get_or (lay_of w.held).sets k [])

-- ---- what comes of it

-- the tail of p's set in the new layout
abbrev pub tail_in : World → ℕ → ℕ
tail_in w p = tail_of (set_at (new_layout w) p)

-- a read of p with the new epoch
abbrev pub tail_asked : World → ℕ → Request
tail_asked w p = read (record { 0 = (new_layout w).epoch }) (record { 0 = p })

-- What the tail has at p, as it was before the reorganise: its answer to a read with the new epoch,
abbrev pub tail_says : World → ℕ → ℕ
tail_says w p = says (shape_under w.held) (unit_at w (tail_in w p)) (tail_asked w p)

-- and its page, none unless the answer is 0.
abbrev pub tail_shows : World → ℕ → Page
tail_shows w p = cond (eqb (tail_says w p) 0) (page_of (report (shape_under w.held) (unit_at w (tail_in w p)) (tail_asked w p)).page) no_page

-- a page, trimmed or unwritten: no other answer
pub data Answering : ℕ → Type 0 where
  page : Answering 0
  trimmed : Answering 5
  unwritten : Answering 7

-- the outcome of a read of p says what the tail has there
pub record ReadsTail (w : World) (p : Position) (o : Outcome) : Type 0 where
  pub answers : Answering o.number
  pub number_is : o.number ≡ tail_says w p.0
  pub page_is : o.page ≡ tail_shows w p.0
  pub position_is : o.position ≡ p
  pub epoch_is : o.epoch.0 ≡ (new_layout w).epoch

-- the largest written edge of these units of a yard
unfoldable pub largest_written : World → List ℕ → ℕ
largest_written w [] = 0
largest_written w (u ∷ us) = max (written_edge (unit_at w u)) (largest_written w us)

-- The reorganise ends in done, with the new layout in force and the sequencer's count at the largest written edge of its units.
pub record Reorganised (f : Stepping) (w : World) (c : ℕ) (j : Job) : Type 0 where
  pub done : Done
  pub goes : Goes f w (reorganising w c j) done
  pub ends : done.who ≡ c
  pub fine : done.outcome.number ≡ 0
  pub in_force : lay_of done.world.held ≡ new_layout w
  pub counts_on : done.world.sequencer.next.0 ≡ largest_written done.world (units_of (lay_of done.world.held).sets)

-- A read after it ends in what the tail has.
pub record Answerable (f : Stepping) (w : World) (c : ℕ) (j : Job) (p : Position) : Type 0 where
  pub reorganised : Reorganised f w c j
  pub was_read : Done
  pub read_goes : Goes f reorganised.done.world (reading reorganised.done.world c p) was_read
  pub read_ends : was_read.who ≡ c
  pub read_tells : ReadsTail w p was_read.outcome

-- ---- the page is answerable again

infixl 20 ◌▸▸◌
-- the moves ms, then these
unfoldable pub ◌▸▸◌ : Moves → List Move → Moves
ms ▸▸ [] = ms
ms ▸▸ (m ∷ rest) = (ms ▸ m) ▸▸ rest

-- Where an append of X at p is done among the moves ms: the read ends with X, or with "trimmed" if a trim of p or a prune above p was asked for.
pub record Again (f : Stepping) (l : Layout) (ms : Moves) (c : ℕ) (j : Job) (p : Position) (X : Page) : Type 0 where
  pub answerable : Answerable f (world_by f l ms) c j p
  pub rightly : Rightly f l (ms ▸▸ reorganising (world_by f l ms) c j ▸▸ reading answerable.reorganised.done.world c p) p.0 X answerable.was_read.outcome

-- the last sentence of demand 3, of any step function; the first field, whatever was appended
pub record LastSentence (f : Stepping) (l : Layout) : Type 0 where
  pub reorganises : (ms : Moves) {c : ℕ} {j : Job} → Conditions (world_by f l ms) c → DropsStopped (world_by f l ms) j → Reorganised f (world_by f l ms) c j
  pub answerable_again : {ms₀ ms : Moves} {m₀ : Move} {c : ℕ} {j : Job} {p : Position} {X : Page} → AppendDone f l ms₀ m₀ p.0 X → (ms₀ ▸ m₀) ≼ ms →
      Conditions (world_by f l ms) c → DropsStopped (world_by f l ms) j → Again f l ms c j p X
