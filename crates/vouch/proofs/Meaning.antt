-- What a letter and a waiting client vouch for: facts of the history that no later event undoes (proofs/Lasting).
-- Rests on UnitIs, Offers and specs/Runs.
use mathlib.Core.Path.{◌≡◌}
use mathlib.Core.Bool.{true}
use Prim.Native.Nat.{ℕ, ◌≤◌, ◌<◌}
use Rattle.num.specs.declared.Edges.{Edges}
use Rattle.num.specs.Limits.{limit, last_epoch}
use Rattle.num.specs.declared.Epoch.{Epoch as EpochValue}
use Rattle.num.specs.declared.Position.{Position}
use Rattle.layout.specs.declared.Layout.{Layout}
use Rattle.layout.specs.Value.{lay_of, good_value, blank}
use Rattle.layout.specs.Places.{set_at}
use Rattle.client.specs.declared.Page.{Page as PageValue}
use Rattle.client.specs.declared.Ask.{Ask}
use Rattle.client.specs.declared.UnitAsk.TheVariants.{Write, Read, Trim, Prune, Seal}
use Rattle.client.specs.declared.Ask.TheVariants.{Fetch, Token, Offer, Start}
use Rattle.client.specs.declared.Ask.TheVariants as ask
use Rattle.client.specs.declared.Reply.TheVariants.{Held, Fine, Shown, Edged, Refused}
use Rattle.client.specs.declared.Response.{Response}
use Rattle.client.specs.declared.Work.{Work}
use Rattle.client.specs.declared.Work.TheVariants as work
use Rattle.client.specs.declared.Stage.{Stage}
use Rattle.client.specs.declared.Phase.{Phase}
use Rattle.client.specs.declared.Phase.TheVariants.{Drawing, Writing, Reading, Filling, Looking, Trimming, Pruning, Sealing, Offering, Starting}
use Rattle.client.specs.declared.Stage.TheVariants.{Idle, Fetching, Working}
use Rattle.client.specs.declared.Client.{Client}
use Rattle.client.specs.declared.Outcome.{Outcome}
use Rattle.client.specs.Message.{no_page}
use Rattle.client.specs.declared.Change.{Change}
use Rattle.client.specs.Way.{drops_of}
use Rattle.layout.specs.Plan.{planned_for}
use Rattle.rule.specs.Serve.{bare}
use Rattle.history.specs.Words.{UnitNo, Pos, Epoch, Page, Answer, Before, Last}
use Rattle.history.specs.Words.Answer.{shows, trimmed, unwritten}
use Rattle.history.specs.Maps.{Map, Has, Serves}
use Rattle.history.specs.History.{History, ◌⊑◌, Noted, MarkNoted, Laid, Mark, MarkedBy, held}
use Rattle.history.specs.History.Note.{append, trim_at, prune_to}
use Rattle.history.specs.History.Stretch.{only, up_to}
use Rattle.history.specs.History.Mark.{page, gone}
use Rattle.history.specs.Events.{Takes, Walked}
use Rattle.history.specs.Edges.{SealedAt, EdgeAt}
use Rattle.history.specs.Safety.{Answers, Settled, Read as ReadAt}
use Rattle.vouch.proofs.Layouts.{map_of}
use Rattle.vouch.proofs.Carried.{carried}
use Rattle.vouch.proofs.Fields.{Returns}
use Rattle.vouch.proofs.Offers.{OfferOk}

-- ---- what a request vouches for (a write, a trim and a prune: `Walked` of the history)

-- a read, or a fill's look at a head
pub record LookOk (h : History) (u : UnitNo) (e : Epoch) (p : Pos) : Type 0 where
  pub by : Map
  pub laid : Laid h by
  pub epoch_is : by.epoch ≡ e
  pub serves : Serves by p u

-- the request, with the page and the layout that its letter bears
pub data AskOk (h : History) : Ask → PageValue → Layout → Type 0 where
  fetch_ok : {g : PageValue} {k : Layout} → AskOk h Fetch g k
  token_ok : {e : EpochValue} {g : PageValue} {k : Layout} → AskOk h (Token e) g k
  write_ok : {u : UnitNo} {e : EpochValue} {p : Position} {g : PageValue} {k : Layout} → Walked h u e.0 (only p.0) (page (carried g)) → AskOk h (ask.Unit u (Write e p)) g k
  look_ok : {u : UnitNo} {e : EpochValue} {p : Position} {g : PageValue} {k : Layout} → LookOk h u e.0 p.0 → AskOk h (ask.Unit u (Read e p)) g k
  trim_ok : {u : UnitNo} {e : EpochValue} {p : Position} {g : PageValue} {k : Layout} → Walked h u e.0 (only p.0) gone → AskOk h (ask.Unit u (Trim e p)) g k
  prune_ok : {u : UnitNo} {e : EpochValue} {p : Position} {g : PageValue} {k : Layout} → Walked h u e.0 (up_to p.0) gone → AskOk h (ask.Unit u (Prune e p)) g k
  seal_ok : {u : UnitNo} {e : EpochValue} {g : PageValue} {k : Layout} → e.0 ≤ (held h).epoch → e.0 ≤ last_epoch → AskOk h (ask.Unit u (Seal e)) g k
  offer_ok : {g : PageValue} {k : Layout} → OfferOk h k → AskOk h Offer g k
  start_ok : {e : EpochValue} {p : Position} {g : PageValue} {k : Layout} → e.0 ≤ (held h).epoch → AskOk h (Start e p) g k

-- ---- what an answer vouches for

-- at some moment up to now, u took a read of p by a layout of epoch e, and answered r
pub record Saw (h : History) (u : UnitNo) (e : Epoch) (p : Pos) (r : Answer) : Type 0 where
  pub moment : History
  pub past : moment ⊑ h
  pub by : Map
  pub epoch_is : by.epoch ≡ e
  pub takes : Takes moment u by
  pub answers : Answers moment u p r

-- "written" at a unit that is not the first of the set: it has that very page
pub record WrittenBefore (h : History) (u : UnitNo) (e : Epoch) (p : Pos) (X : Page) : Type 0 where
  pub by : Map
  pub laid : Laid h by
  pub epoch_is : by.epoch ≡ e
  pub has_it : (v : UnitNo) → Before v u (by.set p) → MarkedBy h u p (page X) e

-- a token and a start vouch for nothing: positions are hints
pub data Means (h : History) : Ask → PageValue → Layout → Response → Type 0 where
  means_held : {g : PageValue} {k l : Layout} → Laid h (map_of (lay_of l)) → good_value l ≡ true → Means h Fetch g k (record { reply = Held; page = no_page; layout = l })
  means_token : {e : EpochValue} {g : PageValue} {k : Layout} {r : Response} → Means h (Token e) g k r
  means_wrote : {u : UnitNo} {e : EpochValue} {p : Position} {g : PageValue} {k : Layout} → MarkedBy h u p.0 (page (carried g)) e.0 → Means h (ask.Unit u (Write e p)) g k (bare Fine)
  means_written : {u : UnitNo} {e : EpochValue} {p : Position} {g : PageValue} {k : Layout} →
      WrittenBefore h u e.0 p.0 (carried g) → Means h (ask.Unit u (Write e p)) g k (bare (Refused 6))
  means_no_write : {u : UnitNo} {e : EpochValue} {p : Position} {g : PageValue} {k : Layout} {n : ℕ} → ¬ (n ≡ 6) → Means h (ask.Unit u (Write e p)) g k (bare (Refused n))
  means_shown : {u : UnitNo} {e : EpochValue} {p : Position} {g x : PageValue} {k : Layout} →
      Saw h u e.0 p.0 (shows (carried x)) → Means h (ask.Unit u (Read e p)) g k (record { reply = Shown; page = x; layout = blank })
  means_trimmed : {u : UnitNo} {e : EpochValue} {p : Position} {g : PageValue} {k : Layout} → Saw h u e.0 p.0 trimmed → Means h (ask.Unit u (Read e p)) g k (bare (Refused 5))
  means_unwritten : {u : UnitNo} {e : EpochValue} {p : Position} {g : PageValue} {k : Layout} → Saw h u e.0 p.0 unwritten → Means h (ask.Unit u (Read e p)) g k (bare (Refused 7))
  means_no_read : {u : UnitNo} {e : EpochValue} {p : Position} {g : PageValue} {k : Layout} {n : ℕ} →
      ¬ (n ≡ 0) → ¬ (n ≡ 5) → ¬ (n ≡ 7) → Means h (ask.Unit u (Read e p)) g k (bare (Refused n))
  means_cut : {u : UnitNo} {e : EpochValue} {p : Position} {g : PageValue} {k : Layout} → MarkedBy h u p.0 gone e.0 → Means h (ask.Unit u (Trim e p)) g k (bare Fine)
  means_no_cut : {u : UnitNo} {e : EpochValue} {p : Position} {g : PageValue} {k : Layout} {n : ℕ} → Means h (ask.Unit u (Trim e p)) g k (bare (Refused n))
  means_pruned : {u : UnitNo} {e : EpochValue} {q : Position} {g : PageValue} {k : Layout} →
      ((p : Pos) → p < q.0 → MarkedBy h u p gone e.0) → Means h (ask.Unit u (Prune e q)) g k (bare Fine)
  means_no_prune : {u : UnitNo} {e : EpochValue} {q : Position} {g : PageValue} {k : Layout} {n : ℕ} → Means h (ask.Unit u (Prune e q)) g k (bare (Refused n))
  means_edges : {u : UnitNo} {e : EpochValue} {x : Edges} {g : PageValue} {k : Layout} → SealedAt h u e.0 → EdgeAt h u e.0 x.edge.0 → Means h (ask.Unit u (Seal e)) g k (bare (Edged x))
  means_no_seal : {u : UnitNo} {e : EpochValue} {g : PageValue} {k : Layout} {n : ℕ} → Means h (ask.Unit u (Seal e)) g k (bare (Refused n))
  means_installed : {g : PageValue} {k : Layout} → k.epoch.0 ≤ (held h).epoch → Means h Offer g k (bare Fine)
  means_no_install : {g : PageValue} {k : Layout} {n : ℕ} → Means h Offer g k (bare (Refused n))
  means_start : {e : EpochValue} {p : Position} {g : PageValue} {k : Layout} {r : Response} → Means h (Start e p) g k r

-- ---- what a waiting client vouches for

-- what its work asked for; g is the page that it carries, p the position under way
abbrev pub WorkOk : History → Work → Position → PageValue → Type 0
WorkOk h work.Append p g = Noted h (append (carried g))
WorkOk h (work.Read q) p g = (p ≡ q) × (p.0 < limit)
WorkOk h (work.Fill q) p g = MarkNoted h p.0 (page (carried g)) × (p.0 < limit)
WorkOk h (work.Trim q) p g = Noted h (trim_at p.0) × (p.0 < limit)
WorkOk h (work.Prune q) p g = Noted h (prune_to p.0)
WorkOk h work.Reorganise p g = Unit {0}

-- the layout it goes by was in force at some time
pub record Fetched (h : History) (l : Layout) : Type 0 where
  pub laid : Laid h (map_of (lay_of l))
  pub is_good_lem : good_value l ≡ true

-- a walk along p's set has come to u: every unit of the set before u has the mark
pub record Walking (h : History) (l : Layout) (p : Pos) (u : UnitNo) (m : Mark) : Type 0 where
  pub fetched : Fetched h l
  pub low : p < limit
  pub serves : Serves (map_of (lay_of l)) p u
  pub behind : (v : UnitNo) → Serves (map_of (lay_of l)) p v → v < u → MarkedBy h v p m l.epoch.0

pub record DrawingOk (h : History) (w : Work) (l : Layout) (X : Page) : Type 0 where
  pub for_append : w ≡ work.Append
  pub fetched : Fetched h l
  pub asked : Noted h (append X)

pub record WritingOk (h : History) (w : Work) (l : Layout) (p : Pos) (X : Page) (u : UnitNo) : Type 0 where
  pub for_append : w ≡ work.Append
  pub walk : Walking h l p u (page X)
  pub asked : Noted h (append X)

pub record ReadingOk (h : History) (w : Work) (l : Layout) (p : Position) (u : UnitNo) : Type 0 where
  pub is_read : w ≡ work.Read p
  pub fetched : Fetched h l
  pub low : p.0 < limit
  pub is_tail : Last u (set_at (lay_of l) p.0)

pub record FillingOk (h : History) (w : Work) (l : Layout) (p : Pos) (X : Page) (u : UnitNo) : Type 0 where
  pub filled : Position
  pub is_fill : w ≡ work.Fill filled
  pub walk : Walking h l p u (page X)
  pub asked : MarkNoted h p (page X)

-- u is the head
pub record LookingOk (h : History) (w : Work) (l : Layout) (p : Pos) (u : UnitNo) : Type 0 where
  pub filled : Position
  pub is_fill : w ≡ work.Fill filled
  pub fetched : Fetched h l
  pub low : p < limit
  pub serves : Serves (map_of (lay_of l)) p u
  pub is_head : (v : UnitNo) → Serves (map_of (lay_of l)) p v → u ≤ v

pub record TrimmingOk (h : History) (w : Work) (l : Layout) (p : Pos) (u : UnitNo) : Type 0 where
  pub trimmed_there : Position
  pub is_trim : w ≡ work.Trim trimmed_there
  pub walk : Walking h l p u gone
  pub asked : Noted h (trim_at p)

pub record PruningOk (h : History) (w : Work) (l : Layout) (q : Pos) (u : UnitNo) : Type 0 where
  pub pruned_there : Position
  pub is_prune : w ≡ work.Prune pruned_there
  pub fetched : Fetched h l
  pub has : Has (map_of (lay_of l)) u
  pub behind : (v : UnitNo) → Has (map_of (lay_of l)) v → v < u → (p : Pos) → p < q → MarkedBy h v p gone l.epoch.0
  pub asked : Noted h (prune_to q)

-- every unit of the plan below u is sealed, and x is no less than the edges so far
pub record SealingOk (h : History) (w : Work) (l : Layout) (ch : Change) (plan : Layout) (u : UnitNo) (x : Pos) : Type 0 where
  pub is_reorganise : w ≡ work.Reorganise
  pub fetched : Fetched h l
  pub plan_fine : (planned_for l (drops_of ch) ch.wish).answer ≡ 0
  pub plan_is : plan ≡ (planned_for l (drops_of ch) ch.wish).layout
  pub sealed_behind : (v : UnitNo) → Has (map_of (lay_of plan)) v → v < u → SealedAt h v l.epoch.0
  pub edges_behind : (v : UnitNo) → Has (map_of (lay_of plan)) v → v < u → EdgeAt h v l.epoch.0 x

pub record OfferingOk (h : History) (w : Work) (l plan : Layout) : Type 0 where
  pub is_reorganise : w ≡ work.Reorganise
  pub fetched : Fetched h l
  pub offer : OfferOk h plan

pub record StartingOk (h : History) (w : Work) (l plan : Layout) : Type 0 where
  pub is_reorganise : w ≡ work.Reorganise
  pub fetched : Fetched h l
  pub low : plan.epoch.0 ≤ (held h).epoch

-- by its work, layout, change, plan, position and page
abbrev pub PhaseOk : History → Work → Layout → Change → Layout → Position → PageValue → Phase → Type 0
PhaseOk h w l ch plan p x (Drawing n) = DrawingOk h w l (carried x)
PhaseOk h w l ch plan p x (Writing u n) = WritingOk h w l p.0 (carried x) u
PhaseOk h w l ch plan p x (Reading u) = ReadingOk h w l p u
PhaseOk h w l ch plan p x (Filling u) = FillingOk h w l p.0 (carried x) u
PhaseOk h w l ch plan p x (Looking u) = LookingOk h w l p.0 u
PhaseOk h w l ch plan p x (Trimming u) = TrimmingOk h w l p.0 u
PhaseOk h w l ch plan p x (Pruning u) = PruningOk h w l p.0 u
PhaseOk h w l ch plan p x (Sealing u e) = SealingOk h w l ch plan u e.edge.0
PhaseOk h w l ch plan p x (Offering e) = OfferingOk h w l plan
PhaseOk h w l ch plan p x Starting = StartingOk h w l plan

abbrev pub StageOk : History → Client → Stage → Type 0
StageOk h c Idle = Unit {0}
StageOk h c Fetching = WorkOk h c.work c.position c.page
StageOk h c (Working s) = PhaseOk h c.work c.layout c.change c.plan c.position c.page s

-- the request that a client waits for: by its layout l, position p, page x and plan
pub data Waits (l : Layout) (p : Position) (x : PageValue) (plan : Layout) : Stage → Ask → PageValue → Layout → Type 0 where
  waits_fetch : {g : PageValue} {k : Layout} → Waits l p x plan Fetching Fetch g k
  waits_token : {n : ℕ} {g : PageValue} {k : Layout} → Waits l p x plan (Working (Drawing n)) (Token l.epoch) g k
  waits_write : {u n : ℕ} {k : Layout} → Waits l p x plan (Working (Writing u n)) (ask.Unit u (Write l.epoch p)) x k
  waits_read : {u : ℕ} {g : PageValue} {k : Layout} → Waits l p x plan (Working (Reading u)) (ask.Unit u (Read l.epoch p)) g k
  waits_fill : {u : ℕ} {k : Layout} → Waits l p x plan (Working (Filling u)) (ask.Unit u (Write l.epoch p)) x k
  waits_look : {u : ℕ} {g : PageValue} {k : Layout} → Waits l p x plan (Working (Looking u)) (ask.Unit u (Read l.epoch p)) g k
  waits_trim : {u : ℕ} {g : PageValue} {k : Layout} → Waits l p x plan (Working (Trimming u)) (ask.Unit u (Trim l.epoch p)) g k
  waits_prune : {u : ℕ} {g : PageValue} {k : Layout} → Waits l p x plan (Working (Pruning u)) (ask.Unit u (Prune l.epoch p)) g k
  waits_seal : {u : ℕ} {y : Edges} {g : PageValue} {k : Layout} → Waits l p x plan (Working (Sealing u y)) (ask.Unit u (Seal l.epoch)) g k
  waits_offer : {y : Position} {g : PageValue} → Waits l p x plan (Working (Offering y)) Offer g plan
  waits_start : {y : Position} {g : PageValue} {k : Layout} → Waits l p x plan (Working Starting) (Start plan.epoch y) g k

abbrev pub WaitsFor : Client → Ask → PageValue → Layout → Type 0
WaitsFor c = Waits c.layout c.position c.page c.plan c.stage

-- ---- what an outcome vouches for

pub record AppendedOk (h : History) (p : Pos) (X : Page) : Type 0 where
  pub by : Map
  pub settled : Settled h by p (page X)
  pub asked : Noted h (append X)

-- at some moment up to now a read of p by a layout of epoch e was answered r by the tail
pub record WasRead (h : History) (p : Pos) (e : Epoch) (r : Answer) : Type 0 where
  pub moment : History
  pub past : moment ⊑ h
  pub by : Map
  pub epoch_is : by.epoch ≡ e
  pub read : ReadAt moment by p r

pub record OutcomeOk (h : History) (w : Work) (g : PageValue) (o : Outcome) : Type 0 where
  pub append_done : w ≡ work.Append → o.number ≡ 0 → AppendedOk h o.position.0 (carried g)
  pub was_read : {p : Position} {r : Answer} → w ≡ work.Read p → Returns o r → WasRead h p.0 o.epoch.0 r
