-- A unit and its history: what a unit's state says of what happened to it, and for each request what its answer says: which event came, or none.
-- Rests on the unit's and the yard's rules, and on specs/Events, Edges and Safety.
use mathlib.Core.Path.{◌≡◌}
use mathlib.Core.Bool.{true, cond}
use Prim.Native.Nat.{ℕ}
use lib.Dec.{eqb}
use Rattle.num.specs.declared.Edges.{Edges}
use Rattle.layout.specs.Value.{blank}
use Rattle.unit.specs.declared.shape.Shape.{Shape}
use Rattle.unit.specs.Kinds.{no_kind, is_gone}
use Rattle.unit.specs.State.{Content, State}
use Rattle.unit.specs.Memory.{valid}
use Rattle.unit.proofs.Shown.{shown}
use Rattle.client.specs.declared.Page.{Page as PageValue}
use Rattle.client.specs.declared.Reply.{Reply}
use Rattle.client.specs.declared.Reply.TheVariants.{Fine, Shown, Edged, Refused}
use Rattle.client.specs.declared.Response.{Response}
use Rattle.rule.specs.Serve.{bare}
use Rattle.history.specs.Words.{UnitNo, Pos, Epoch, Page, Answer, Before}
use Rattle.history.specs.Words.Answer.{shows, trimmed, unwritten}
use Rattle.history.specs.Maps.{Map}
use Rattle.history.specs.History.{Stretch, History, Mark, MarkedBy, sealed}
use Rattle.history.specs.History.Event.{mark, seal}
use Rattle.history.specs.History.History.{◌▹◌}
use Rattle.history.specs.History.Stretch.{only}
use Rattle.history.specs.History.Mark.{page}
use Rattle.history.specs.Events.{Takes, MayMark, MaySeal}
use Rattle.history.specs.Edges.{EdgeAt}
use Rattle.history.specs.Safety.{Answers}
use Rattle.vouch.proofs.Carried.{page_with, carried}

-- what a position answers to a read: "trimmed" where it is gone, "unwritten" where it has no slot, and otherwise its page
unfoldable pub answer_of : Content → Answer
answer_of s = cond (is_gone s.kind) trimmed (cond (eqb s.kind no_kind) unwritten (shows (page_with s.kind s.payload)))

-- M is the state of the unit u, of the shape sh, after h: its sealed epoch, and what it shows at every position (below the floor that it is gone).
-- Its edge is one too: `edge_is`.
pub record UnitIs (sh : Shape) (h : History) (u : UnitNo) (M : State) : Type 0 where
  pub stays_valid : valid sh M ≡ true
  pub sealed_is : M.sealed ≡ sealed h u
  pub shown_is : (p : Pos) → Answers h u p (answer_of (shown M p))

-- ---- what each answer says. M is the unit afterwards

-- 6 at a unit that is not the first of its set: it has that very page
pub data WriteDone (sh : Shape) (h : History) (u : UnitNo) (L : Map) (p : Pos) (X : Page) (e : Epoch) (M : State) : Reply → Type 0 where
  did_write : MayMark h u e (only p) (page X) → UnitIs sh (h ▹ mark u e (only p) (page X)) u M → WriteDone sh h u L p X e M Fine
  was_written_lem : ((v : UnitNo) → Before v u (L.set p) → MarkedBy h u p (page X) e) → UnitIs sh h u M → WriteDone sh h u L p X e M (Refused 6)
  no_write : {n : ℕ} → ¬ (n ≡ 0) → ¬ (n ≡ 6) → UnitIs sh h u M → WriteDone sh h u L p X e M (Refused n)

-- a mark that is taken is an event, also where it changes nothing
pub data MarkDone (sh : Shape) (h : History) (u : UnitNo) (e : Epoch) (ps : Stretch) (m : Mark) (M : State) : Reply → Type 0 where
  did_mark : MayMark h u e ps m → UnitIs sh (h ▹ mark u e ps m) u M → MarkDone sh h u e ps m M Fine
  no_mark : {n : ℕ} → ¬ (n ≡ 0) → UnitIs sh h u M → MarkDone sh h u e ps m M (Refused n)

pub data SealDone (sh : Shape) (h : History) (u : UnitNo) (n : Epoch) (M : State) : Reply → Type 0 where
  did_seal : {g : Edges} → MaySeal h u n → UnitIs sh (h ▹ seal u n) u M → EdgeAt (h ▹ seal u n) u n g.edge.0 → SealDone sh h u n M (Edged g)
  no_seal : {k : ℕ} → ¬ (k ≡ 0) → UnitIs sh h u M → SealDone sh h u n M (Refused k)

-- a read leaves the unit as it was
pub data ReadDone (h : History) (u : UnitNo) (L : Map) (p : Pos) : Response → Type 0 where
  read_page : {g : PageValue} → Takes h u L → Answers h u p (shows (carried g)) → ReadDone h u L p (record { reply = Shown; page = g; layout = blank })
  read_trimmed : Takes h u L → Answers h u p trimmed → ReadDone h u L p (bare (Refused 5))
  read_unwritten : Takes h u L → Answers h u p unwritten → ReadDone h u L p (bare (Refused 7))
  no_read : {n : ℕ} → ¬ (n ≡ 0) → ¬ (n ≡ 5) → ¬ (n ≡ 7) → ReadDone h u L p (bare (Refused n))
