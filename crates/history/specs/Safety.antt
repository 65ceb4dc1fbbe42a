-- Demand 3 over histories: what reads return, whatever may happen. `proofs/Safety` proves it of every run (`safe`).
-- Rests on Words, Maps, History and Events.
use Rattle.std.specs.Prelude.{◌≡◌}
use Rattle.history.specs.Words.{UnitNo, Pos, Epoch, Page, Answer, Last}
use Rattle.history.specs.Words.Answer.{shows, trimmed, unwritten}
use Rattle.history.specs.Maps.{Map, Serves}
use Rattle.history.specs.History.{History, ◌⊑◌, MarkNoted, Laid, Mark, Marked, MarkedBy, Unmarked, held}
use Rattle.history.specs.History.Mark.{page, gone}
use Rattle.history.specs.Events.{Takes}

-- ---- the words of the statement

-- what the unit u answers to a read of p that it takes
pub data Answers (h : History) (u : UnitNo) (p : Pos) : Answer → Type 0 where
  has_page : {X : Page} {a : Epoch} → Marked h u p (page X) a → ((b : Epoch) → ¬ Marked h u p gone b) → Answers h u p (shows X)
  has_gone : {a : Epoch} → Marked h u p gone a → Answers h u p trimmed
  has_none : Unmarked h u p → Answers h u p unwritten

-- At the moment h, a read of p by the layout L reaches the tail of p's set, which takes it and answers r.
pub record Read (h : History) (L : Map) (p : Pos) (r : Answer) : Type 0 where
  pub tail : UnitNo
  pub is_tail : Last tail (L.set p)
  pub takes : Takes h tail L
  pub answers : Answers h tail p r

-- At the moment h, every unit of p's set in L has the mark m: so it is when an append by L reports done at p.
pub record Settled (h : History) (L : Map) (p : Pos) (m : Mark) : Type 0 where
  pub laid : Laid h L
  pub all : (u : UnitNo) → Serves L p u → MarkedBy h u p m L.epoch

-- what a read of p may answer at h, once X is settled there: never "unwritten", and never another page
pub data After (h : History) (p : Pos) (X : Page) : Answer → Type 0 where
  that_page : After h p X (shows X)
  trim_asked : MarkNoted h p gone → After h p X trimmed

-- ---- the statement

pub record Safe (h : History) : Type 0 where
  -- Any two reads of one position that return a page, at any two moments and by any two layouts, return the same page.
  pub reads_agree : {h₁ h₂ : History} {L₁ L₂ : Map} {p : Pos} {X Y : Page} →
      h₁ ⊑ h → h₂ ⊑ h → Read h₁ L₁ p (shows X) → Read h₂ L₂ p (shows Y) → X ≡ Y
  -- A page that is read was asked for before: by an append, or by a fill of that position.
  pub read_asked : {h₁ : History} {L : Map} {p : Pos} {X : Page} → h₁ ⊑ h → Read h₁ L p (shows X) → MarkNoted h₁ p (page X)
  -- Once an append of X at p is done, a read of p under the layout in force returns X, or "trimmed" if a trim or prune of p was asked for.
  pub after_done : {h₁ h₂ : History} {L₁ L₂ : Map} {p : Pos} {X : Page} {r : Answer} →
      h₁ ⊑ h₂ → h₂ ⊑ h → Settled h₁ L₁ p (page X) → Read h₂ L₂ p r → L₂.epoch ≡ (held h₂).epoch → After h₂ p X r
  -- Once a read of p has returned "trimmed", so does every later read of p under the layout in force.
  pub trimmed_stays : {h₁ h₂ : History} {L₁ L₂ : Map} {p : Pos} {r : Answer} →
      h₁ ⊑ h₂ → h₂ ⊑ h → Read h₁ L₁ p trimmed → Read h₂ L₂ p r → L₂.epoch ≡ (held h₂).epoch → r ≡ trimmed
