-- What happened to a log, seen from its safety: a history of events, and the facts that a history records.
-- Nothing is ever taken out of a history, so a fact that holds once holds for ever.
-- Rests on Words and Maps.
use Rattle.std.specs.Prelude.{cond, ◌≤◌, ◌<◌, eqb}
use Rattle.history.specs.Words.{UnitNo, Pos, Epoch, Page}
use Rattle.history.specs.Words.Page.{junk}
use Rattle.history.specs.Maps.{Map}

-- ---- events

-- what a client is asked for: to append a page, to fill a position with junk, to trim a position, to prune up to a position
pub data Note : Type 0 where
  append : Page → Note
  fill_at : Pos → Note
  trim_at : Pos → Note
  prune_to : Pos → Note

-- What a unit has, or once had, at a position: a page, or that it is gone (trimmed, or below the floor).
-- A page that is trimmed later keeps its mark beside the new one.
pub data Mark : Type 0 where
  page : Page → Mark
  gone : Mark

-- the positions at which a unit takes a mark at once: one, or all below one
pub data Stretch : Type 0 where
  only : Pos → Stretch
  up_to : Pos → Stretch

-- p is one of them
pub data Covers : Stretch → Pos → Type 0 where
  covers_only : {p : Pos} → Covers (only p) p
  covers_up_to : {p q : Pos} → p < q → Covers (up_to q) p

-- `ask w`: a client is asked for w.
-- `mark u e ps m`: in epoch e the unit u takes the mark m at the positions ps. A write marks its position with the page, a trim its own as gone,
-- a prune all below its own.
-- `seal u n`: the unit u is sealed at n. `install L`: the holder installs L.
-- All else that happens in a yard changes nothing here: a refusal, an answer, a read, a letter lost, a unit that stops.
pub data Event : Type 0 where
  ask : Note → Event
  mark : UnitNo → Epoch → Stretch → Mark → Event
  seal : UnitNo → Epoch → Event
  install : Map → Event

-- the first layout, and what happened since, the latest event last
pub data History : Type 0 where
  fresh : Map → History
  ◌▹◌ : History → Event → History

infixl 20 ◌▹◌
-- h₁ is h₂, or an earlier moment of it
pub data ◌⊑◌ : History → History → Type 0 where
  here : {h : History} → h ⊑ h
  later : {h₁ h₂ : History} {ev : Event} → h₁ ⊑ h₂ → h₁ ⊑ (h₂ ▹ ev)

infix 15 ◌⊑◌
-- ---- what a history records

-- w was asked for
pub data Noted : History → Note → Type 0 where
  noted_now : {h : History} {w : Note} → Noted (h ▹ ask w) w
  noted_before : {h : History} {ev : Event} {w : Note} → Noted h w → Noted (h ▹ ev) w

-- The mark m at p was asked for: a page by an append of it, junk also by a fill of p; gone by a trim of p, or by a prune above p.
pub data MarkNoted (h : History) (p : Pos) : Mark → Type 0 where
  by_append : {X : Page} → Noted h (append X) → MarkNoted h p (page X)
  by_fill : Noted h (fill_at p) → MarkNoted h p (page junk)
  by_trim : Noted h (trim_at p) → MarkNoted h p gone
  by_prune : {q : Pos} → p < q → Noted h (prune_to q) → MarkNoted h p gone

-- the layout L is, or once was, in force
pub data Laid : History → Map → Type 0 where
  laid_first : {L : Map} → Laid (fresh L) L
  laid_now : {h : History} {L : Map} → Laid (h ▹ install L) L
  laid_before : {h : History} {ev : Event} {L : Map} → Laid h L → Laid (h ▹ ev) L

-- in epoch a, the unit u took the mark m at position p
pub data Marked : History → UnitNo → Pos → Mark → Epoch → Type 0 where
  marked_now : {h : History} {u : UnitNo} {e : Epoch} {ps : Stretch} {p : Pos} {m : Mark} → Covers ps p → Marked (h ▹ mark u e ps m) u p m e
  marked_before : {h : History} {ev : Event} {u : UnitNo} {p : Pos} {m : Mark} {a : Epoch} → Marked h u p m a → Marked (h ▹ ev) u p m a

-- the same, in epoch e or an earlier one
pub record MarkedBy (h : History) (u : UnitNo) (p : Pos) (m : Mark) (e : Epoch) : Type 0 where
  pub epoch : Epoch
  pub by : epoch ≤ e
  pub marked : Marked h u p m epoch

-- u has nothing at p, and never had: p is neither written nor trimmed there
abbrev pub Unmarked : History → UnitNo → Pos → Type 0
Unmarked h u p = (m : Mark) (a : Epoch) → ¬ Marked h u p m a

-- the layout in force: the one that the holder holds
unfoldable pub held : History → Map
held (fresh L) = L
held (h ▹ ask w) = held h
held (h ▹ mark u e ps m) = held h
held (h ▹ seal u n) = held h
held (h ▹ install L) = L

-- the sealed epoch of a unit, 0 at first
unfoldable pub sealed : History → UnitNo → Epoch
sealed (fresh L) u = 0
sealed (h ▹ ask w) u = sealed h u
sealed (h ▹ mark v e ps m) u = sealed h u
sealed (h ▹ seal v n) u = cond (eqb v u) n (sealed h u)
sealed (h ▹ install L) u = sealed h u
