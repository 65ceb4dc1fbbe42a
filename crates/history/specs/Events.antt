-- Which event may come next: of each, what the machines see to before it happens, and no more. `Run h`: h can come about.
-- Rests on Words, Maps and History.
use Rattle.std.specs.Prelude.{◌≡◌, suc, ◌≤◌, ◌<◌}
use Rattle.history.specs.Words.{UnitNo, Pos, Epoch, Before}
use Rattle.history.specs.Maps.{Map, Has, Serves, Good, Renewed, Successor}
use Rattle.history.specs.History.{Stretch, Covers, Event, History, MarkNoted, Laid, Mark, Marked, MarkedBy, Unmarked, held, sealed}
use Rattle.history.specs.History.Event.{ask, mark, seal, install}
use Rattle.history.specs.History.History.{fresh, ◌▹◌}
use Rattle.history.specs.History.Mark.{page, gone}

-- ---- at a unit

-- u takes a request of a client that goes by L: L was in force at some time, however long ago, u is of it, and L's epoch is above u's sealed one.
pub record Takes (h : History) (u : UnitNo) (L : Map) : Type 0 where
  pub laid : Laid h L
  pub has : Has L u
  pub unsealed : sealed h u < L.epoch

-- What a client has seen to that asks u for the mark m at ps in epoch e. It goes by a layout that was in force at some time, and u is of it.
-- Head to tail: at each position every unit before u in the set has m already. And m was asked for.
pub record Walked (h : History) (u : UnitNo) (e : Epoch) (ps : Stretch) (m : Mark) : Type 0 where
  pub by : Map
  pub laid : Laid h by
  pub epoch_is : by.epoch ≡ e
  pub has : Has by u
  pub above : (p : Pos) → Covers ps p → (v : UnitNo) → Before v u (by.set p) → MarkedBy h v p m e
  pub asked : (p : Pos) → Covers ps p → MarkNoted h p m

-- A page is taken only where nothing is written or trimmed; a position goes, written or not, trimmed or not.
abbrev pub Free : History → UnitNo → Pos → Mark → Type 0
Free h u p (page X) = Unmarked h u p
Free h u p gone = Unit {0}

-- The client has walked to u, and u sees to the rest.
pub record MayMark (h : History) (u : UnitNo) (e : Epoch) (ps : Stretch) (m : Mark) : Type 0 where
  pub walked : Walked h u e ps m
  pub takes : Takes h u walked.by
  pub free : (p : Pos) → Covers ps p → Free h u p m

-- Any unit, of the layout in force or of none, and also again with the same epoch: one that is, or once was, in force.
pub record MaySeal (h : History) (u : UnitNo) (n : Epoch) : Type 0 where
  pub rises : sealed h u ≤ n
  pub in_force : n ≤ (held h).epoch

-- ---- at the holder

-- u has at p what its source s has there, by epoch e
pub record SameMarks (h : History) (p : Pos) (u s : UnitNo) (e : Epoch) : Type 0 where
  pub forth : (m : Mark) (a : Epoch) → Marked h u p m a → MarkedBy h s p m e
  pub back : (m : Mark) (a : Epoch) → Marked h s p m a → MarkedBy h u p m e

-- A good lawful successor with held epoch plus 1. All its units are sealed at the held epoch and have nothing in the new range;
-- elsewhere each has what its source has.
pub record MayInstall (h : History) (L : Map) : Type 0 where
  pub good : Good L
  pub epoch_next : L.epoch ≡ suc (held h).epoch
  pub successor : Successor (held h) L
  pub sealed_all : (u : UnitNo) → Has L u → (held h).epoch ≤ sealed h u
  pub clear : (u : UnitNo) (p : Pos) → Has L u → Renewed (held h) L p → (m : Mark) (a : Epoch) → ¬ Marked h u p m a
  pub same_marks : (u : UnitNo) (p : Pos) → ¬ Renewed (held h) L p → Serves L p u → SameMarks h p u (successor.source p u) L.epoch

-- ---- all events

-- anything may be asked for at any time
abbrev pub May : History → Event → Type 0
May h (ask w) = Unit {0}
May h (mark u e ps m) = MayMark h u e ps m
May h (seal u n) = MaySeal h u n
May h (install L) = MayInstall h L

-- the histories that can come about: from a good layout of epoch 1 on
pub data Run : History → Type 0 where
  run_fresh : {L : Map} → Good L → L.epoch ≡ 1 → Run (fresh L)
  run_step : {h : History} {ev : Event} → Run h → May h ev → Run (h ▹ ev)
