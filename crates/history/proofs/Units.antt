-- What each event does to a unit, and what it leaves alone: so that a unit's memory and the history go together.
-- Rests on specs/Edges and Safety.
use mathlib.Core.Path.{◌≡◌, refl, sym}
use mathlib.Core.Logic.{⊎_elim}
use mathlib.Core.Bool.{Bool, true, false, cond}
use Prim.Native.Nat.{◌≤◌}
use lib.Dec.{eqb}
use borrow.Author.Tests.{eqb-true, eqb-false}
use Rattle.history.specs.Words.{UnitNo, Pos, Epoch, Answer}
use Rattle.history.specs.Words.Answer.{shows, trimmed}
use Rattle.history.specs.Maps.{Map}
use Rattle.history.specs.History.{Note, Stretch, Covers, Event, History, Mark, Marked, sealed}
use Rattle.history.specs.History.Event.{ask, mark, seal, install}
use Rattle.history.specs.History.History.{◌▹◌}
use Rattle.history.specs.History.Mark.{page, gone}
use Rattle.history.specs.History.Marked.{marked_now, marked_before}
use Rattle.history.specs.Events.{Free}
use Rattle.history.specs.Edges.{Edge}
use Rattle.history.specs.Safety.{Answers}
use Rattle.history.specs.Safety.Answers.{has_page, has_gone, has_none}
use Rattle.history.proofs.Marks.{mark_or_old}

-- ---- what an event touches

-- the event marks u at p
pub data Touches : Event → UnitNo → Pos → Type 0 where
  touches_mark : {u : UnitNo} {e : Epoch} {ps : Stretch} {p : Pos} {m : Mark} → Covers ps p → Touches (mark u e ps m) u p

-- a mark touches what its positions cover of its unit, and the other events nothing
pub mark_touches : {u v : UnitNo} {e : Epoch} {ps : Stretch} {p : Pos} {m : Mark} → Touches (mark u e ps m) v p → (v ≡ u) × Covers ps p
mark_touches (touches_mark there) = (refl, there)

pub ask_touches : {w : Note} {v : UnitNo} {q : Pos} → ¬ Touches (ask w) v q
ask_touches = elim [ ]

pub seal_touches : {u v : UnitNo} {n : Epoch} {q : Pos} → ¬ Touches (seal u n) v q
seal_touches = elim [ ]

pub install_touches : {v : UnitNo} {L : Map} {q : Pos} → ¬ Touches (install L) v q
install_touches = elim [ ]

pub untouched : {h : History} {ev : Event} {u : UnitNo} {p : Pos} {m : Mark} {a : Epoch} → ¬ Touches ev u p → Marked (h ▹ ev) u p m a → Marked h u p m a
untouched none (marked_now there) = absurd (none (touches_mark there))
untouched none (marked_before mk) = mk

-- a unit that is not touched at p answers as before, and its edge stays an edge
pub answers_on : {h : History} {ev : Event} {u : UnitNo} {p : Pos} {r : Answer} → ¬ Touches ev u p → Answers h u p r → Answers (h ▹ ev) u p r
answers_on none (has_page mk still) = has_page (marked_before mk) (λ b away. still b (untouched none away))
answers_on none (has_gone mk) = has_gone (marked_before mk)
answers_on none (has_none unmarked) = has_none (λ m a mk. unmarked m a (untouched none mk))

pub edge_on : {h : History} {ev : Event} {u : UnitNo} {g : Pos} → ((p : Pos) → g ≤ p → ¬ Touches ev u p) → Edge h u g → Edge (h ▹ ev) u g
edge_on none edge p at m a mk = edge p at m a (untouched (none p at) mk)

-- ---- what it does where it touches

-- what a unit that has the mark answers to a read
abbrev pub shown_as : Mark → Answer
shown_as (page X) = shows X
shown_as gone = trimmed

-- where a unit takes a mark it answers with it: a page was taken where nothing was, and what is gone is trimmed whatever was there before
pub mark_shows : {h : History} {u : UnitNo} {e : Epoch} {ps : Stretch} {p : Pos} (m : Mark) → Free h u p m → Covers ps p → Answers (h ▹ mark u e ps m) u p (shown_as m)
mark_shows {h} {u} {e} {ps} {p} (page X) free there = has_page (marked_now there) (λ b away. ⊎_elim (λ same. absurd (cc)) (free gone b) (mark_or_old away))
mark_shows gone free there = has_gone (marked_now there)

-- ---- the sealed epoch

pub sealed_now : (h : History) (u : UnitNo) (n : Epoch) → sealed (h ▹ seal u n) u ≡ n
unfolding sealed
sealed_now h u n = go (eqb u u) refl
  where
    go : (b : Bool) → eqb u u ≡ b → cond b n (sealed h u) ≡ n
    go true e = refl
    go false e = absurd (eqb-false u u e refl)

pub sealed_other : (h : History) (u v : UnitNo) (n : Epoch) → ¬ (v ≡ u) → sealed (h ▹ seal u n) v ≡ sealed h v
unfolding sealed
sealed_other h u v n ne = go (eqb u v) refl
  where
    go : (b : Bool) → eqb u v ≡ b → cond b n (sealed h v) ≡ sealed h v
    go true e = absurd (ne (sym (eqb-true u v e)))
    go false e = refl
