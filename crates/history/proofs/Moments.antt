-- A fact of an earlier moment is a fact of every later one.
-- Rests on specs/History and specs/Events.
use Prim.Native.Nat.{◌≤◌}
use native.Mathlib.Omega.{arith}
use Rattle.history.specs.Words.{UnitNo, Pos, Epoch}
use Rattle.history.specs.Maps.{Map}
use Rattle.history.specs.History.{Note, Stretch, Covers, Event, History, ◌⊑◌, Noted, MarkNoted, Laid, Mark, MarkedBy}
use Rattle.history.specs.History.Event.{mark}
use Rattle.history.specs.History.History.{◌▹◌}
use Rattle.history.specs.History.◌⊑◌.{here, later}
use Rattle.history.specs.History.Noted.{noted_before}
use Rattle.history.specs.History.MarkNoted.{by_append, by_fill, by_trim, by_prune}
use Rattle.history.specs.History.Laid.{laid_before}
use Rattle.history.specs.History.Marked.{marked_now, marked_before}
use Rattle.history.specs.Events.{Walked, Run}
use Rattle.history.specs.Events.Run.{run_step}

-- an earlier moment of an earlier moment is one
pub part_trans : {h₁ h₂ h₃ : History} → h₁ ⊑ h₂ → h₂ ⊑ h₃ → h₁ ⊑ h₃
part_trans part here = part
part_trans part (later more) = later (part_trans part more)

-- an earlier moment of a run is a run
pub run_part : {h₁ h₂ : History} → h₁ ⊑ h₂ → Run h₂ → Run h₁
run_part here run = run
run_part (later part) (run_step run may) = run_part part run

pub noted_on : {h₁ h₂ : History} {w : Note} → h₁ ⊑ h₂ → Noted h₁ w → Noted h₂ w
noted_on here noted = noted
noted_on (later part) noted = noted_before (noted_on part noted)

pub mark_noted_on : {h₁ h₂ : History} {p : Pos} {m : Mark} → h₁ ⊑ h₂ → MarkNoted h₁ p m → MarkNoted h₂ p m
mark_noted_on part (by_append noted) = by_append (noted_on part noted)
mark_noted_on part (by_fill noted) = by_fill (noted_on part noted)
mark_noted_on part (by_trim noted) = by_trim (noted_on part noted)
mark_noted_on part (by_prune below noted) = by_prune below (noted_on part noted)

pub laid_on : {h₁ h₂ : History} {L : Map} → h₁ ⊑ h₂ → Laid h₁ L → Laid h₂ L
laid_on here laid = laid
laid_on (later part) laid = laid_before (laid_on part laid)

-- a mark that is taken now
pub marked_by_now : {h : History} {u : UnitNo} {e : Epoch} {ps : Stretch} {p : Pos} {m : Mark} → Covers ps p → MarkedBy (h ▹ mark u e ps m) u p m e
marked_by_now {e = e} there = record { epoch = e; by = omega arith; marked = marked_now there }

-- one event later
pub lift : {h : History} {ev : Event} {u : UnitNo} {p : Pos} {m : Mark} {e : Epoch} → MarkedBy h u p m e → MarkedBy (h ▹ ev) u p m e
lift by = record { epoch = by.epoch; by = by.by; marked = marked_before by.marked }

pub by_on : {h₁ h₂ : History} {u : UnitNo} {p : Pos} {m : Mark} {e : Epoch} → h₁ ⊑ h₂ → MarkedBy h₁ u p m e → MarkedBy h₂ u p m e
by_on here by = by
by_on (later part) by = lift (by_on part by)

-- by an epoch is by every later one
pub longer : {h : History} {u : UnitNo} {p : Pos} {m : Mark} {e₁ e₂ : Epoch} → e₁ ≤ e₂ → MarkedBy h u p m e₁ → MarkedBy h u p m e₂
longer le by = record { epoch = by.epoch; by = omega (arith, by.by); marked = by.marked }

-- what a client has seen to stays seen to
pub walked_on : {h₁ h₂ : History} {u : UnitNo} {e : Epoch} {ps : Stretch} {m : Mark} → h₁ ⊑ h₂ → Walked h₁ u e ps m → Walked h₂ u e ps m
walked_on part walked = record {
  by = walked.by;
  laid = laid_on part walked.laid;
  epoch_is = walked.epoch_is;
  has = walked.has;
  above = λ p there v before. by_on part (walked.above p there v before);
  asked = λ p there. mark_noted_on part (walked.asked p there);
}
