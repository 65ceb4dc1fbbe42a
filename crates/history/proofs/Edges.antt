-- A unit that is sealed at the epoch in force takes nothing until the next layout, so its edge stays one;
-- and then a layout that is planned from such edges may be installed.
-- Rests on laws A and B.
use mathlib.Core.Path.{◌≡◌, sym, subst}
use Prim.Native.Nat.{suc, ◌≤◌, ◌<◌}
use native.Mathlib.Omega.{arith}
use Rattle.history.specs.Words.{UnitNo, Pos, Epoch}
use Rattle.history.specs.Maps.{Map, Has, Good, Successor}
use Rattle.history.specs.History.{History, ◌⊑◌, Mark, Marked, MarkedBy, held}
use Rattle.history.specs.History.Event.{seal}
use Rattle.history.specs.History.History.{◌▹◌}
use Rattle.history.specs.History.◌⊑◌.{here, later}
use Rattle.history.specs.Events.{SameMarks, MayInstall, Run}
use Rattle.history.specs.Events.Run.{run_step}
use Rattle.history.specs.Edges.{Edge, SealedAt, EdgeAt}
use Rattle.history.proofs.Epochs.{held_rises, sealed_rises, sealed_to, laid_by}
use Rattle.history.proofs.Marks.{Came, came, marked_to}
use Rattle.history.proofs.Marks.Came.{was_there, taken_now}
use Rattle.history.proofs.Units.{sealed_now}

-- ---- two facts of a unit, and how long they last

-- a unit that is sealed at n keeps its edge: where it takes something, a later epoch is in force
frozen : {h : History} {u : UnitNo} {n : Epoch} {g p : Pos} {m : Mark} {a : Epoch} →
    Run h → SealedAt h u n → EdgeAt h u n g → (held h).epoch ≤ n → g ≤ p → ¬ Came h u p m a
frozen {p = p} {m} {a} run s e now from (was_there mk) = e.edge_at now p from m a mk
frozen run s e now from (taken_now may there) = omega (arith, s.sealed_there, may.takes.unsealed, laid_by run may.takes.laid)

pub sealed_at_now : {h : History} {u : UnitNo} {n : Epoch} → SealedAt (h ▹ seal u n) u n
sealed_at_now {h} {u} {n} = record { sealed_there = omega (arith, sealed_now h u n) }

pub sealed_at_on : {h₁ h₂ : History} {u : UnitNo} {n : Epoch} → Run h₂ → h₁ ⊑ h₂ → SealedAt h₁ u n → SealedAt h₂ u n
sealed_at_on run here s = s
sealed_at_on {u = u} (run_step {h} {ev} run may) (later part) s =
    record { sealed_there = omega (arith, (sealed_at_on run part s).sealed_there, sealed_rises h ev may u) }

pub edge_at_now : {h : History} {u : UnitNo} {n : Epoch} {g : Pos} → Edge h u g → EdgeAt h u n g
edge_at_now edge = record { edge_at = λ now. edge }

pub edge_at_on : {h₁ h₂ : History} {u : UnitNo} {n : Epoch} {g : Pos} → Run h₂ → h₁ ⊑ h₂ → SealedAt h₁ u n → EdgeAt h₁ u n g → EdgeAt h₂ u n g
edge_at_on run here s e = e
edge_at_on (run_step {h} {ev} run may) (later part) s e = record {
  edge_at = λ now p from m a mk. frozen run (sealed_at_on run part s) (edge_at_on run part s e) (omega (arith, held_rises h ev may)) from (came may mk);
}

-- ---- what a reorganise has seen to when its layout is installed

-- a unit has what it has, by any epoch after the one in force
same_itself : {h : History} {p : Pos} {u : UnitNo} {e : Epoch} → Run h → (held h).epoch < e → SameMarks h p u u e
same_itself {h} {p} {u} {e} run le = record { forth = mine; back = mine }
  where
    mine : (m : Mark) (a : Epoch) → Marked h u p m a → MarkedBy h u p m e
    mine m a mk = record { epoch = a; by = omega (arith, marked_to run mk, sealed_to run u); marked = mk }

-- With no joiner: every unit of the new layout is sealed at the held epoch, and a new range starts at no edge's left.
pub may_install : {h : History} {L : Map} (g : Pos) → Run h → Good L → L.epoch ≡ suc (held h).epoch →
    (s : Successor (held h) L) → ((p : Pos) (u : UnitNo) → s.source p u ≡ u) →
    ((u : UnitNo) → Has L u → SealedAt h u (held h).epoch) → ((u : UnitNo) → Has L u → EdgeAt h u (held h).epoch g) →
    ((held h).start < L.start → g ≤ L.start) → MayInstall h L
may_install {h} {L} g run good next s itself sealed_all edges start = record {
  good = good;
  epoch_next = next;
  successor = s;
  sealed_all = λ u has. (sealed_all u has).sealed_there;
  clear = λ u p has new. (edges u has).edge_at (omega arith) p (omega (arith, start new.more, new.from));
  same_marks = λ u p old su. subst (λ w. SameMarks h p u w L.epoch) (sym (itself p u)) (same_itself run (omega arith));
}
