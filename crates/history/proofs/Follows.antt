-- Law D, from a layout to the next: where the range is new, the units of the new layout have nothing of the old epoch or before;
-- elsewhere a set is made of the old set (`Successor`), and what the old set has, the new set has too.
-- Rests on laws A and B.
use mathlib.Core.Path.{◌≡◌, subst}
use Prim.Native.Nat.{suc, ◌≤◌, ◌<◌}
use native.Mathlib.Omega.{arith}
use Rattle.history.specs.Words.{UnitNo, Pos, Epoch}
use Rattle.history.specs.Maps.{Map, Has, Serves, Renewed, Successor}
use Rattle.history.specs.History.{Stretch, Event, History, Laid, Mark, Marked, MarkedBy, held}
use Rattle.history.specs.History.Event.{install}
use Rattle.history.specs.History.History.{◌▹◌}
use Rattle.history.specs.History.Laid.{laid_first, laid_now, laid_before}
use Rattle.history.specs.History.Marked.{marked_before}
use Rattle.history.specs.Events.{MayMark, MayInstall, May, Run}
use Rattle.history.specs.Events.Run.{run_fresh, run_step}
use Rattle.history.proofs.Moments.{lift}
use Rattle.history.proofs.Epochs.{held_laid, laid_by, laid_one, sealed_from}
use Rattle.history.proofs.Marks.{Came, came, mark_epoch}
use Rattle.history.proofs.Marks.Came.{was_there, taken_now}

-- `new` came right after `old`
pub record Follows (h : History) (old new : Map) : Type 0 where
  pub epoch_next : new.epoch ≡ suc old.epoch
  pub successor : Successor old new
  pub clear : (u : UnitNo) (p : Pos) → Has new u → Renewed old new p → (m : Mark) (a : Epoch) → Marked h u p m a → old.epoch < a
  pub carried : (u : UnitNo) (p : Pos) → ¬ Renewed old new p → Serves new p u → (m : Mark) (a : Epoch) →
      Marked h (successor.source p u) p m a → a ≤ old.epoch → MarkedBy h u p m new.epoch

-- ---- when it is installed

clear_now : {h : History} {L : Map} → MayInstall h L → (u : UnitNo) (p : Pos) → Has L u → Renewed (held h) L p → (m : Mark) (a : Epoch) →
    Marked (h ▹ install L) u p m a → (held h).epoch < a
clear_now may u p has new m a (marked_before mk) = absurd (may.clear u p has new m a mk)

carried_now : {h : History} {L : Map} → (may : MayInstall h L) → (u : UnitNo) (p : Pos) → ¬ Renewed (held h) L p → Serves L p u → (m : Mark) (a : Epoch) →
    Marked (h ▹ install L) (may.successor.source p u) p m a → MarkedBy (h ▹ install L) u p m L.epoch
carried_now may u p old su m a (marked_before mk) = lift ((may.same_marks u p old su).back m a mk)

follows_now : {h : History} {L : Map} → MayInstall h L → Follows (h ▹ install L) (held h) L
follows_now may = record {
  epoch_next = may.epoch_next;
  successor = may.successor;
  clear = clear_now may;
  carried = λ u p old su m a mk le. carried_now may u p old su m a mk;
}

-- ---- and ever after

-- a unit of L takes no more marks of an epoch before L's
pub mark_late : {h : History} {L : Map} {u : UnitNo} {e : Epoch} {ps : Stretch} {m : Mark} → Run h → Laid h L → Has L u → MayMark h u e ps m → L.epoch ≤ e
mark_late {u = u} run laid has may = omega (arith, sealed_from u run laid has, mark_epoch run may)

clear_on : {h : History} {old new : Map} {u : UnitNo} {p : Pos} {m : Mark} {a : Epoch} →
    Run h → Laid h new → Follows h old new → Has new u → Renewed old new p → Came h u p m a → old.epoch < a
clear_on {u = u} {p} {m} {a} run laid f has in_new (was_there mk) = f.clear u p has in_new m a mk
clear_on run laid f has in_new (taken_now may there) = omega (arith, mark_late run laid has may, f.epoch_next)

carried_on : {h : History} {ev : Event} {old new : Map} {u : UnitNo} {p : Pos} {m : Mark} {a : Epoch} →
    Run h → Laid h new → (f : Follows h old new) → ¬ Renewed old new p → Serves new p u → Came h (f.successor.source p u) p m a → a ≤ old.epoch → MarkedBy (h ▹ ev) u p m new.epoch
carried_on {u = u} {p} {m} {a} run laid f is_old su (was_there mk) le = lift (f.carried u p is_old su m a mk le)
carried_on {u = u} {p} run laid f is_old su (taken_now may there) le =
    absurd (omega (arith, mark_late run laid (f.successor.source_has p u is_old su) may, f.epoch_next))

follows_on : {h : History} {ev : Event} {old new : Map} → Run h → May h ev → Laid h new → Follows h old new → Follows (h ▹ ev) old new
follows_on run may laid f = record {
  epoch_next = f.epoch_next;
  successor = f.successor;
  clear = λ u p has in_new m a mk. clear_on run laid f has in_new (came may mk);
  carried = λ u p is_old su m a mk le. carried_on run laid f is_old su (came may mk) le;
}

-- ---- D

pub follows : {h : History} {old new : Map} → Run h → Laid h old → Laid h new → new.epoch ≡ suc old.epoch → Follows h old new
follows (run_fresh good first) laid_first laid_first next = absurd (omega arith)
follows (run_step run may) laid_now laid_now next = absurd (omega arith)
follows (run_step run may) laid_now (laid_before laid) next = absurd (omega (arith, laid_by run laid, may.epoch_next))
follows {new = L} (run_step {h} run may) (laid_before laid) laid_now next =
    subst (λ l. Follows (h ▹ install L) l L) (laid_one run (held_laid run) laid (omega (arith, may.epoch_next))) (follows_now may)
follows (run_step run may) (laid_before laid₁) (laid_before laid₂) next = follows_on run may laid₂ (follows run laid₁ laid₂ next)
