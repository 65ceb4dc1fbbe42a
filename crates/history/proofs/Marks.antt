-- Law B: a mark's epoch is at most its unit's sealed epoch plus 1; a unit has one page at a position; every mark was asked for.
-- Rests on law A.
use mathlib.Core.Path.{◌≡◌, refl}
use mathlib.Core.Logic.{◌⊎◌, inl, inr, ⊎_elim}
use Prim.Native.Nat.{suc, ◌≤◌}
use native.Mathlib.Omega.{arith}
use Rattle.history.specs.Words.{UnitNo, Pos, Epoch, Page}
use Rattle.history.specs.Maps.{Map}
use Rattle.history.specs.History.{Stretch, Covers, Event, History, MarkNoted, Mark, Marked, sealed}
use Rattle.history.specs.History.Event.{mark}
use Rattle.history.specs.History.History.{fresh, ◌▹◌}
use Rattle.history.specs.History.◌⊑◌.{here, later}
use Rattle.history.specs.History.Mark.{page}
use Rattle.history.specs.History.Marked.{marked_now, marked_before}
use Rattle.history.specs.Events.{MayMark, May, Run}
use Rattle.history.specs.Events.Run.{run_fresh, run_step}
use Rattle.history.proofs.Moments.{mark_noted_on}
use Rattle.history.proofs.Epochs.{sealed_rises, takes_one}

-- ---- marks, one event later

pub no_mark : {L : Map} {u : UnitNo} {p : Pos} {m : Mark} {a : Epoch} → ¬ Marked (fresh L) u p m a
no_mark = elim [ ]

-- a mark was there before the last event, or its unit takes it now
pub data Came (h : History) (u : UnitNo) (p : Pos) (m : Mark) (a : Epoch) : Type 0 where
  was_there : Marked h u p m a → Came h u p m a
  taken_now : {ps : Stretch} → MayMark h u a ps m → Covers ps p → Came h u p m a

pub came : {h : History} {ev : Event} {u : UnitNo} {p : Pos} {m : Mark} {a : Epoch} → May h ev → Marked (h ▹ ev) u p m a → Came h u p m a
came may (marked_now there) = taken_now may there
came may (marked_before mk) = was_there mk

-- after a mark, what a unit has is that mark, or was there
pub mark_or_old : {h : History} {u v : UnitNo} {e : Epoch} {ps : Stretch} {p : Pos} {m n : Mark} {a : Epoch} → Marked (h ▹ mark v e ps m) u p n a → (m ≡ n) ⊎ Marked h u p n a
mark_or_old (marked_now there) = inl refl
mark_or_old (marked_before mk) = inr mk

-- ---- B

-- a mark that is taken now is of the one epoch that its unit takes
pub mark_epoch : {h : History} {u : UnitNo} {e : Epoch} {ps : Stretch} {m : Mark} → Run h → MayMark h u e ps m → e ≡ suc (sealed h u)
mark_epoch run may = omega (arith, takes_one run may.takes, may.walked.epoch_is)

-- a mark's epoch is at most its unit's sealed epoch plus 1
marked_on : {h : History} {u : UnitNo} {p : Pos} {m : Mark} {a n : Epoch} →
    Run h → sealed h u ≤ n → (Marked h u p m a → a ≤ suc (sealed h u)) → Came h u p m a → a ≤ suc n
marked_on run rises before (was_there mk) = omega (arith, before mk)
marked_on run rises before (taken_now may there) = omega (arith, mark_epoch run may)

pub marked_to : {h : History} {u : UnitNo} {p : Pos} {m : Mark} {a : Epoch} → Run h → Marked h u p m a → a ≤ suc (sealed h u)
marked_to (run_fresh good first) mk = absurd (no_mark mk)
marked_to {u = u} (run_step {h} {ev} run may) mk = marked_on run (sealed_rises h ev may u) (λ old. marked_to run old) (came may mk)

-- a unit has one page at a position
pub page_one : {h : History} {u : UnitNo} {p : Pos} {X Y : Page} {a b : Epoch} → Run h → Marked h u p (page X) a → Marked h u p (page Y) b → X ≡ Y
page_one (run_fresh _ _) mk _ = elim mk [ ]
page_one {p = p} (run_step run may) (marked_now there) mk = ⊎_elim (λ same. cc) (λ old. absurd (may.free p there _ _ old)) (mark_or_old mk)
page_one {p = p} (run_step run may) (marked_before mk) (marked_now there) = absurd (may.free p there _ _ mk)
page_one (run_step run may) (marked_before mk₁) (marked_before mk₂) = page_one run mk₁ mk₂

-- a mark was asked for
pub mark_asked : {h : History} {u : UnitNo} {p : Pos} {m : Mark} {a : Epoch} → Run h → Marked h u p m a → MarkNoted h p m
mark_asked (run_fresh _ _) mk = elim mk [ ]
mark_asked {p = p} (run_step run may) (marked_now there) = mark_noted_on (later here) (may.walked.asked p there)
mark_asked (run_step run may) (marked_before mk) = mark_noted_on (later here) (mark_asked run mk)
