-- What is settled: a tail speaks for its set (by law C), and what is settled in a layout is settled in every later one (by law D).
-- Rests on laws A to D.
use mathlib.Core.Path.{◌≡◌, subst}
use Prim.Native.Nat.{ℕ, zero, suc, ◌+◌, ◌-◌, ◌≤◌, ◌<◌}
use native.Mathlib.Omega.{arith}
use native.Mathlib.Decide.{dec_lt}
use Rattle.history.specs.Words.{UnitNo, Pos, Epoch, Page, Last}
use Rattle.history.specs.Maps.{Map, Serves, Renewed}
use Rattle.history.specs.History.{History, ◌⊑◌, Laid, Mark, Marked, MarkedBy}
use Rattle.history.specs.History.Mark.{page}
use Rattle.history.specs.Events.{Takes, Run}
use Rattle.history.specs.Safety.{Settled}
use Rattle.history.proofs.Order.{last_in, last_above}
use Rattle.history.proofs.Moments.{laid_on, by_on}
use Rattle.history.proofs.Epochs.{laid_good, laid_from, laid_one, laid_earlier}
use Rattle.history.proofs.Epochs.Live.{unsealed}
use Rattle.history.proofs.Marks.{marked_to, page_one}
use Rattle.history.proofs.Chain.{chain}
use Rattle.history.proofs.Follows.{Follows, follows}

-- ---- a tail speaks for its set

pub tail_settles : {h : History} {L : Map} {p : Pos} {t : UnitNo} {m : Mark} {a : Epoch} →
    Run h → Last t (L.set p) → Takes h t L → Marked h t p m a → Settled h L p m
tail_settles {h} {L} {p} {t} {m} {a} run tail takes mk = record { laid = takes.laid; all = λ u su. all u su (dec_lt u t) }
  where
    in_time_lem : a ≤ L.epoch
    in_time_lem = omega (arith, marked_to run mk, takes.unsealed)

    all : (u : UnitNo) → Serves L p u → Dec (u < t) → MarkedBy h u p m L.epoch
    all u su (yes lt) = chain run takes.laid su (last_in tail) lt (unsealed takes.unsealed) mk
    all u su (no ge) =
        let same : t ≡ u = omega (arith, last_above ((laid_good run takes.laid).set_rises p) tail su) in
        record { epoch = a; by = in_time_lem; marked = subst (λ v. Marked h v p m a) same mk }

-- ---- what is settled stays settled

pub settled_on : {h₁ h₂ : History} {L : Map} {p : Pos} {m : Mark} → h₁ ⊑ h₂ → Settled h₁ L p m → Settled h₂ L p m
settled_on part s = record { laid = laid_on part s.laid; all = λ u su. by_on part (s.all u su) }

-- p is not of the new range, since the unit that stays of p's old set has the mark
old_range : {h : History} {old new : Map} {p : Pos} {m : Mark} → Follows h old new → Settled h old p m → ¬ Renewed old new p
old_range {p = p} {m} f s in_new =
    let k = f.successor.kept p in
    let mk = s.all k (f.successor.kept_served p) in
    let late = f.clear k p (f.successor.kept_stays p) in_new m mk.epoch mk.marked in
    omega (arith, late, mk.by)

settled_next : {h : History} {old new : Map} {p : Pos} {m : Mark} → Run h → Laid h new → new.epoch ≡ suc old.epoch → Settled h old p m → Settled h new p m
settled_next {h} {old} {new} {p} {m} run laid next s = record { laid = laid; all = all }
  where
    f : Follows h old new
    f = follows run s.laid laid next

    all : (u : UnitNo) → Serves new p u → MarkedBy h u p m new.epoch
    all u su =
        let is_old = old_range f s in
        let mk = s.all (f.successor.source p u) (f.successor.source_served p u is_old su) in
        f.carried u p is_old su m mk.epoch mk.marked mk.by

settled_after : {h : History} {L₁ L₂ : Map} {p : Pos} {m : Mark} (k : ℕ) → Run h → Laid h L₂ → L₂.epoch ≡ k + L₁.epoch → Settled h L₁ p m → Settled h L₂ p m
settled_after {h} {p = p} {m} zero run laid at s = subst (λ l. Settled h l p m) (laid_one run s.laid laid (omega arith)) s
settled_after {L₁ = L₁} {L₂ = L₂} (suc k) run laid at s =
    let before = laid_earlier (k + L₁.epoch) run laid (omega (arith, laid_from run s.laid)) (omega arith) in
    settled_next run laid (omega (arith, before.at)) (settled_after {L₂ = before.layout} k run before.laid before.at s)

pub settled_later : {h : History} {L₁ L₂ : Map} {p : Pos} {m : Mark} → Run h → Laid h L₂ → L₁.epoch ≤ L₂.epoch → Settled h L₁ p m → Settled h L₂ p m
settled_later {L₁ = L₁} {L₂} run laid le s = settled_after (L₂.epoch - L₁.epoch) run laid (omega arith) s

-- two settled pages of one position are one page; t is any unit of its set
pub settled_agree : {h : History} {L₁ L₂ : Map} {p : Pos} {X Y : Page} (t : UnitNo) →
    Run h → L₁.epoch ≤ L₂.epoch → Settled h L₁ p (page X) → Settled h L₂ p (page Y) → Serves L₂ p t → X ≡ Y
settled_agree t run le s₁ s₂ st = page_one run ((settled_later run s₂.laid le s₁).all t st).marked (s₂.all t st).marked
