-- Law C, head to tail: while v may still take requests of the layout L, or L is in force, what v is marked with at p,
-- every unit before v in p's set is marked with too, by L's epoch.
-- Rests on laws A and B.
use mathlib.Core.Path.{◌≡◌, ap, subst}
use Prim.Native.Nat.{◌<◌}
use native.Mathlib.Omega.{arith}
use native.Mathlib.Decide.{dec_lt}
use Rattle.history.specs.Words.{UnitNo, Pos, Epoch, Page, Before}
use Rattle.history.specs.Maps.{Map, Has, Serves, Renewed}
use Rattle.history.specs.History.{Stretch, Covers, History, Laid, Mark, Marked, MarkedBy, held}
use Rattle.history.specs.History.Laid.{laid_now, laid_before}
use Rattle.history.specs.History.Mark.{page}
use Rattle.history.specs.History.Marked.{marked_now, marked_before}
use Rattle.history.specs.Events.{Takes, MayMark, MayInstall, Run}
use Rattle.history.specs.Events.Run.{run_fresh, run_step}
use Rattle.history.proofs.Order.{less_before}
use Rattle.history.proofs.Moments.{lift, longer}
use Rattle.history.proofs.Epochs.{held_laid, laid_good, Live, live_back, one_layout}
use Rattle.history.proofs.Epochs.Live.{unsealed, in_force}
use Rattle.history.proofs.Marks.{page_one}

-- ---- a mark that is taken comes of the layout that is live

-- the client goes by L, so what it has seen to before v in its layout holds before v in L
walked_before : {h : History} {L : Map} {p : Pos} {u v : UnitNo} {e : Epoch} {ps : Stretch} {m : Mark} →
    Run h → Laid h L → Serves L p u → Serves L p v → u < v → Live h L v → MayMark h v e ps m → Covers ps p → MarkedBy h u p m L.epoch
walked_before {L = L} {p} {u} {v} run laid su sv lt live may there =
    let good = laid_good run laid in
    let same : L ≡ may.walked.by = one_layout run laid (good.set_within p v sv) live may.takes in
    let before = subst (λ (l : Map). Before u v (l.set p)) same (less_before (good.set_rises p) su sv lt) in
    longer (omega (arith, ap (λ (l : Map). l.epoch) same, may.walked.epoch_is)) (may.walked.above p there u before)

-- ---- a layout that is installed

-- a position at which a unit of the new layout has something is not of the new range
pub not_renewed : {h : History} {L : Map} {p : Pos} {u : UnitNo} {m : Mark} {a : Epoch} → MayInstall h L → Has L u → Marked h u p m a → ¬ Renewed (held h) L p
not_renewed {p = p} {u} {m} {a} may has mk new = may.clear u p has new m a mk

-- what v's source has, u has: u's source is the same, or stands before it
joined : {h : History} {L : Map} {p : Pos} {u v : UnitNo} {m : Mark} {a : Epoch} → (may : MayInstall h L) →
    ¬ Renewed (held h) L p → Serves L p u → Serves L p v → u < v → Marked h (may.successor.source p v) p m a →
    (may.successor.source p u < may.successor.source p v → MarkedBy h (may.successor.source p u) p m (held h).epoch) → MarkedBy h u p m L.epoch
joined {h} {L} {p} {u} {v} {m} {a} may old su sv lt mk less = go (dec_lt (may.successor.source p u) (may.successor.source p v))
  where
    go : Dec (may.successor.source p u < may.successor.source p v) → MarkedBy h u p m L.epoch
    go (yes l) = (may.same_marks u p old su).back m _ (less l).marked
    go (no ge) =
        let same : may.successor.source p v ≡ may.successor.source p u = omega (arith, may.successor.source_order p u v old su sv lt) in
        (may.same_marks u p old su).back m a (subst (λ w. Marked h w p m a) same mk)

-- ---- C

pub chain : {h : History} {L : Map} {p : Pos} {u v : UnitNo} {m : Mark} {a : Epoch} →
    Run h → Laid h L → Serves L p u → Serves L p v → u < v → Live h L v → Marked h v p m a → MarkedBy h u p m L.epoch
chain (run_fresh _ _) _ _ _ _ _ mk = elim mk [ ]
chain (run_step run may) (laid_before laid) su sv lt live (marked_now there) = lift (walked_before run laid su sv lt (live_back may live) may there)
chain (run_step run may) (laid_before laid) su sv lt live (marked_before mk) = lift (chain run laid su sv lt (live_back may live) mk)
chain {L = L} {p} {u} {v} {m} {a} (run_step run may) laid_now su sv lt live (marked_before mk) =
    let old = not_renewed may (may.good.set_within p v sv) mk in
    let served = may.successor.source_served p in
    let theirs = (may.same_marks v p old sv).forth m a mk in
    lift (joined may old su sv lt theirs.marked
    (λ less. chain run (held_laid run) (served u old su) (served v old sv) less (in_force (omega arith)) theirs.marked))

-- ---- what "written" says at a later unit

-- Where a unit before v in p's set has page X, and v takes requests of L, a page that v has at p is X.
pub written_same : {h : History} {L : Map} {p : Pos} {u v : UnitNo} {X Y : Page} {a b : Epoch} →
    Run h → Takes h v L → Serves L p u → Serves L p v → u < v → Marked h u p (page X) a → Marked h v p (page Y) b → X ≡ Y
written_same run takes su sv lt mine theirs =
    page_one run mine (chain run takes.laid su sv lt (unsealed takes.unsealed) theirs).marked
