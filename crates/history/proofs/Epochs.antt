-- Epochs only rise, and law A: a unit of a laid layout is sealed at least at the epoch before it, and no unit above the epoch in force.
-- The key comes of it: a unit takes requests of one layout only, the one after its sealed epoch (`one_layout`).
-- By recursion on how a history came about (`Run`). Rests on specs/Events.
use mathlib.Core.Path.{◌≡◌, refl, subst}
use mathlib.Core.Bool.{Bool, true, false, cond}
use Prim.Native.Nat.{suc, ◌≤◌, ◌<◌}
use native.Mathlib.Omega.{arith}
use lib.Dec.{eqb}
use borrow.Author.Tests.{eqb-true}
use Rattle.history.specs.Words.{UnitNo, Epoch}
use Rattle.history.specs.Maps.{Map, Has, Good}
use Rattle.history.specs.History.{Event, History, Laid, held, sealed}
use Rattle.history.specs.History.Event.{ask, mark, seal, install}
use Rattle.history.specs.History.History.{◌▹◌}
use Rattle.history.specs.History.Laid.{laid_first, laid_now, laid_before}
use Rattle.history.specs.Events.{Takes, May, Run}
use Rattle.history.specs.Events.Run.{run_fresh, run_step}

-- ---- epochs only rise

pub held_rises : (h : History) (ev : Event) → May h ev → (held h).epoch ≤ (held (h ▹ ev)).epoch
unfolding held
held_rises h (ask w) may = omega arith
held_rises h (mark u e ps m) may = omega arith
held_rises h (seal u n) may = omega arith
held_rises h (install L) may = omega (arith, may.epoch_next)

pub sealed_rises : (h : History) (ev : Event) → May h ev → (u : UnitNo) → sealed h u ≤ sealed (h ▹ ev) u
unfolding sealed
sealed_rises h (ask w) may u = omega arith
sealed_rises h (mark v e ps m) may u = omega arith
sealed_rises h (seal v n) may u = go (eqb v u) refl
  where
    go : (b : Bool) → eqb v u ≡ b → sealed h u ≤ cond b n (sealed h u)
    go true e = subst (λ w. sealed h w ≤ n) (eqb-true v u e) may.rises
    go false e = omega arith
sealed_rises h (install L) may u = omega arith

-- ---- the layouts that were in force

pub held_laid : {h : History} → Run h → Laid h (held h)
unfolding held
held_laid (run_fresh good first) = laid_first
held_laid (run_step {ev = ask w} run may) = laid_before (held_laid run)
held_laid (run_step {ev = mark u e ps m} run may) = laid_before (held_laid run)
held_laid (run_step {ev = seal u n} run may) = laid_before (held_laid run)
held_laid (run_step {ev = install L} run may) = laid_now

pub laid_good : {h : History} {L : Map} → Run h → Laid h L → Good L
laid_good (run_fresh good first) laid_first = good
laid_good (run_step run may) laid_now = may.good
laid_good (run_step run may) (laid_before laid) = laid_good run laid

-- none is of a later epoch than the one in force, and none of epoch 0
pub laid_by : {h : History} {L : Map} → Run h → Laid h L → L.epoch ≤ (held h).epoch
unfolding held
laid_by (run_fresh good first) laid_first = omega arith
laid_by (run_step run may) laid_now = omega arith
laid_by (run_step {h} {ev} run may) (laid_before laid) = omega (arith, laid_by run laid, held_rises h ev may)

pub laid_from : {h : History} {L : Map} → Run h → Laid h L → 1 ≤ L.epoch
laid_from (run_fresh good first) laid_first = omega arith
laid_from (run_step run may) laid_now = omega (arith, laid_from run (held_laid run), may.epoch_next)
laid_from (run_step run may) (laid_before laid) = laid_from run laid

-- one epoch, one layout
pub laid_one : {h : History} {L₁ L₂ : Map} → Run h → Laid h L₁ → Laid h L₂ → L₁.epoch ≡ L₂.epoch → L₁ ≡ L₂
laid_one (run_fresh good first) laid_first laid_first e = refl
laid_one (run_step run may) laid_now laid_now e = refl
laid_one (run_step run may) laid_now (laid_before laid) e = absurd (omega (arith, laid_by run laid, may.epoch_next))
laid_one (run_step run may) (laid_before laid) laid_now e = absurd (omega (arith, laid_by run laid, may.epoch_next))
laid_one (run_step run may) (laid_before laid₁) (laid_before laid₂) e = laid_one run laid₁ laid₂ e

-- every epoch before a laid one has its layout
pub record LaidAt (h : History) (e : Epoch) : Type 0 where
  pub layout : Map
  pub laid : Laid h layout
  pub at : layout.epoch ≡ e

pub laid_earlier : {h : History} {L : Map} (e : Epoch) → Run h → Laid h L → 1 ≤ e → L.epoch ≡ suc e → LaidAt h e
laid_earlier e (run_fresh good first) laid_first pos next = absurd (omega arith)
laid_earlier e (run_step {h} run may) laid_now pos next = record { layout = held h; laid = laid_before (held_laid run); at = omega (arith, may.epoch_next) }
laid_earlier e (run_step run may) (laid_before laid) pos next =
    let at = laid_earlier e run laid pos next in
    record { layout = at.layout; laid = laid_before at.laid; at = at.at }

-- ---- A

-- a unit of a laid layout is sealed at least at the epoch before it,
pub sealed_from : {h : History} {L : Map} (u : UnitNo) → Run h → Laid h L → Has L u → L.epoch ≤ suc (sealed h u)
unfolding sealed
sealed_from u (run_fresh good first) laid_first has = omega arith
sealed_from u (run_step run may) laid_now has = omega (arith, may.sealed_all u has, may.epoch_next)
sealed_from u (run_step {h} {ev} run may) (laid_before laid) has = omega (arith, sealed_from u run laid has, sealed_rises h ev may u)

-- and no unit above the epoch in force
pub sealed_to : {h : History} → Run h → (u : UnitNo) → sealed h u ≤ (held h).epoch
unfolding sealed held
sealed_to (run_fresh good first) u = omega arith
sealed_to (run_step {ev = ask w} run may) u = sealed_to run u
sealed_to (run_step {ev = mark v e ps m} run may) u = sealed_to run u
sealed_to (run_step {h} {ev = seal v n} run may) u = go (eqb v u) (sealed_to run u)
  where
    go : (b : Bool) → sealed h u ≤ (held h).epoch → cond b n (sealed h u) ≤ (held h).epoch
    go true old = may.in_force
    go false old = old
sealed_to (run_step {ev = install L} run may) u = omega (arith, sealed_to run u, may.epoch_next)

-- ---- the key

-- u may still take L's requests; or L is in force
pub data Live (h : History) (L : Map) (u : UnitNo) : Type 0 where
  unsealed : sealed h u < L.epoch → Live h L u
  in_force : (held h).epoch ≤ L.epoch → Live h L u

pub live_back : {h : History} {ev : Event} {L : Map} {u : UnitNo} → May h ev → Live (h ▹ ev) L u → Live h L u
live_back {h} {ev} {u = u} may (unsealed lt) = unsealed (omega (arith, sealed_rises h ev may u))
live_back {h} {ev} may (in_force le) = in_force (omega (arith, held_rises h ev may))

-- u takes requests of exactly one epoch
pub takes_one : {h : History} {L : Map} {u : UnitNo} → Run h → Takes h u L → L.epoch ≡ suc (sealed h u)
takes_one {u = u} run takes = omega (arith, sealed_from u run takes.laid takes.has, takes.unsealed)

-- While u takes requests of L₂, no other layout that has u is live at u.
pub one_layout : {h : History} {L₁ L₂ : Map} {u : UnitNo} → Run h → Laid h L₁ → Has L₁ u → Live h L₁ u → Takes h u L₂ → L₁ ≡ L₂
one_layout {u = u} run laid has (unsealed lt) takes =
    laid_one run laid takes.laid (omega (arith, sealed_from u run laid has, takes_one run takes))
one_layout {u = u} run laid has (in_force le) takes =
    laid_one run laid takes.laid
    (omega (arith, sealed_from u run laid has, takes.unsealed, laid_by run takes.laid))
