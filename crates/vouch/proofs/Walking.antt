-- A walk along the set of a position, or along the units of a layout: what the next request vouches for, and what is settled after the last.
-- Rests on Meaning and Walks.
use mathlib.Core.Path.{◌≡◌, subst}
use mathlib.Core.Bool.{true}
use Prim.Native.Nat.{◌≤◌, ◌<◌}
use native.Mathlib.Omega.{arith}
use native.Mathlib.Decide.{dec_lt}
use Rattle.num.specs.Limits.{limit}
use Rattle.layout.specs.declared.Layout.{Layout}
use Rattle.layout.specs.Lay.{good}
use Rattle.layout.specs.Value.{lay_of, good_value}
use Rattle.layout.specs.Places.{set_at, head_of, after}
use Rattle.layout.proofs.ValueOf.{value_of_good}
use Rattle.client.specs.declared.Phase.{Phase}
use Rattle.client.specs.declared.Phase.TheVariants.{Drawing, Writing, Reading, Filling, Looking, Trimming, Pruning, Sealing, Offering, Starting}
use Rattle.client.specs.declared.Stage.TheVariants.{Working}
use Rattle.client.specs.declared.Client.{Client}
use Rattle.history.specs.Words.{UnitNo, Pos, Page, Before}
use Rattle.history.specs.Maps.{Map, Has, Serves, Good}
use Rattle.history.specs.History.{History, Noted, MarkNoted, Mark, MarkedBy}
use Rattle.history.specs.History.Note.{prune_to}
use Rattle.history.specs.History.Stretch.{only, up_to}
use Rattle.history.specs.History.Mark.{page, gone}
use Rattle.history.specs.Safety.{Settled}
use Rattle.vouch.proofs.Layouts.{map_of}
use Rattle.history.proofs.Order.{before_in, before_less, less_before}
use Rattle.vouch.proofs.GoodMap.{good_map, epoch_of_lem}
use Rattle.vouch.proofs.Walks.{head_serves, head_least, after_serves, after_next, after_last}
use Rattle.vouch.proofs.Meaning.{LookOk, WrittenBefore, Fetched, Walking, StageOk}
use Rattle.history.proofs.Epochs.{laid_one}
use Rattle.history.specs.Events.{Walked, Run}
use Rattle.history.proofs.Stretches.{of_only, up_to_covers, prune_asked}

module _ {h : History} {l : Layout} (fetched : Fetched h l) where
  pub is_good_lem : good (lay_of l) ≡ true
  is_good_lem = (value_of_good l fetched.is_good_lem).0

  pub map_good : Good (map_of (lay_of l))
  map_good = good_map (lay_of l) is_good_lem

-- the layout that a client works under is good
pub phase_good : (h : History) (c : Client) (p : Phase) → StageOk h c (Working p) → good_value c.layout ≡ true
phase_good h c (Drawing n) ok = ok.fetched.is_good_lem
phase_good h c (Writing u n) ok = ok.walk.fetched.is_good_lem
phase_good h c (Reading u) ok = ok.fetched.is_good_lem
phase_good h c (Filling u) ok = ok.walk.fetched.is_good_lem
phase_good h c (Looking u) ok = ok.fetched.is_good_lem
phase_good h c (Trimming u) ok = ok.walk.fetched.is_good_lem
phase_good h c (Pruning u) ok = ok.fetched.is_good_lem
phase_good h c (Sealing u x) ok = ok.fetched.is_good_lem
phase_good h c (Offering x) ok = ok.fetched.is_good_lem
phase_good h c Starting ok = ok.fetched.is_good_lem

-- ---- a walk

pub walk_start : {h : History} {l : Layout} {p : Pos} (m : Mark) → Fetched h l → p < limit → Walking h l p (head_of (set_at (lay_of l) p)) m
walk_start {l = l} {p} m fetched low = record {
  fetched = fetched;
  low = low;
  serves = head_serves (lay_of l) (is_good_lem fetched) p;
  behind = λ v serves lt. absurd (omega (arith, head_least (lay_of l) (is_good_lem fetched) p serves));
}

-- u and all before it
upto : {h : History} {l : Layout} {p : Pos} {u : UnitNo} {m : Mark} → Walking h l p u m → MarkedBy h u p m l.epoch.0 →
    (v : UnitNo) → Serves (map_of (lay_of l)) p v → v ≤ u → MarkedBy h v p m l.epoch.0
upto {h} {l} {p} {u} {m} walk mk v serves le = go (dec_lt v u)
  where
    go : Dec (v < u) → MarkedBy h v p m l.epoch.0
    go (yes lt) = walk.behind v serves lt
    go (no ge) = let same : u ≡ v = omega arith in subst (λ w. MarkedBy h w p m l.epoch.0) same mk

pub walk_next : {h : History} {l : Layout} {p : Pos} {u : UnitNo} {m : Mark} → Walking h l p u m → MarkedBy h u p m l.epoch.0 →
    ¬ (after u (set_at (lay_of l) p) ≡ 0) → Walking h l p (after u (set_at (lay_of l) p)) m
walk_next {l = l} {p} {u} walk mk more = record {
  fetched = walk.fetched;
  low = walk.low;
  serves = after_serves (lay_of l) (is_good_lem walk.fetched) p u more;
  behind = λ v serves lt. upto walk mk v serves (after_next (lay_of l) (is_good_lem walk.fetched) p u walk.serves serves lt);
}

pub walk_done : {h : History} {l : Layout} {p : Pos} {u : UnitNo} {m : Mark} → Walking h l p u m → MarkedBy h u p m l.epoch.0 →
    after u (set_at (lay_of l) p) ≡ 0 → Settled h (map_of (lay_of l)) p m
unfolding lay_of
walk_done {l = l} {p} {u} walk mk none = record {
  laid = walk.fetched.laid;
  all = λ v serves. upto walk mk v serves (after_last (lay_of l) (is_good_lem walk.fetched) p u walk.serves none serves);
}

-- "written" at a unit that is not the head
pub written_there : {h : History} {l : Layout} {p : Pos} {u : UnitNo} {X : Page} → Run h → Walking h l p u (page X) → WrittenBefore h u l.epoch.0 p X →
    ¬ (u ≡ head_of (set_at (lay_of l) p)) → MarkedBy h u p (page X) l.epoch.0
written_there {h} {l} {p} {u} run walk was not_head =
    let g = is_good_lem walk.fetched in
    let head = head_of (set_at (lay_of l) p) in
    let serves = head_serves (lay_of l) g p in
    let before : Before head u (set_at (lay_of l) p) = less_before ((map_good walk.fetched).set_rises p) serves walk.serves (omega (arith, head_least (lay_of l) g p walk.serves, not_head)) in
    let same : map_of (lay_of l) ≡ was.by = laid_one run walk.fetched.laid was.laid (omega (arith, epoch_of_lem l, was.epoch_is)) in
    was.has_it head (subst (λ (L : Map). Before head u (L.set p)) same before)

-- ---- what its requests vouch for

above : {h : History} {l : Layout} {p : Pos} {u : UnitNo} {m : Mark} → Walking h l p u m → (v : UnitNo) → Before v u (set_at (lay_of l) p) → MarkedBy h v p m l.epoch.0
above {p = p} walk v before = walk.behind v (before_in before) (before_less ((map_good walk.fetched).set_rises p) before)

pub walk_vouches : {h : History} {l : Layout} {p : Pos} {u : UnitNo} {m : Mark} → Walking h l p u m → MarkNoted h p m → Walked h u l.epoch.0 (only p) m
walk_vouches {h} {l} {p} {u} {m} walk asked = record {
  by = map_of (lay_of l);
  laid = walk.fetched.laid;
  epoch_is = epoch_of_lem l;
  has = (map_good walk.fetched).set_within p u walk.serves;
  above = of_only (λ q. (v : UnitNo) → Before v u (set_at (lay_of l) q) → MarkedBy h v q m l.epoch.0) (above walk);
  asked = of_only (λ q. MarkNoted h q m) asked;
}

pub look_vouches : {h : History} {l : Layout} {p : Pos} {u : UnitNo} → Fetched h l → Serves (map_of (lay_of l)) p u → LookOk h u l.epoch.0 p
look_vouches {l = l} fetched serves = record { by = map_of (lay_of l); laid = fetched.laid; epoch_is = epoch_of_lem l; serves = serves }

pub prune_vouches : {h : History} {l : Layout} {q : Pos} {u : UnitNo} → Fetched h l → Has (map_of (lay_of l)) u →
    ((v : UnitNo) → Has (map_of (lay_of l)) v → v < u → (p : Pos) → p < q → MarkedBy h v p gone l.epoch.0) → Noted h (prune_to q) → Walked h u l.epoch.0 (up_to q) gone
prune_vouches {l = l} fetched has behind asked = record {
  by = map_of (lay_of l);
  laid = fetched.laid;
  epoch_is = epoch_of_lem l;
  has = has;
  above = λ p there v before. behind v ((map_good fetched).set_within p v (before_in before)) (before_less ((map_good fetched).set_rises p) before) p (up_to_covers there);
  asked = prune_asked asked;
}
