-- A good layout gives a good map: units rise in its unit section and inside each set, and the units of a set are in the unit section.
-- A lawful successor gives what the history asks of one: each unit of an old range is its own source.
-- Rests on the layout's laws and on specs/Maps.
use mathlib.Core.Path.{◌≡◌, refl, subst}
use mathlib.Core.Bool.{true}
use mathlib.Core.List.{List, [], ◌∷◌}
use mathlib.Core.Logic.{⊎_elim}
use Prim.Native.Nat.{ℕ, ◌≤◌}
use native.Mathlib.Omega.{arith}
use Rattle.num.specs.Limits.{last_epoch}
use Rattle.layout.specs.declared.Layout.{Layout}
use Rattle.layout.specs.Lay.{Lay, rising, good, ◌in?◌, units_of}
use Rattle.layout.specs.Value.{lay_of}
use Rattle.layout.specs.Places.{set_at}
use Rattle.layout.specs.Successor.{lawful}
use Rattle.layout.proofs.GoodLay.{good_says}
use Rattle.layout.proofs.SetNumber.{set_at_good}
use Rattle.layout.proofs.GoodSets.{is_good_set}
use Rattle.layout.proofs.InSets.{in_none, in_cases, in_first, in_later}
use Rattle.layout.proofs.Rising.{rises, rising_within}
use Rattle.layout.proofs.UnitsOf.{units_rise, in_units, at_in_units}
use Rattle.layout.proofs.Lawful.{Kept, unit_kept, one_stays}
use Rattle.history.specs.Words.{UnitNo, Pos, ◌∈◌, Rising}
use Rattle.history.specs.Words.◌∈◌.{first, next}
use Rattle.history.specs.Words.Rising.{rising_none, rising_more}
use Rattle.history.specs.Maps.{Has, Good, Renewed, Successor}
use Rattle.vouch.proofs.Layouts.{map_of}

-- ---- lists of units, as the layout's laws speak of them

pub to_in : {u : UnitNo} (us : List UnitNo) → (u in? us) ≡ true → u ∈ us
to_in {u} [] i = absurd (in_none u i)
to_in {u} (x ∷ xs) i = ⊎_elim (λ e. subst (λ v. u ∈ (v ∷ xs)) e first) (λ j. next (to_in xs j)) (in_cases u x xs i)

pub of_in : {u : UnitNo} {us : List UnitNo} → u ∈ us → (u in? us) ≡ true
of_in (first {u} {us}) = in_first u u us refl
of_in (next {u} {v} {us} there) = in_later u v us (of_in there)

up : (low : ℕ) (us : List UnitNo) → rising low us ≡ true → Rising us
up low [] r = rising_none
up low (x ∷ xs) r =
    let rest = (rises low x xs r).rest in
    rising_more (λ v there. (rising_within x xs v rest (of_in there)).0) (up x xs rest)

-- ---- a good layout

pub set_rising : (l : Lay) → good l ≡ true → (p : Pos) → rising 0 (set_at l p) ≡ true
set_rising l g p = (is_good_set (set_at l p) (set_at_good l (good_says l g) p)).rise

pub good_map : (l : Lay) → good l ≡ true → Good (map_of l)
good_map l g = record {
  set_rises = λ p. up 0 (set_at l p) (set_rising l g p);
  set_within = λ p u there. to_in (units_of l.sets) (at_in_units l (good_says l g) p u (of_in there));
}

-- the epoch of a value is that of its map
pub epoch_of_lem : (l : Layout) → (map_of (lay_of l)).epoch ≡ l.epoch.0
unfolding lay_of
epoch_of_lem l = refl

pub epoch_small : (l : Lay) → good l ≡ true → l.epoch ≤ last_epoch
epoch_small l g = (good_says l g).high

-- units are 1 to 8
pub unit_within : (l : Lay) {u : UnitNo} → Has (map_of l) u → (1 ≤ u) × (u ≤ 8)
unit_within l {u} has = rising_within 0 (units_of l.sets) u (units_rise l.sets) (of_in has)

-- ---- a lawful successor

module _ (old new : Lay) (old_good : good old ≡ true) (new_good : good new ≡ true) (ok : lawful old new ≡ true) where
  -- of each old set, a unit that stays
  stays : (p : Pos) → Kept (set_at old p) new
  stays = one_stays old new ok (good_says old old_good)

  stays_has : (p : Pos) → Has (map_of new) (stays p).unit
  stays_has p =
      let within = rising_within 0 (set_at old p) (stays p).unit (set_rising old old_good p) (stays p).was_in in
      to_in (units_of new.sets) (in_units new.sets (stays p).unit (stays p).stays within.0 within.1)

  served : (p : Pos) (u : UnitNo) → ¬ Renewed (map_of old) (map_of new) p → u ∈ set_at new p → u ∈ set_at old p
  served p u same there =
      to_in (set_at old p) (unit_kept old new ok (good_says old old_good) p u (λ r. same (record { more = r.more; from = r.from })) (of_in there))

  pub lawful_successor : Successor (map_of old) (map_of new)
  lawful_successor = record {
    source = λ p u. u;
    source_served = served;
    source_has = λ p u same. (good_map new new_good).set_within p u;
    source_order = λ p u v same su sv lt. omega arith;
    kept = λ p. (stays p).unit;
    kept_served = λ p. to_in (set_at old p) (stays p).was_in;
    kept_stays = stays_has;
  }

  pub source_itself : (p : Pos) (u : UnitNo) → lawful_successor.source p u ≡ u
  unfolding lawful_successor
  source_itself p u = refl
