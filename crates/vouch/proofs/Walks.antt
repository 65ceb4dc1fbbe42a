-- The walks of a client: head to tail along the units of a set, and along all units of a layout in rising number.
-- A walk that has come to u has met every unit of its list up to u.
-- Rests on GoodMap and on the layout's laws.
use mathlib.Core.Path.{◌≡◌}
use mathlib.Core.Bool.{true}
use mathlib.Core.List.{List, [], ◌∷◌}
use Prim.Native.Nat.{◌≤◌, ◌<◌}
use native.Mathlib.Omega.{arith}
use native.Mathlib.Decide.{dec_lt}
use borrow.Author.Tests.{lt-leb}
use lib.ListN.{length}
use Rattle.num.specs.Limits.{limit}
use Rattle.layout.specs.declared.Layout.{Layout}
use Rattle.layout.specs.Lay.{Lay, good, units_of}
use Rattle.layout.specs.Value.{lay_of, good_value}
use Rattle.layout.specs.Places.{set_at, head_of, tail_of, after, next_unit, place_answer, units_at}
use Rattle.layout.proofs.GoodLay.{good_says}
use Rattle.layout.proofs.SetNumber.{set_at_good}
use Rattle.layout.proofs.GoodSets.{is_good_set}
use Rattle.layout.proofs.PlaceAnswer.{units_there}
use Rattle.layout.proofs.HeadAndTail.{head_in, head_least as head_is_least}
use Rattle.layout.proofs.UnitsOf.{units_rise}
use Rattle.layout.proofs.NextUnit.{above_next, above_nearest, after_nearest, after_next as after_is}
use Rattle.history.specs.Words.{UnitNo, Pos, Last}
use Rattle.history.specs.Words.Last.{last_here, last_later}
use Rattle.history.specs.Maps.{Has, Serves}
use Rattle.vouch.proofs.Layouts.{map_of}
use Rattle.vouch.proofs.GoodMap.{to_in, of_in, set_rising}

-- ---- head to tail

last_of : (us : List UnitNo) → 1 ≤ length us → Last (tail_of us) us
unfolding tail_of
last_of [] h = absurd (omega arith)
last_of (u ∷ []) h = last_here
last_of (u ∷ v ∷ us) h = last_later (last_of (v ∷ us) (omega arith))

module _ (l : Lay) (g : good l ≡ true) (p : Pos) where
  has_one : 1 ≤ length (set_at l p)
  has_one = (is_good_set (set_at l p) (set_at_good l (good_says l g) p)).some

  pub tail_last : Last (tail_of (set_at l p)) (set_at l p)
  tail_last = last_of (set_at l p) has_one

  pub head_serves : Serves (map_of l) p (head_of (set_at l p))
  head_serves = to_in (set_at l p) (head_in (set_at l p) has_one)

  pub head_least : {v : UnitNo} → Serves (map_of l) p v → head_of (set_at l p) ≤ v
  head_least {v} sv = head_is_least 0 (set_at l p) v (set_rising l g p) (of_in sv)

  module _ (u : UnitNo) where
    pub after_serves : ¬ (after u (set_at l p) ≡ 0) → Serves (map_of l) p (after u (set_at l p))
    after_serves more = to_in (set_at l p) (after_is 0 (set_at l p) u (set_rising l g p) more).inside

    -- between u and the unit after it stands none, and behind the last none
    pub after_next : {v : UnitNo} → Serves (map_of l) p u → Serves (map_of l) p v → v < after u (set_at l p) → v ≤ u
    after_next {v} su sv lt = go (dec_lt u v)
      where
        go : Dec (u < v) → v ≤ u
        go (yes more) = absurd (omega (arith, (after_nearest 0 (set_at l p) u v (set_rising l g p) (of_in su) (of_in sv) more).near))
        go (no none) = omega arith

    pub after_last : {v : UnitNo} → Serves (map_of l) p u → after u (set_at l p) ≡ 0 → Serves (map_of l) p v → v ≤ u
    after_last {v} su none sv = go (dec_lt u v)
      where
        go : Dec (u < v) → v ≤ u
        go (yes more) = absurd (omega (arith, (after_nearest 0 (set_at l p) u v (set_rising l g p) (of_in su) (of_in sv) more).some))
        go (no ge) = omega arith

-- ---- all units of a layout, in rising number

module _ (l : Lay) (u : UnitNo) where
  pub next_has : ¬ (next_unit l u ≡ 0) → Has (map_of l) (next_unit l u)
  next_has more = to_in (units_of l.sets) (above_next (units_of l.sets) u more).inside

  pub next_next : {v : UnitNo} → Has (map_of l) v → v < next_unit l u → v ≤ u
  next_next {v} has lt = go (dec_lt u v)
    where
      go : Dec (u < v) → v ≤ u
      go (yes more) = absurd (omega (arith, (above_nearest 0 (units_of l.sets) u v (units_rise l.sets) (of_in has) more).near))
      go (no ge) = omega arith

  pub next_last : {v : UnitNo} → next_unit l u ≡ 0 → Has (map_of l) v → v ≤ u
  next_last {v} none has = go (dec_lt u v)
    where
      go : Dec (u < v) → v ≤ u
      go (yes more) = absurd (omega (arith, (above_nearest 0 (units_of l.sets) u v (units_rise l.sets) (of_in has) more).some))
      go (no ge) = omega arith

-- ---- the units of a position's set, as a client finds them

pub units_at_lem : (l : Layout) (p : Pos) → good_value l ≡ true → p < limit → units_at l p ≡ set_at (lay_of l) p
unfolding place_answer
units_at_lem l p g lt = units_there l p (rw (lt-leb limit p lt, g))
