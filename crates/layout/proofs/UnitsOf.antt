-- Laws of `used_from` and `units_of`: the units of a layout rise, and are those of its sets.
use Prim.Native.Nat.{ℕ, zero, suc, ◌+◌, ◌<◌, ◌≤◌}
use mathlib.Core.Bool.{Bool, true, false, cond}
use mathlib.Core.List.{List, ◌∷◌}
use mathlib.Core.Logic.{⊎_elim}
use mathlib.Core.Path.{◌≡◌, refl}
use native.Mathlib.Nat.{eq-or-lt_of_le}
use native.Mathlib.Omega.{arith}
use borrow.Author.Tests.{lt-ltb, le-leb}
use Rattle.layout.specs.Lay.{Lay, ◌in?◌, in_sets, used_from, rising, unit_limit, units_of}
use Rattle.layout.specs.Places.{set_number, set_at}
use Rattle.layout.proofs.InSets.{in_none, in_cases, in_first, in_later, in_set}
use Rattle.layout.proofs.Rising.{rising_within}
use Rattle.layout.proofs.GoodLay.{Good}
use Rattle.layout.proofs.GoodSets.{is_good_set}
use Rattle.layout.proofs.SetNumber.{number_below, set_at_good}

pub used_in : (k n : ℕ) (sets : List (List ℕ)) (u : ℕ) → (u in? used_from k n sets) ≡ true → in_sets u sets ≡ true
unfolding used_from
used_in k zero sets u i = absurd (in_none u i)
used_in k (suc n) sets u i = go (in_sets k sets) refl i (λ j. used_in (suc k) n sets u j)
  where
    go : (b : Bool) → in_sets k sets ≡ b → (u in? cond b (k ∷ used_from (suc k) n sets) (used_from (suc k) n sets)) ≡ true → ((u in? used_from (suc k) n sets) ≡ true → in_sets u sets ≡ true)
        → in_sets u sets ≡ true
    go true e j later = ⊎_elim (λ f. rw f e) later (in_cases u k (used_from (suc k) n sets) j)
    go false e j later = later j

pub in_used : (k n : ℕ) (sets : List (List ℕ)) (u : ℕ) → in_sets u sets ≡ true → k ≤ u → u < k + n → (u in? used_from k n sets) ≡ true
unfolding used_from
in_used k zero sets u i h l = absurd (omega arith)
in_used k (suc n) sets u i h l = ⊎_elim first (λ m. skip (in_sets k sets) (in_used (suc k) n sets u i m (omega arith))) (eq-or-lt_of_le h)
  where
    first : k ≡ u → (u in? cond (in_sets k sets) (k ∷ used_from (suc k) n sets) (used_from (suc k) n sets)) ≡ true
    first e = rw (e, i) (in_first u u _ refl)

    skip : (b : Bool) → (u in? used_from (suc k) n sets) ≡ true → (u in? cond b (k ∷ used_from (suc k) n sets) (used_from (suc k) n sets)) ≡ true
    skip true j = in_later u k _ j
    skip false j = j

used_rise : (low k n : ℕ) (sets : List (List ℕ)) → low < k → k + n ≤ suc unit_limit → rising low (used_from k n sets) ≡ true
unfolding used_from rising
used_rise low k zero sets h l = refl
used_rise low k (suc n) sets h l = go (in_sets k sets) (used_rise k (suc k) n sets (omega arith) (omega arith)) (used_rise low (suc k) n sets (omega arith) (omega arith))
  where
    go : (b : Bool) → rising k (used_from (suc k) n sets) ≡ true → rising low (used_from (suc k) n sets) ≡ true → rising low (cond b (k ∷ used_from (suc k) n sets) (used_from (suc k) n sets)) ≡ true
    go true r s = rw (lt-ltb low k h, le-leb k unit_limit (omega arith)) r
    go false r s = s

-- the units of a layout rise
pub units_rise : (sets : List (List ℕ)) → rising 0 (units_of sets) ≡ true
unfolding units_of
units_rise sets = used_rise 0 1 unit_limit sets (omega arith) (omega arith)

pub units_in_lem : (sets : List (List ℕ)) (u : ℕ) → (u in? units_of sets) ≡ true → in_sets u sets ≡ true
unfolding units_of
units_in_lem sets u i = used_in 1 unit_limit sets u i

pub in_units : (sets : List (List ℕ)) (u : ℕ) → in_sets u sets ≡ true → 1 ≤ u → u ≤ unit_limit → (u in? units_of sets) ≡ true
unfolding units_of
in_units sets u i h l = in_used 1 unit_limit sets u i h (omega arith)

-- every unit of a position's set is a unit of the layout
pub at_in_units : (l : Lay) → Good l → (p u : ℕ) → (u in? set_at l p) ≡ true → (u in? units_of l.sets) ≡ true
unfolding set_at
at_in_units l g p u i =
    let r = rising_within 0 (set_at l p) u (is_good_set (set_at l p) (set_at_good l g p)).rise i in
    in_units l.sets u (in_set l.sets (set_number l p) u (number_below l g p) i) r.0 r.1
