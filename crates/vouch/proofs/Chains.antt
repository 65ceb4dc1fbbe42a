-- How many units of a set come before one: a walk from the head to the tail passes them one by one, and a set has four.
-- Rests on the layout's laws.
use mathlib.Core.Path.{◌≡◌, refl, sym, ap, subst}
use mathlib.Core.Bool.{Bool, true, false, cond}
use mathlib.Core.List.{List, [], ◌∷◌}
use mathlib.Core.Logic.{⊎_elim}
use Prim.Native.Nat.{ℕ, zero, suc, ◌+◌, ◌<◌, ◌≤◌}
use native.Mathlib.Omega.{arith}
use native.Mathlib.Decide.{ℕ_discrete}
use borrow.Author.Tests.{eqb-true, eq-eqb, ne_eqb}
use lib.Dec.{eqb}
use lib.ListN.{length}
use Rattle.layout.specs.declared.Layout.{Layout}
use Rattle.layout.specs.Lay.{◌in?◌, rising}
use Rattle.layout.specs.Value.{lay_of}
use Rattle.layout.specs.Places.{set_at, head_of, after, place_answer, units_at}
use Rattle.layout.proofs.GoodLay.{good_says}
use Rattle.layout.proofs.GoodSets.{GoodSet, is_good_set}
use Rattle.layout.proofs.InSets.{in_none, in_cases}
use Rattle.layout.proofs.NextUnit.{after_next}
use Rattle.layout.proofs.PlaceAnswer.{place_fine, units_there, units_refused}
use Rattle.layout.proofs.Rising.{Rises, rises, rising_within}
use Rattle.layout.proofs.SetNumber.{set_at_good}

-- the units before u
unfoldable pub ahead : ℕ → List ℕ → ℕ
ahead u [] = 0
ahead u (x ∷ xs) = cond (eqb u x) 0 (suc (ahead u xs))

pub ahead_head : (us : List ℕ) → ahead (head_of us) us ≡ 0
unfolding ahead head_of
ahead_head [] = refl
ahead_head (x ∷ xs) = ap (λ b. cond b 0 (suc (ahead x xs))) (eq-eqb x x refl)

-- past the first unit
past : (u x : ℕ) (xs : List ℕ) → ¬ (u ≡ x) → ahead u (x ∷ xs) ≡ suc (ahead u xs)
unfolding ahead
past u x xs ne = ap (λ b. cond b 0 (suc (ahead u xs))) (ne_eqb u x ne)

pub ahead_within : (u : ℕ) (us : List ℕ) → (u in? us) ≡ true → ahead u us < length us
unfolding ahead
ahead_within u [] i = absurd (in_none u i)
ahead_within u (x ∷ xs) i = go (ℕ_discrete u x) (λ j. ahead_within u xs j)
  where
    go : Dec (u ≡ x) → ((u in? xs) ≡ true → ahead u xs < length xs) → ahead u (x ∷ xs) < length (x ∷ xs)
    go (yes e) later = let z : ahead u (x ∷ xs) ≡ 0 = ap (λ b. cond b 0 (suc (ahead u xs))) (eq-eqb u x e) in omega (arith, z)
    go (no ne) later = ⊎_elim (λ e. absurd (ne e)) (λ j. omega (arith, past u x xs ne, later j)) (in_cases u x xs i)

-- the unit after u is one further
pub ahead_after : (low : ℕ) (us : List ℕ) (u : ℕ) → rising low us ≡ true → ¬ (after u us ≡ 0) → ahead (after u us) us ≡ suc (ahead u us)
unfolding ahead after head_of
ahead_after low [] u r more = absurd (more refl)
ahead_after low (x ∷ xs) u r more = go (eqb u x) more (λ m. ahead_after x xs u s.rest m)
  where
    s : Rises low x xs
    s = rises low x xs r

    here : (ys : List ℕ) → rising x ys ≡ true → ¬ (head_of ys ≡ 0) → ahead (head_of ys) (x ∷ ys) ≡ 1
    here [] t m = absurd (m refl)
    here (y ∷ ys) t m =
        let y_above : x < y = (rises x y ys t).from in
        let first : ahead y (y ∷ ys) ≡ 0 = ahead_head (y ∷ ys) in
        omega (arith, past y x (y ∷ ys) (λ e. omega (arith, e, y_above)), first)

    go : (b : Bool) → ¬ (cond b (head_of xs) (after u xs) ≡ 0) → (¬ (after u xs ≡ 0) → ahead (after u xs) xs ≡ suc (ahead u xs)) →
        ahead (cond b (head_of xs) (after u xs)) (x ∷ xs) ≡ suc (cond b 0 (suc (ahead u xs)))
    go true m later = here xs s.rest m
    go false m later =
        let v = after u xs in
        let above = (rising_within x xs v s.rest (after_next x xs u s.rest m).inside).0 in
        omega (arith, past v x xs (λ e. omega (arith, e, above)), later m)

-- ---- the set of a position, as a client finds it

-- rising, and of four units at most
pub record Short (us : List ℕ) : Type 0 where
  pub rise : rising 0 us ≡ true
  pub few : length us ≤ 4

pub short : (l : Layout) (p : ℕ) → Short (units_at l p)
unfolding rising
short l p = go (ℕ_discrete (place_answer l p) 0)
  where
    go : Dec (place_answer l p ≡ 0) → Short (units_at l p)
    go (yes e) =
        let good = is_good_set (set_at (lay_of l) p) (set_at_good (lay_of l) (good_says (lay_of l) (place_fine l p e).lay) p) in
        subst Short (sym (units_there l p e)) (record { rise = good.rise; few = good.few })
    go (no ne) = subst Short (sym (units_refused l p ne)) (record { rise = refl; few = omega arith })

-- the next unit of the walk
pub next_ahead : (l : Layout) (p u : ℕ) → ¬ (after u (units_at l p) ≡ 0) → (ahead (after u (units_at l p)) (units_at l p) ≡ suc (ahead u (units_at l p))) × (ahead (after u (units_at l p)) (units_at l p) ≤ 3)
next_ahead l p u more =
    let us = units_at l p in
    let ok = short l p in
    (ahead_after 0 us u ok.rise more, omega (arith, ok.few, ahead_within (after u us) us (after_next 0 us u ok.rise more).inside))
