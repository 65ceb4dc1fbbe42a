-- The stopped units, to be dropped: the new layout has exactly working ones, and where each set has one, none is emptied.
-- Rests on the layout's laws.
use mathlib.Core.Path.{◌≡◌, refl, sym, ap, subst, ◌∙◌}
use mathlib.Core.Bool.{Bool, true, false, not, ◌||◌, cond}
use mathlib.Core.List.{List, [], ◌∷◌, ◌++◌, map, append-nil}
use Prim.Native.Nat.{ℕ, zero, suc, ◌+◌, ◌-◌, ◌≤◌, ◌<◌}
use native.Mathlib.Omega.{arith}
use borrow.Author.Tests.{eq-eqb, ne_eqb, le-leb, leb-true, not-true, eqb-true}
use lib.Dec.{eqb, leb}
use lib.ListN.{length, get_or}
use Rattle.num.proofs.Tests.{and_both, false_true, neither}
use Rattle.num.proofs.Bools.{and_intro}
use Rattle.layout.specs.Lay.{◌in?◌, in_sets, units_of}
use Rattle.layout.specs.Plan.{without, bad_drops, emptied}
use Rattle.layout.proofs.InSets.{in_some}
use Rattle.layout.proofs.UnitsOf.{units_in_lem, units_rise}
use Rattle.layout.proofs.Rising.{rising_within}
use Rattle.rule.specs.World.{is_unit, running}
use Rattle.vouch.specs.LastSentence.{stopped_from, WorkingUnit}

-- ---- the stopped units

below_none : (k : ℕ) (bs : List Bool) (u : ℕ) → u < k → (u in? stopped_from k bs) ≡ false
unfolding stopped_from ◌in?◌
below_none k [] u lt = refl
below_none k (b ∷ bs) u lt = go b (below_none (suc k) bs u (omega arith))
  where
    go : (b : Bool) → (u in? stopped_from (suc k) bs) ≡ false → (u in? cond b (k ∷ stopped_from (suc k) bs) (stopped_from (suc k) bs)) ≡ false
    go true e = neither (eqb u k) (u in? stopped_from (suc k) bs) (ne_eqb u k (λ z. omega arith)) e
    go false e = e

stopped_in : (k : ℕ) (bs : List Bool) (u i : ℕ) → i < length bs → u ≡ k + i → (u in? stopped_from k bs) ≡ get_or bs i true
unfolding stopped_from ◌in?◌
stopped_in k [] u i lt at = absurd (omega arith)
stopped_in k (true ∷ bs) u zero lt at = rw (eq-eqb u k (omega arith))
stopped_in k (false ∷ bs) u zero lt at = below_none (suc k) bs u (omega arith)
stopped_in k (true ∷ bs) u (suc i) lt at = rw (ne_eqb u k (λ z. omega arith)) (stopped_in (suc k) bs u i (omega arith) (omega arith))
stopped_in k (false ∷ bs) u (suc i) lt at = stopped_in (suc k) bs u i (omega arith) (omega arith)

pub stopped_few : (k : ℕ) (bs : List Bool) → length (stopped_from k bs) ≤ length bs
unfolding stopped_from
stopped_few k [] = omega arith
stopped_few k (true ∷ bs) = omega (arith, stopped_few (suc k) bs)
stopped_few k (false ∷ bs) = omega (arith, stopped_few (suc k) bs)

none_bad : (k : ℕ) (bs : List Bool) → 1 ≤ k → k + length bs ≤ 9 → bad_drops (stopped_from k bs) [] ≡ false
unfolding stopped_from bad_drops in_sets
none_bad k [] low high = refl
none_bad k (true ∷ bs) low high = rw (le-leb 1 k low, le-leb k 8 (omega arith)) (none_bad (suc k) bs (omega arith) (omega arith))
none_bad k (false ∷ bs) low high = none_bad (suc k) bs (omega arith) (omega arith)

-- ---- a set without them

without_keeps : (drops us : List ℕ) (u : ℕ) → (u in? us) ≡ true → (u in? drops) ≡ false → (u in? without drops us) ≡ true
unfolding without ◌in?◌
without_keeps drops [] u a b = absurd (false_true a)
without_keeps drops (v ∷ vs) u a b = go (eqb u v) (v in? drops) refl refl a (without_keeps drops vs u)
  where
    go : (t d : Bool) → eqb u v ≡ t → (v in? drops) ≡ d → (t || (u in? vs)) ≡ true →
        ((u in? vs) ≡ true → (u in? drops) ≡ false → (u in? without drops vs) ≡ true) → (u in? cond d (without drops vs) (v ∷ without drops vs)) ≡ true
    go true true e f h rest = absurd (false_true (sym (rw (eqb-true u v e) at b) ∙ f))
    go true false e f h rest = rw e
    go false true e f h rest = rest h b
    go false false e f h rest = rw e (rest h b)

without_none : (drops us : List ℕ) (u : ℕ) → (u in? without drops us) ≡ true → (u in? drops) ≡ false
unfolding without ◌in?◌
without_none drops [] u a = absurd (false_true a)
without_none drops (v ∷ vs) u a = go (v in? drops) refl (without_none drops vs u) a
  where
    here : (t : Bool) → eqb u v ≡ t → (v in? drops) ≡ false → (t || (u in? without drops vs)) ≡ true →
        ((u in? without drops vs) ≡ true → (u in? drops) ≡ false) → (u in? drops) ≡ false
    here true e f a rest = rw (eqb-true u v e) f
    here false e f a rest = rest a

    go : (d : Bool) → (v in? drops) ≡ d → ((u in? without drops vs) ≡ true → (u in? drops) ≡ false) →
        (u in? cond d (without drops vs) (v ∷ without drops vs)) ≡ true → (u in? drops) ≡ false
    go true f rest a = rest a
    go false f rest a = here (eqb u v) refl f a rest

sets_none : (drops : List ℕ) (sets : List (List ℕ)) (u : ℕ) → in_sets u (map (without drops) sets) ≡ true → (u in? drops) ≡ false
unfolding in_sets
sets_none drops [] u a = absurd (false_true a)
sets_none drops (us ∷ sets) u a = go (u in? without drops us) refl a (sets_none drops sets u)
  where
    go : (t : Bool) → (u in? without drops us) ≡ t → (t || in_sets u (map (without drops) sets)) ≡ true → (in_sets u (map (without drops) sets) ≡ true → (u in? drops) ≡ false) → (u in? drops) ≡ false
    go true e h rest = without_none drops us u e
    go false e h rest = rest h

module _ (stopped : List Bool) (eight : length stopped ≡ 8) where
  abbrev drops : List ℕ
  drops = stopped_from 1 stopped

  pub in_drops : (u : ℕ) → 1 ≤ u → u ≤ 8 → (u in? drops) ≡ get_or stopped (u - 1) true
  in_drops u low high = stopped_in 1 stopped u (u - 1) (omega (arith, eight)) (omega arith)

  pub drops_good : bad_drops drops [] ≡ false
  drops_good = none_bad 1 stopped (omega arith) (omega (arith, eight))

  pub drops_few : length drops ≤ 8
  drops_few = omega (arith, eight, stopped_few 1 stopped)

  working_stays : (u : ℕ) → running stopped u ≡ true → (u in? drops) ≡ false
  working_stays u works =
      let r = and_both (is_unit u) (not (get_or stopped (u - 1) true)) works in
      let i = and_both (leb 1 u) (leb u 8) r.0 in
      in_drops u (leb-true 1 u i.0) (leb-true u 8 i.1) ∙ not-true (get_or stopped (u - 1) true) r.1

  pub none_emptied : (sets : List (List ℕ)) → ((k : ℕ) → k < length sets → WorkingUnit stopped (get_or sets k [])) → emptied drops sets ≡ false
  unfolding emptied
  none_emptied [] has = refl
  none_emptied (us ∷ sets) has =
      let one = has 0 (omega arith) in
      neither (eqb (length (without drops us)) 0) (emptied drops sets)
      (ne_eqb (length (without drops us)) 0 (λ z. omega (arith, in_some one.unit (without drops us) (without_keeps drops us one.unit one.inside (working_stays one.unit one.works)))))
      (none_emptied sets (λ k lt. has (suc k) (omega arith)))

  -- every unit that is left works
  pub left_work : (sets : List (List ℕ)) (u : ℕ) → (u in? units_of (map (without drops) sets ++ [])) ≡ true → running stopped u ≡ true
  left_work sets u h =
      let range = rising_within 0 (units_of (map (without drops) sets ++ [])) u (units_rise (map (without drops) sets ++ [])) h in
      let some = units_in_lem (map (without drops) sets ++ []) u h in
      let gone = sets_none drops sets u (subst (λ ss. in_sets u ss ≡ true) (append-nil (map (without drops) sets)) some) in
      and_intro (is_unit u) (not (get_or stopped (u - 1) true))
      (and_intro (leb 1 u) (leb u 8) (le-leb 1 u (omega (arith, range.0))) (le-leb u 8 range.1))
      (ap not (sym (in_drops u (omega (arith, range.0)) range.1) ∙ gone))
