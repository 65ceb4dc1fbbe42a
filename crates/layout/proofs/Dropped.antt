-- Laws of `bad_drops`: the units outside 1 to 8 apart, and each of the others looked for once.
use Prim.Native.Nat.{ℕ, suc, ◌+◌, ◌<◌, ◌≤◌}
use mathlib.Core.Bool.{Bool, true, false, ◌&&◌, ◌||◌, not, or-false, or-true}
use mathlib.Core.List.{List, [], ◌∷◌, map}
use mathlib.Core.Logic.{⊎_elim}
use mathlib.Core.Path.{◌≡◌, refl, sym, ◌∙◌}
use native.Mathlib.Omega.{arith}
use borrow.Author.Tests.{eqb-true, eqb-false, leb-true, not-false}
use lib.Dec.{eqb, leb}
use lib.ListN.{length, get_or, drop}
use Rattle.num.proofs.Tests.{and_both, or_false}
use Rattle.layout.specs.declared.Chain.{Chain}
use Rattle.layout.specs.Lay.{◌in?◌, in_sets, unit_limit}
use Rattle.layout.specs.Value.{units_in}
use Rattle.layout.specs.Plan.{bad_drops}
use Rattle.layout.proofs.Any.{any_more, any_over, any_bad}
use Rattle.layout.proofs.InSets.{in_none, in_cases, in_first, in_later}

-- ---- outside 1 to 8: no new set is looked at

-- the loop over one unit a turn
module _ (drops : List ℕ) (i : ℕ) (outside : Bool) where
  pub outside_more : i < length drops → (outside || bad_drops (drop i drops) []) ≡ bad_drops drops []
      → ((outside || not (leb 1 (get_or drops i 0) && leb (get_or drops i 0) unit_limit)) || bad_drops (drop (i + 1) drops) []) ≡ bad_drops drops []
  unfolding in_sets
  outside_more h s = any_more (any_bad []) drops i outside 0 (not (leb 1 (get_or drops i 0) && leb (get_or drops i 0) unit_limit)) h (sym (or-false (not (leb 1 (get_or drops i 0) && leb (get_or drops i 0) unit_limit)))) ∙ s

  pub outside_all : length drops ≤ i → (outside || bad_drops (drop i drops) []) ≡ bad_drops drops [] → outside ≡ bad_drops drops []
  outside_all h s = sym (any_over (any_bad []) drops i outside h) ∙ s

-- with new sets no fewer drops are bad
fewer_bad : (drops : List ℕ) (new : List (List ℕ)) → bad_drops drops new ≡ false → bad_drops drops [] ≡ false
unfolding bad_drops in_sets
fewer_bad [] new h = refl
fewer_bad (u ∷ us) new h =
    let p = or_false (not (leb 1 u && leb u unit_limit) || in_sets u new) (bad_drops us new) h in
    let q = or_false (not (leb 1 u && leb u unit_limit)) (in_sets u new) p.0 in
    rw q.0 (fewer_bad us new p.1)

pub outside_bad : (drops : List ℕ) (new : List (List ℕ)) → bad_drops drops [] ≡ true → bad_drops drops new ≡ true
outside_bad drops new e = go (bad_drops drops new) refl
  where
    go : (t : Bool) → bad_drops drops new ≡ t → t ≡ true
    go true h = refl
    go false h = sym (fewer_bad drops new h) ∙ e

-- a unit to drop, where none is outside
inside : (drops : List ℕ) (v : ℕ) → bad_drops drops [] ≡ false → (v in? drops) ≡ true → (1 ≤ v) × (v ≤ unit_limit)
unfolding bad_drops
inside [] v e i = absurd (in_none v i)
inside (u ∷ us) v e i =
    let p = or_false (not (leb 1 u && leb u unit_limit) || in_sets u []) (bad_drops us []) e in
    let q = or_false (not (leb 1 u && leb u unit_limit)) (in_sets u []) p.0 in
    let w = and_both (leb 1 u) (leb u unit_limit) (not-false (leb 1 u && leb u unit_limit) q.0) in
    let low : 1 ≤ u = leb-true 1 u w.0 in
    let high : u ≤ unit_limit = leb-true u unit_limit w.1 in
    ⊎_elim (λ (same : v ≡ u). (omega arith, omega arith)) (λ j. inside us v p.1 j) (in_cases v u us i)

-- ---- named in a new set

pub named_bad : (drops : List ℕ) (new : List (List ℕ)) (v : ℕ) → (v in? drops) ≡ true → in_sets v new ≡ true → bad_drops drops new ≡ true
unfolding bad_drops
named_bad [] new v i s = absurd (in_none v i)
named_bad (u ∷ us) new v i s = ⊎_elim here (λ j. rw (named_bad us new v j s) (or-true (not (leb 1 u && leb u unit_limit) || in_sets u new))) (in_cases v u us i)
  where
    here : v ≡ u → (not (leb 1 u && leb u unit_limit) || in_sets u new || bad_drops us new) ≡ true
    here same =
        let named : in_sets u new ≡ true = rw same at s in
        rw (named, or-true (not (leb 1 u && leb u unit_limit)))

none_bad : (drops : List ℕ) (new : List (List ℕ)) → bad_drops drops [] ≡ false → ((v : ℕ) → (v in? drops) ≡ true → in_sets v new ≡ false) → bad_drops drops new ≡ false
unfolding bad_drops
none_bad [] new e n = refl
none_bad (u ∷ us) new e n =
    let p = or_false (not (leb 1 u && leb u unit_limit) || in_sets u []) (bad_drops us []) e in
    let q = or_false (not (leb 1 u && leb u unit_limit)) (in_sets u []) p.0 in
    rw (q.0, n u (in_first u u us refl)) (none_bad us new p.1 (λ v j. n v (in_later v u us j)))

-- ---- the loop over the units: of those below k none is both dropped and named

abbrev pub Unnamed : List ℕ → List (List ℕ) → ℕ → Type 0
Unnamed drops new k = (v : ℕ) → 1 ≤ v → v < k → (v in? drops) ≡ true → in_sets v new ≡ false

module _ (drops : List ℕ) (new : List (List ℕ)) where
  pub unnamed_first : Unnamed drops new 1
  unnamed_first v low high i = absurd (omega arith)

  unnamed_next : (k : ℕ) → Unnamed drops new k → ((k in? drops) ≡ true → in_sets k new ≡ false) → Unnamed drops new (k + 1)
  unnamed_next k s here v low high i = go (eqb v k) refl
    where
      go : (t : Bool) → eqb v k ≡ t → in_sets v new ≡ false
      go true e = let same : v ≡ k = eqb-true v k e in rw same (here (rw same at i))
      go false e = s v low (omega (arith, eqb-false v k e)) i

  pub unnamed_skip : (k : ℕ) → Unnamed drops new k → (k in? drops) ≡ false → Unnamed drops new (k + 1)
  unnamed_skip k s none = unnamed_next k s (λ i. let z : ◌≡◌ {A = Bool} true false = sym i ∙ none in cc)

  pub unnamed_more : (k : ℕ) → Unnamed drops new k → in_sets k new ≡ false → Unnamed drops new (k + 1)
  unnamed_more k s none = unnamed_next k s (λ i. none)

  pub unnamed_all : (k : ℕ) → Unnamed drops new k → unit_limit < k → bad_drops drops [] ≡ false → false ≡ bad_drops drops new
  unnamed_all k s h e = sym (none_bad drops new e (λ v i. let w = inside drops v e i in s v w.0 (omega (arith, w.1)) i))

-- where there are no sets, none is named
pub none_named : (drops : List ℕ) (cs : List Chain) → eqb (length cs) 0 ≡ true → bad_drops drops [] ≡ false → false ≡ bad_drops drops (map units_in cs)
none_named drops [] z e = sym e
none_named drops (c ∷ cs) z e = let none : suc (length cs) ≡ 0 = eqb-true (suc (length cs)) 0 z in absurd (omega arith)
