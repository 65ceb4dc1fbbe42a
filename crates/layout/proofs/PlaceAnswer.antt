-- Laws of `place_answer`, `placed_at` and `units_at`: where a position is not refused, the value is good.
use Prim.Native.Nat.{ℕ, ◌<◌}
use mathlib.Core.Bool.{Bool, true, false, ◌&&◌, not, cond}
use mathlib.Core.List.{List, []}
use mathlib.Core.Path.{◌≡◌, refl, sym, ap, ◌∙◌}
use native.Mathlib.Omega.{arith}
use borrow.Author.Tests.{eqb-true, eq-eqb, ne_eqb, leb-false, not-false}
use Rattle.std.proofs.Common.{Ok, Err}
use lib.Dec.{eqb, leb}
use lib.ListN.{length, get_or}
use Rattle.num.specs.Limits.{limit}
use Rattle.num.specs.declared.refusal.Refusal.{Refusal}
use Rattle.num.proofs.Tests.{and_both, cond_zero}
use Rattle.num.proofs.Refusals.{number_above}
use Rattle.layout.specs.declared.Layout.{Layout}
use Rattle.layout.specs.Lay.{good, good_set, rising, set_limit, sets_limit}
use Rattle.layout.specs.Value.{lay_of, units_in, tidy, good_value}
use Rattle.layout.specs.Places.{set_number, set_at, place_answer, Placed, placed_in, placed_at, units_at}
use Rattle.layout.proofs.Take.{past_sets, front_at, front_length}
use Rattle.layout.proofs.GoodLay.{good_says}
use Rattle.layout.proofs.SetNumber.{number_below, set_at_good}

good_rises : (us : List ℕ) → good_set us ≡ true → rising 0 us ≡ true
unfolding good_set
good_rises us g = (and_both (leb 1 (length us) && leb (length us) set_limit) (rising 0 us) g).1

module _ (l : Layout) (p : ℕ) where
  -- a position that is not refused, in a good layout
  pub record Stands : Type 0 where
    pub value : good_value l ≡ true
    pub lay : good (lay_of l) ≡ true
    pub small : p < limit

  pub place_fine : place_answer l p ≡ 0 → Stands
  unfolding place_answer good_value
  place_fine e =
      let r = cond_zero (leb limit p) 2 (cond (not (good_value l)) 10 0) (omega arith) e in
      let q = cond_zero (not (good_value l)) 10 0 (omega arith) r.1 in
      let v = not-false (good_value l) q.0 in
      record { value = v; lay = (and_both (good (lay_of l)) (tidy l) v).0; small = leb-false limit p r.0 }

  pub units_there : place_answer l p ≡ 0 → units_at l p ≡ set_at (lay_of l) p
  unfolding units_at
  units_there e = rw (eq-eqb _ _ e)

  pub units_refused : (place_answer l p ≡ 0 → ⊥) → units_at l p ≡ []
  unfolding units_at
  units_refused e = rw (ne_eqb _ _ e)

  pub number_small : good (lay_of l) ≡ true → length l.sets ≡ sets_limit → (set_number (lay_of l) p < l.set_count) × (set_number (lay_of l) p < sets_limit)
  unfolding lay_of
  number_small g e = omega (arith, number_below (lay_of l) (good_says (lay_of l) g) p, front_length units_in l.set_count l.sets)

  -- the chain at the set's number holds the set's units
  pub chain_there : good (lay_of l) ≡ true → length l.sets ≡ sets_limit → units_in (get_or l.sets (set_number (lay_of l) p) past_sets) ≡ set_at (lay_of l) p
  unfolding set_at lay_of
  chain_there g e = front_at units_in l.set_count l.sets (set_number (lay_of l) p) past_sets (number_small g e).0

  pub units_rise : rising 0 (units_at l p) ≡ true
  unfolding units_at rising
  units_rise = go (eqb (place_answer l p) 0) refl
    where
      go : (b : Bool) → eqb (place_answer l p) 0 ≡ b → rising 0 (cond b (set_at (lay_of l) p) []) ≡ true
      go true e = good_rises _ (set_at_good (lay_of l) (good_says (lay_of l) (place_fine (eqb-true _ _ e)).lay) p)
      go false e = refl

  -- the set that is found
  pub record Found (k : ℕ) : Type 0 where
    pub within : k < sets_limit
    pub units : units_in (get_or l.sets k past_sets) ≡ units_at l p

  pub found : (k : ℕ) → length l.sets ≡ sets_limit → placed_in (Ok k) ≡ placed_at l p → Found k
  unfolding placed_at
  found k room e =
      let fine : place_answer l p ≡ 0 = sym (ap (λ (r : Placed). r.answer) e) in
      let g = (place_fine fine).lay in
      let number : k ≡ set_number (lay_of l) p = rw (eq-eqb _ _ fine) at (ap (λ (r : Placed). r.set) e) in
      record {
        within = rw number (number_small g room).1;
        units = rw number (chain_there g room) ∙ sym (units_there fine);
      }

  pub found_none : (r : Refusal) → placed_in (Err r) ≡ placed_at l p → units_at l p ≡ []
  unfolding placed_at
  found_none r e = units_refused (λ fine. number_above r (ap (λ (q : Placed). q.answer) e ∙ fine))
