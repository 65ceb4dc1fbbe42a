-- Laws of `offer_answer`, `offered_to` and `fetched_from`: an offer that is installed is good, of the next epoch, and a lawful successor.
use Prim.Native.Nat.{ℕ, ◌+◌}
use mathlib.Core.Bool.{Bool, true, false, ◌&&◌, not, cond}
use mathlib.Core.Path.{◌≡◌, refl, sym}
use native.Mathlib.Omega.{arith}
use borrow.Author.Tests.{eq-eqb, ne_eqb, eqb-true, not-false}
use lib.Dec.{eqb}
use Rattle.num.proofs.Tests.{and_both, cond_zero}
use Rattle.layout.specs.declared.Layout.{Layout}
use Rattle.layout.specs.Value.{lay_of, good_value}
use Rattle.layout.specs.Successor.{lawful}
use Rattle.layout.specs.Holder.{offer_answer, offered_to, fetched_from}
use Rattle.layout.proofs.Lawful.{shape_kept}

module _ (held offered : Layout) where
  pub installed : offer_answer held offered ≡ 0 → record { answer = 0; held = offered } ≡ offered_to held offered
  unfolding offered_to
  installed e = sym (rw e)

  pub stays : (a : ℕ) → a ≡ offer_answer held offered → (a ≡ 0 → ⊥) → record { answer = a; held = held } ≡ offered_to held offered
  unfolding offered_to
  stays a e f = rw (← e, ne_eqb _ _ f)

  pub record Installs : Type 0 where
    pub held_good : good_value held ≡ true
    pub good : good_value offered ≡ true
    pub next : offered.epoch.0 ≡ held.epoch.0 + 1
    pub follows : lawful (lay_of held) (lay_of offered) ≡ true

  pub offer_fine : offer_answer held offered ≡ 0 → Installs
  unfolding offer_answer
  offer_fine e =
      let a = good_value held && good_value offered in
      let b = eqb offered.epoch.0 (held.epoch.0 + 1) in
      let d = lawful (lay_of held) (lay_of offered) in
      let r₁ = cond_zero (not a) 10 (cond (not b) 11 (cond (not d) 12 0)) (omega arith) e in
      let r₂ = cond_zero (not b) 11 (cond (not d) 12 0) (omega arith) r₁.1 in
      let r₃ = cond_zero (not d) 12 0 (omega arith) r₂.1 in
      let g = and_both (good_value held) (good_value offered) (not-false a r₁.0) in
      record { held_good = g.0; good = g.1; next = eqb-true _ _ (not-false b r₂.0); follows = not-false d r₃.0 }

  -- whatever is offered, the shape of what is held stays
  pub shape_stays : (offered_to held offered).held.shape ≡ held.shape
  unfolding offered_to lay_of
  shape_stays = go (eqb (offer_answer held offered) 0) refl
    where
      go : (b : Bool) → eqb (offer_answer held offered) 0 ≡ b → (cond b offered held).shape ≡ held.shape
      go true e = shape_kept (lay_of held) (lay_of offered) (offer_fine (eqb-true _ _ e)).follows
      go false e = refl

  pub fine_offer : Installs → offer_answer held offered ≡ 0
  unfolding offer_answer
  fine_offer i = rw (i.held_good, i.good, eq-eqb _ _ i.next, i.follows)

pub fetched_good : (held : Layout) → good_value held ≡ true → record { answer = 0; layout = held } ≡ fetched_from held
unfolding fetched_from
fetched_good held e = sym (rw e)
