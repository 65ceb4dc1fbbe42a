-- The answers of a placing and of an offer over layouts that were read from bytes.
use Prim.Native.Nat.{ℕ}
use mathlib.Core.Bool.{cond}
use mathlib.Core.Path.{◌≡◌, sym, ap, ◌∙◌}
use lib.Dec.{eqb}
use Rattle.layout.specs.declared.Layout.{Layout}
use Rattle.layout.specs.Value.{lay_of}
use Rattle.layout.specs.Places.{Placed, place_answer, placed_at, set_number}
use Rattle.layout.specs.Holder.{Offered, offer_answer, offered_to}

-- ---- a position's set

pub place_answered : (l m : Layout) (p : ℕ) (r : Placed) → m ≡ l → r ≡ placed_at m p → r.answer ≡ place_answer l p
unfolding placed_at
place_answered l m p r em e = ap (λ (q : Placed). q.answer) e ∙ ap (λ (k : Layout). place_answer k p) em

pub place_found : (l m : Layout) (p : ℕ) (r : Placed) → m ≡ l → r ≡ placed_at m p → r.answer ≡ 0 → r.set ≡ set_number (lay_of l) p
unfolding placed_at
place_found l m p r em e z =
    let a : place_answer l p ≡ 0 = sym (place_answered l m p r em e) ∙ z in
    let s : r.set ≡ cond (eqb (place_answer l p) 0) (set_number (lay_of l) p) 0 = rw em at (ap (λ (q : Placed). q.set) e) in
    rw a at s

-- ---- an offer

pub offer_answered : (h l o n : Layout) (r : Offered) → h ≡ l → o ≡ n → r ≡ offered_to h o → r.answer ≡ offer_answer l n
unfolding offered_to
offer_answered h l o n r eh eo e = rw (eh, eo) at (ap (λ (q : Offered). q.answer) e)
