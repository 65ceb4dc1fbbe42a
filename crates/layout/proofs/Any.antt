-- Laws of the test `bad_drops` that asks for any entry: the loop over one entry a turn.
use Prim.Native.Nat.{ℕ, suc, ◌+◌, ◌<◌, ◌≤◌}
use mathlib.Core.Bool.{Bool, false, ◌&&◌, ◌||◌, not, or_assoc, or-false}
use mathlib.Core.List.{List, [], ◌∷◌}
use mathlib.Core.Path.{◌≡◌, refl}
use native.Mathlib.Numerals.{add-one}
use lib.Dec.{leb}
use lib.ListN.{length, get_or, drop, drop_of_length-le}
use lib.Seq.{drop-cons}
use Rattle.layout.specs.Lay.{in_sets, unit_limit}
use Rattle.layout.specs.Plan.{bad_drops}

-- `found` among those passed, and P of those that are left
pub record Any {B : Type 0} (P : List B → Bool) (test : B → Bool) : Type 0 where
  pub none : P [] ≡ false
  pub step : (b : B) (bs : List B) → P (b ∷ bs) ≡ (test b || P bs)

module _ {B : Type 0} {P : List B → Bool} {test : B → Bool} (any : Any P test) (bs : List B) (i : ℕ) (found : Bool) where
  pub any_more : (d : B) (here : Bool) → i < length bs → here ≡ test (get_or bs i d) → ((found || here) || P (drop (i + 1) bs)) ≡ (found || P (drop i bs))
  any_more d here h e = rw (add-one, drop-cons bs i d h, any.step (get_or bs i d) (drop (suc i) bs), e, or_assoc)

  pub any_over : length bs ≤ i → (found || P (drop i bs)) ≡ found
  any_over h = rw (drop_of_length-le bs h, any.none, or-false)

pub any_bad : (new : List (List ℕ)) → Any (λ us. bad_drops us new) (λ u. not (leb 1 u && leb u unit_limit) || in_sets u new)
unfolding bad_drops
any_bad new = record { none = refl; step = λ b bs. refl }
