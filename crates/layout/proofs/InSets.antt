-- Laws of `◌in?◌` and `in_sets`: one of a list, and one of a set.
use Prim.Native.Nat.{ℕ, zero, suc, ◌<◌, ◌≤◌}
use mathlib.Core.Bool.{Bool, true, false, ◌||◌}
use mathlib.Core.List.{List, [], ◌∷◌}
use mathlib.Core.Logic.{◌⊎◌, inl, inr}
use mathlib.Core.Path.{◌≡◌, refl}
use native.Mathlib.Omega.{arith}
use borrow.Author.Tests.{eqb-true, eq-eqb}
use lib.Dec.{eqb}
use lib.ListN.{length, get_or}
use Rattle.num.proofs.Tests.{false_true}
use Rattle.layout.specs.Lay.{◌in?◌, in_sets}

pub in_none : (u : ℕ) → (u in? []) ≡ true → ⊥
unfolding ◌in?◌
in_none u e = false_true e

pub in_cases : (u x : ℕ) (xs : List ℕ) → (u in? (x ∷ xs)) ≡ true → (u ≡ x) ⊎ ((u in? xs) ≡ true)
unfolding ◌in?◌
in_cases u x xs e = go (eqb u x) refl e
  where
    go : (b : Bool) → eqb u x ≡ b → (b || (u in? xs)) ≡ true → (u ≡ x) ⊎ ((u in? xs) ≡ true)
    go true s f = inl (eqb-true u x s)
    go false s f = inr f

pub in_first : (u x : ℕ) (xs : List ℕ) → u ≡ x → (u in? (x ∷ xs)) ≡ true
unfolding ◌in?◌
in_first u x xs e = rw (eq-eqb u x e)

pub in_later : (u x : ℕ) (xs : List ℕ) → (u in? xs) ≡ true → (u in? (x ∷ xs)) ≡ true
unfolding ◌in?◌
in_later u x xs e = go (eqb u x)
  where
    go : (b : Bool) → (b || (u in? xs)) ≡ true
    go true = refl
    go false = e

pub in_some : (u : ℕ) (us : List ℕ) → (u in? us) ≡ true → 1 ≤ length us
in_some u [] i = absurd (in_none u i)
in_some u (x ∷ xs) i = omega arith

pub in_set : (sets : List (List ℕ)) (k u : ℕ) → k < length sets → (u in? get_or sets k []) ≡ true → in_sets u sets ≡ true
unfolding in_sets
in_set [] k u h i = absurd (omega arith)
in_set (us ∷ sets) zero u h i = rw i
in_set (us ∷ sets) (suc k) u h i = go (u in? us) (in_set sets k u (omega arith) i)
  where
    go : (b : Bool) → in_sets u sets ≡ true → (b || in_sets u sets) ≡ true
    go true e = refl
    go false e = e
