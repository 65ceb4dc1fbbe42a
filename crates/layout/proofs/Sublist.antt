-- Laws of `sublist`: what it is without its first, what is in it, and its end.
use Prim.Native.Nat.{ℕ}
use mathlib.Core.Bool.{Bool, true, false, cond}
use mathlib.Core.List.{List, [], ◌∷◌}
use mathlib.Core.Logic.{⊎_elim}
use mathlib.Core.Path.{◌≡◌, refl, sym, ◌∙◌}
use native.Mathlib.Omega.{arith}
use borrow.Author.Tests.{eqb-true}
use lib.Dec.{eqb, eqb-suc-zero}
use lib.ListN.{length}
use Rattle.num.proofs.Tests.{false_true}
use Rattle.layout.specs.Lay.{◌in?◌}
use Rattle.layout.specs.Successor.{sublist}
use Rattle.layout.proofs.InSets.{in_none, in_cases, in_first, in_later}

pub sub_skip : (ys : List ℕ) → ((x : ℕ) (xs : List ℕ) → sublist (x ∷ xs) ys ≡ true → sublist xs ys ≡ true) → (xs : List ℕ) (y : ℕ) → sublist xs ys ≡ true → sublist xs (y ∷ ys) ≡ true
unfolding sublist
sub_skip ys shorter [] y s = refl
sub_skip ys shorter (x ∷ xs) y s = go (eqb x y)
  where
    go : (b : Bool) → cond b (sublist xs ys) (sublist (x ∷ xs) ys) ≡ true
    go true = shorter x xs s
    go false = s

pub sub_shorter : (ys : List ℕ) (x : ℕ) (xs : List ℕ) → sublist (x ∷ xs) ys ≡ true → sublist xs ys ≡ true
unfolding sublist
sub_shorter [] x xs s = absurd (false_true s)
sub_shorter (y ∷ ys) x xs s = sub_skip ys (sub_shorter ys) xs y (go (eqb x y) s (sub_shorter ys x xs))
  where
    go : (b : Bool) → cond b (sublist xs ys) (sublist (x ∷ xs) ys) ≡ true → (sublist (x ∷ xs) ys ≡ true → sublist xs ys ≡ true) → sublist xs ys ≡ true
    go true t shorter = t
    go false t shorter = shorter t

pub sublist_in : (xs ys : List ℕ) (u : ℕ) → sublist xs ys ≡ true → (u in? xs) ≡ true → (u in? ys) ≡ true
unfolding sublist
sublist_in [] ys u s i = absurd (in_none u i)
sublist_in (x ∷ xs) [] u s i = absurd (false_true s)
sublist_in (x ∷ xs) (y ∷ ys) u s i = go (eqb x y) refl s (λ t j. sublist_in xs ys u t j) (λ t. sublist_in (x ∷ xs) ys u t i)
  where
    go : (b : Bool) → eqb x y ≡ b → cond b (sublist xs ys) (sublist (x ∷ xs) ys) ≡ true → (sublist xs ys ≡ true → (u in? xs) ≡ true → (u in? ys) ≡ true)
        → (sublist (x ∷ xs) ys ≡ true → (u in? ys) ≡ true) → (u in? (y ∷ ys)) ≡ true
    go true e t both skip = ⊎_elim (λ f. in_first u y ys (f ∙ eqb-true x y e)) (λ j. in_later u y ys (both t j)) (in_cases u x xs i)
    go false e t both skip = in_later u y ys (skip t)

-- nothing is left to be found
pub sublist_end : (xs ys : List ℕ) → length ys ≡ 0 → sublist xs ys ≡ eqb (length xs) 0
unfolding sublist
sublist_end [] ys h = refl
sublist_end (x ∷ xs) [] h = sym (eqb-suc-zero (length xs))
sublist_end (x ∷ xs) (y ∷ ys) h = absurd (omega arith)
