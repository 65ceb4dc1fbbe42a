-- Laws of `same`: two lists of bytes that are the same.
use Prim.Native.Nat.{ℕ}
use mathlib.Core.Bool.{true}
use mathlib.Core.List.{List, [], ◌∷◌}
use mathlib.Core.Path.{◌≡◌, refl}
use borrow.Author.Tests.{eqb-true, eq-eqb}
use lib.Dec.{eqb}
use lib.Pointwise.{pointwise}
use Rattle.num.proofs.Tests.{false_true, and_both}
use Rattle.layout.specs.Codec.{same}

pub same_is : (xs ys : List ℕ) → same xs ys ≡ pointwise eqb xs ys
unfolding same
same_is [] [] = refl
same_is [] (y ∷ ys) = refl
same_is (x ∷ xs) [] = refl
same_is (x ∷ xs) (y ∷ ys) = rw (same_is xs ys)

pub same_eq : (xs ys : List ℕ) → same xs ys ≡ true → xs ≡ ys
unfolding same
same_eq [] [] h = refl
same_eq [] (y ∷ ys) h = absurd (false_true h)
same_eq (x ∷ xs) [] h = absurd (false_true h)
same_eq (x ∷ xs) (y ∷ ys) h =
    let p = and_both (eqb x y) (same xs ys) h in
    rw (eqb-true x y p.0, same_eq xs ys p.1)

pub same_self : (xs : List ℕ) → same xs xs ≡ true
unfolding same
same_self [] = refl
same_self (x ∷ xs) = rw (eq-eqb x x refl) (same_self xs)
