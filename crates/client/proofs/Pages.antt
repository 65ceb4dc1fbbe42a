-- A page's bytes: those that there is room for, and blank past them.
use Prim.Native.Nat.{ℕ, zero, suc, min}
use mathlib.Core.List.{List, [], ◌∷◌, ◌++◌}
use mathlib.Core.Path.{◌≡◌, refl, ap}
use native.Mathlib.Omega.{arith}
use lib.ListN.{length, take, drop, replicate}
use Rattle.layout.specs.Value.{padded}

kept_none : (n : ℕ) → replicate {A = ℕ} n 0 ≡ padded n 0 []
unfolding padded
kept_none zero = refl
kept_none (suc n) = ap (λ (l : List ℕ). 0 ∷ l) (kept_none n)

-- what a page is made of: the bytes that there is room for, over blanks
pub padded_copied : (n : ℕ) (xs : List ℕ) → take (min (length xs) n) xs ++ drop (min (length xs) n) (replicate n 0) ≡ padded n 0 xs
unfolding padded
padded_copied zero xs = let none : min (length xs) 0 ≡ 0 = omega arith in rw none
padded_copied (suc n) [] = let none : min 0 (suc n) ≡ 0 = omega arith in rw none (ap (λ (l : List ℕ). 0 ∷ l) (kept_none n))
padded_copied (suc n) (x ∷ xs) =
    let more : min (suc (length xs)) (suc n) ≡ suc (min (length xs) n) = omega arith in
    rw more (ap (λ (l : List ℕ). x ∷ l) (padded_copied n xs))
