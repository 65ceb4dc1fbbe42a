-- The table when its first places have become blank.
use mathlib.Core.Path.{◌≡◌, refl, ap}
use mathlib.Core.List.{List, [], ◌∷◌, ◌++◌}
use Prim.Native.Nat.{ℕ, zero, suc, min}
use native.Mathlib.Nat.{zero-min, min-zero, suc-min-suc}
use lib.ListN.{length, take, drop, replicate}
use native.Mathlib.Omega.{arith}
use Rattle.rule.specs.World.{blank_letter as blank}
use Rattle.yard.specs.Bag.{blanked}
use Rattle.rule.specs.declared.Letter.{Letter}

-- the first n filled, or all where there are fewer
pub blanked_is : (ls : List Letter) (n : ℕ) → replicate (length (take (min n (length ls)) ls)) blank ++ drop (min n (length ls)) ls ≡ blanked ls n
unfolding blanked
blanked_is [] zero = refl
blanked_is [] (suc n) = rw (min-zero (suc n))
blanked_is (l ∷ ls) zero = rw (zero-min (suc (length ls)))
blanked_is (l ∷ ls) (suc n) = rw (suc-min-suc n (length ls)) (ap (λ (t : List Letter). blank ∷ t) (blanked_is ls n))

pub blanked_whole : (ls : List Letter) (n : ℕ) → length ls ≡ n → blanked ls n ≡ replicate n blank
unfolding blanked
blanked_whole [] n e = rw (← e)
blanked_whole (l ∷ ls) zero e = absurd (more (length ls) e)
  where
    more : (k : ℕ) → suc k ≡ 0 → ⊥
    more k z = omega arith
blanked_whole (l ∷ ls) (suc n) e = ap (λ (t : List Letter). blank ∷ t) (blanked_whole ls n (fewer (length ls) n e))
  where
    fewer : (a b : ℕ) → suc a ≡ suc b → a ≡ b
    fewer a b z = omega arith
