-- One letter dropped: its followers are copied down by one place, and the last place becomes blank.
use mathlib.Core.Path.{◌≡◌, refl, ap}
use mathlib.Core.List.{List, [], ◌∷◌, ◌++◌}
use Prim.Native.Nat.{ℕ, zero, suc, ◌+◌, ◌-◌, ◌<◌, ◌≤◌}
use native.Mathlib.Nat.{not-suc-le-zero, le_of_suc-le-suc}
use native.Mathlib.Omega.{arith}
use borrow.Author.Tests.{le-leb, lt-ltb}
use lib.ListN.{length, take, drop, set}
use Rattle.std.specs.List.{copy_within}
use Rattle.rule.specs.World.{blank_letter as blank}
use Rattle.yard.specs.Bag.{move_up, close_up, drop_at}
use Rattle.rule.specs.declared.Letter.{Letter}

moved : (l : Letter) (ls : List Letter) (n : ℕ) → n ≤ length ls → set (take n ls ++ drop n (l ∷ ls)) n blank ≡ move_up ls n
unfolding move_up
moved l ls zero h = refl
moved l [] (suc n) h = absurd (not-suc-le-zero h)
moved l (m ∷ ls) (suc n) h = ap (λ (t : List Letter). m ∷ t) (moved m ls n (le_of_suc-le-suc h))

closed : (ls : List Letter) (n i k : ℕ) → i + k ≡ n → n < length ls → set ((take i ls ++ take k (drop (suc i) ls)) ++ drop n ls) n blank ≡ close_up ls (suc n) i
unfolding close_up
closed [] n i k e h = absurd (not-suc-le-zero h)
closed (l ∷ ls) n zero k e h = let f : k ≡ n = omega arith in rw f (moved l ls n (le_of_suc-le-suc h))
closed (l ∷ ls) zero (suc i) k e h = absurd (omega arith)
closed (l ∷ ls) (suc n) (suc i) k e h = ap (λ (t : List Letter). l ∷ t) (closed ls n i k (omega arith) (le_of_suc-le-suc h))

-- of the first n letters the one at i
pub dropped : (ls : List Letter) (n i : ℕ) → i < n → n ≤ length ls → set (copy_within ls (i + 1) n i) (n - 1) blank ≡ drop_at ls n i
dropped ls n i k h =
    let next : i + 1 ≡ suc i = omega arith in
    let e : i + (n - (i + 1)) ≡ n - 1 = omega arith in
    let all : suc (n - 1) ≡ n = omega arith in
    let c = closed ls (n - 1) i (n - (i + 1)) e (omega arith) in
    rw (le-leb n (length ls) h, lt-ltb i n k, e) (rw (all, ← next) at c)
