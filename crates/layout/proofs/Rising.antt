-- Laws of `rising`: a unit of those that rise is above where they start, and a unit of the yard.
use Prim.Native.Nat.{ℕ, ◌<◌, ◌≤◌}
use mathlib.Core.Bool.{true, ◌&&◌}
use mathlib.Core.List.{List, [], ◌∷◌}
use mathlib.Core.Logic.{⊎_elim}
use mathlib.Core.Path.{◌≡◌}
use native.Mathlib.Omega.{arith}
use borrow.Author.Tests.{leb-true, ltb-true}
use lib.Dec.{ltb, leb}
use Rattle.num.proofs.Tests.{and_both}
use Rattle.std.proofs.Common.{zero, suc}
use Rattle.std.specs.List.{slice_get}
use Rattle.layout.specs.Lay.{rising, unit_limit, ◌in?◌}
use Rattle.layout.specs.Places.{FromOne}
use Rattle.layout.proofs.InSets.{in_none, in_cases}

pub record Rises (low x : ℕ) (xs : List ℕ) : Type 0 where
  pub from : low < x
  pub within : x ≤ unit_limit
  pub rest : rising x xs ≡ true

pub rises : (low x : ℕ) (xs : List ℕ) → rising low (x ∷ xs) ≡ true → Rises low x xs
unfolding rising
rises low x xs r =
    let p = and_both (ltb low x && leb x unit_limit) (rising x xs) r in
    let q = and_both (ltb low x) (leb x unit_limit) p.0 in
    record { from = ltb-true _ _ q.0; within = leb-true _ _ q.1; rest = p.1 }

-- a unit of those that rise from low on is above it, and a unit of the yard
pub rising_within : (low : ℕ) (us : List ℕ) (u : ℕ) → rising low us ≡ true → (u in? us) ≡ true → (low < u) × (u ≤ unit_limit)
rising_within low [] u r i = absurd (in_none u i)
rising_within low (x ∷ xs) u r i =
    let s = rises low x xs r in
    ⊎_elim (λ e. omega arith) (λ j. omega (arith, rising_within x xs u s.rest j)) (in_cases u x xs i)

-- no unit of those that rise is numbered 0
pub from_one : (low : ℕ) (us : List ℕ) (k : ℕ) → rising low us ≡ true → FromOne (slice_get us k)
from_one low [] k r = tt
from_one low (x ∷ xs) zero r = omega (arith, rises low x xs r)
from_one low (x ∷ xs) (suc k) r = from_one x xs k (rises low x xs r).rest
