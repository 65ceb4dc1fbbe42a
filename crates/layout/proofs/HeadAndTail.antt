-- Laws of `head_of` and `tail_of`: the head is the least, and both are units of the set.
use Prim.Native.Nat.{ℕ, suc, ◌-◌, ◌≤◌}
use mathlib.Core.Bool.{true}
use mathlib.Core.List.{List, [], ◌∷◌}
use mathlib.Core.Logic.{⊎_elim}
use mathlib.Core.Path.{◌≡◌, refl}
use native.Mathlib.Omega.{arith}
use lib.ListN.{length}
use Rattle.std.specs.List.{slice_get}
use Rattle.layout.specs.Lay.{◌in?◌, rising}
use Rattle.layout.specs.Places.{or_zero, head_of, tail_of}
use Rattle.layout.proofs.InSets.{in_first, in_none, in_cases, in_later}
use Rattle.layout.proofs.Rising.{rises, rising_within}

pub first_is : (us : List ℕ) → or_zero (slice_get us 0) ≡ head_of us
unfolding head_of
first_is [] = refl
first_is (u ∷ us) = refl

pub head_in : (us : List ℕ) → 1 ≤ length us → (head_of us in? us) ≡ true
unfolding head_of
head_in [] h = absurd (omega arith)
head_in (x ∷ xs) h = in_first x x xs refl

pub head_least : (low : ℕ) (us : List ℕ) (u : ℕ) → rising low us ≡ true → (u in? us) ≡ true → head_of us ≤ u
unfolding head_of
head_least low [] u r i = absurd (in_none u i)
head_least low (x ∷ xs) u r i =
    ⊎_elim (λ e. omega arith) (λ j. omega (arith, rising_within x xs u (rises low x xs r).rest j)) (in_cases u x xs i)

pub last_is : (us : List ℕ) → or_zero (slice_get us (length us - 1)) ≡ tail_of us
unfolding tail_of
last_is [] = refl
last_is (u ∷ []) = refl
last_is (u ∷ v ∷ us) =
    let e : suc (suc (length us)) - 1 ≡ suc (suc (length us) - 1) = omega arith in
    rw e (last_is (v ∷ us))

pub tail_in_lem : (us : List ℕ) → 1 ≤ length us → (tail_of us in? us) ≡ true
unfolding tail_of
tail_in_lem [] h = absurd (omega arith)
tail_in_lem (x ∷ []) h = in_first x x [] refl
tail_in_lem (x ∷ y ∷ ys) h = in_later (tail_of (y ∷ ys)) x (y ∷ ys) (tail_in_lem (y ∷ ys) (omega arith))
