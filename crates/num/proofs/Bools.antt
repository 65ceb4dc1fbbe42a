-- Laws of `◌&&◌` and `cond`: tests that stand for a choice, and two tests that say the same.
use mathlib.Core.Bool.{Bool, true, false, ◌&&◌, ◌||◌, not, cond}
use mathlib.Core.Path.{◌≡◌, refl, sym}
use Rattle.num.proofs.Tests.{false_true}

-- a choice without a branch
pub either : (t a b : Bool) → (t && a || not t && b) ≡ cond t a b
either true true b = refl
either true false b = refl
either false a b = refl

pub and_intro : (a b : Bool) → a ≡ true → b ≡ true → (a && b) ≡ true
and_intro true b p q = q
and_intro false b p q = absurd (false_true p)

-- two tests are one where each follows from the other
pub same_test : (a b : Bool) → (a ≡ true → b ≡ true) → (b ≡ true → a ≡ true) → a ≡ b
same_test true b f g = sym (f refl)
same_test false true f g = g refl
same_test false false f g = refl

pub and_swap : (a b c d : Bool) → ((a && b) && (c && d)) ≡ ((a && c) && (b && d))
and_swap true b true d = refl
and_swap true true false d = refl
and_swap true false false d = refl
and_swap false b c d = refl
