-- A refusal is known by its number, and a result by what it answers and gives.
use Rattle.std.proofs.Common.{◌≡◌, ℕ, cond, eqb, Option, None, Some, Result, Ok, Err, IsErrAnd, refl, sym, ap, ◌∙◌, arith}
use Rattle.num.specs.declared.refusal.Refusal.{Refusal}
use Rattle.num.specs.declared.refusal.Refusal.TheVariants.{Memory, Position, Page, Sealed, Trimmed, Written, Unwritten, Full, Spent, Layout, Overtaken, Successor, SetLost, LayoutFull, EpochsSpent, BagFull, Nobody, Busy, NumbersSpent, Unknown, Play}
use Rattle.num.specs.Refusals.{number, answered, given}

-- the refusal of a number
refusal_of : ℕ → Option Refusal
refusal_of n =
    cond (eqb n 1) (Some Memory)
    (cond (eqb n 2) (Some Position)
    (cond (eqb n 3) (Some Page)
    (cond (eqb n 4) (Some Sealed)
    (cond (eqb n 5) (Some Trimmed)
    (cond (eqb n 6) (Some Written)
    (cond (eqb n 7) (Some Unwritten)
    (cond (eqb n 8) (Some Full)
    (cond (eqb n 9) (Some Spent)
    (cond (eqb n 10) (Some Layout)
    (cond (eqb n 11) (Some Overtaken)
    (cond (eqb n 12) (Some Successor)
    (cond (eqb n 13) (Some SetLost)
    (cond (eqb n 14) (Some LayoutFull)
    (cond (eqb n 15) (Some EpochsSpent)
    (cond (eqb n 16) (Some BagFull)
    (cond (eqb n 17) (Some Nobody)
    (cond (eqb n 18) (Some Busy)
    (cond (eqb n 19) (Some NumbersSpent)
    (cond (eqb n 20) (Some Unknown)
    (cond (eqb n 22) (Some Play) None))))))))))))))))))))

refusal_back : (r : Refusal) → refusal_of (number r) ≡ Some r
unfolding refusal_of
refusal_back Memory = refl
refusal_back Position = refl
refusal_back Page = refl
refusal_back Sealed = refl
refusal_back Trimmed = refl
refusal_back Written = refl
refusal_back Unwritten = refl
refusal_back Full = refl
refusal_back Spent = refl
refusal_back Layout = refl
refusal_back Overtaken = refl
refusal_back Successor = refl
refusal_back SetLost = refl
refusal_back LayoutFull = refl
refusal_back EpochsSpent = refl
refusal_back BagFull = refl
refusal_back Nobody = refl
refusal_back Busy = refl
refusal_back NumbersSpent = refl
refusal_back Unknown = refl
refusal_back Play = refl

pub number_above : (r : Refusal) → number r ≡ 0 → ⊥
number_above Memory e = omega arith
number_above Position e = omega arith
number_above Page e = omega arith
number_above Sealed e = omega arith
number_above Trimmed e = omega arith
number_above Written e = omega arith
number_above Unwritten e = omega arith
number_above Full e = omega arith
number_above Spent e = omega arith
number_above Layout e = omega arith
number_above Overtaken e = omega arith
number_above Successor e = omega arith
number_above SetLost e = omega arith
number_above LayoutFull e = omega arith
number_above EpochsSpent e = omega arith
number_above BagFull e = omega arith
number_above Nobody e = omega arith
number_above Busy e = omega arith
number_above NumbersSpent e = omega arith
number_above Unknown e = omega arith
number_above Play e = omega arith

some_once : {r s : Refusal} → Some r ≡ Some s → r ≡ s
some_once e = cc

pub number_once : (r s : Refusal) → number r ≡ number s → r ≡ s
number_once r s e = some_once (sym (refusal_back r) ∙ ap refusal_of e ∙ refusal_back s)

-- two results that answer the same number and give the same are one
pub result_once : {A : Type 0} (none : A) (p q : Result A Refusal) → answered p ≡ answered q → given none p ≡ given none q → p ≡ q
result_once none (Ok x) (Ok y) e f = ap Ok f
result_once none (Ok x) (Err s) e f = absurd (number_above s (sym e))
result_once none (Err r) (Ok y) e f = absurd (number_above r e)
result_once none (Err r) (Err s) e f = ap Err (number_once r s e)

-- what `?` hands on answers the same number
pub handed_on : {A : Type 0} (e : Refusal) (r : Result A Refusal) → IsErrAnd r (λ f. f ≡ e) → answered r ≡ number e
handed_on e (Ok x) h = absurd h
handed_on e (Err f) h = ap number h

-- and gives nothing
pub handed_none : {A : Type 0} (none : A) (e : Refusal) (r : Result A Refusal) → IsErrAnd r (λ f. f ≡ e) → given none r ≡ none
handed_none none e (Ok x) h = absurd h
handed_none none e (Err f) h = refl
