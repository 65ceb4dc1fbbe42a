-- Every refusal and its number (docs/RULES.md, 10). What is not refused answers 0.
use Rattle.std.specs.Prelude.{ℕ, List, [], ◌∷◌, ◌≡◌, Result, Ok, Err, MatchResult}
use Rattle.num.specs.Checks.{Check, ◌if◌}
use Rattle.num.specs.declared.refusal.Refusal.{Refusal}
use Rattle.num.specs.declared.refusal.Refusal.TheVariants.{Memory, Position, Page, Sealed, Trimmed, Written, Unwritten, Full, Spent, Layout, Overtaken, Successor, SetLost, LayoutFull, EpochsSpent, BagFull, Nobody, Busy, NumbersSpent, Unknown, Play}
use Rattle.num.specs.declared.refusal.Check.{Check as Row}

abbrev pub number : Refusal → ℕ
number Memory = 1
number Position = 2
number Page = 3
number Sealed = 4
number Trimmed = 5
number Written = 6
number Unwritten = 7
number Full = 8
number Spent = 9
number Layout = 10
number Overtaken = 11
number Successor = 12
number SetLost = 13
number LayoutFull = 14
number EpochsSpent = 15
number BagFull = 16
number Nobody = 17
number Busy = 18
number NumbersSpent = 19
number Unknown = 20
number Play = 22

-- the refusal that has the number, or the number where none has it
abbrev pub Numbered : ℕ → Result Refusal ℕ → Type 0
Numbered n r = MatchResult r (λ x. number x ≡ n) (λ e. (e ≡ n) × ((x : Refusal) → number x ≡ n → ⊥))

-- the number that a result answers
abbrev pub answered : {A : Type 0} → Result A Refusal → ℕ
answered (Ok x) = 0
answered (Err r) = number r

-- what it gives; `none` where it is refused
abbrev pub given : {A : Type 0} → A → Result A Refusal → A
given none (Ok x) = x
given none (Err r) = none

-- a table of the code as one of the rules
abbrev pub rows : List Row → List Check
rows [] = []
rows (k ∷ ks) = number k.refusal if k.applies ∷ rows ks
