-- What a sequencer answers to whatever it is asked, and what it is afterwards, for every epoch, count and state (docs/RULES.md, 7).
use Rattle.std.specs.Prelude.{ℕ, ◌+◌, not, cond, List, [], ◌∷◌, ◌≡◌, eqb, leb, ltb, Result, Ok, Err}
use Rattle.std.specs.Prelude.{Option as Maybe, None, Some}
use Rattle.std.proofs.Math.Option.{Option, none, some}
use Rattle.num.specs.declared.Position.{Position}
use Rattle.num.specs.Limits.{limit}
use Rattle.num.specs.Checks.{Check, ◌if◌, lowest}
use Rattle.num.specs.Refusals.{number as number_of_refusal}
use Rattle.num.specs.declared.refusal.Refusal.{Refusal}
use Rattle.sequencer.specs.declared.Sequencer.{Sequencer}
use Rattle.sequencer.specs.declared.Asked.{Asked}
use Rattle.sequencer.specs.declared.Asked.TheVariants.{Token, Start, Forget}

-- "sequencer at epoch 1 and 0"
abbrev pub fresh : Sequencer
fresh = record { epoch = record { 0 = 1 }; next = record { 0 = 0 } }

-- what it answers: a token's position, or a number of docs/RULES.md, 10, and nothing else
pub data Told : Type 0 where
  At : Position → Told
  Number : ℕ → Told

-- the number of an answer (docs/RULES.md, 10), and the position that it gives, if any
abbrev pub number_of : Told → ℕ
number_of (At p) = 0
number_of (Number n) = n

abbrev pub position_of : Told → Option Position
position_of (At p) = some p
position_of (Number n) = none

-- 2: "a sequencer's start count, above 2^40". 4: "token epoch not its own, or start epoch not above its own". 9: "sequencer count is 2^40 or more"
abbrev pub checks : Sequencer → Asked → List Check
checks s (Token e) = 4 if not (eqb e.0 s.epoch.0) ∷ 9 if leb limit s.next.0 ∷ []
checks s (Start e count) = 2 if ltb limit count.0 ∷ 4 if leb e.0 s.epoch.0 ∷ []
checks s Forget = []

unfoldable pub number : Sequencer → Asked → ℕ
number s asked = lowest (checks s asked)

-- where no number applies: a token gives the next position
abbrev pub gives : Sequencer → Asked → Option Position
gives s (Token e) = some s.next
gives s (Start e count) = none
gives s Forget = none

-- and the sequencer becomes this: a token counts one on; "start the sequencer at the new epoch with" a count; "make the sequencer forget (next becomes 0)"
abbrev pub becomes : Sequencer → Asked → Sequencer
becomes s (Token e) = record { epoch = s.epoch; next = record { 0 = s.next.0 + 1 } }
becomes s (Start e count) = record { epoch = e; next = count }
becomes s Forget = record { epoch = s.epoch; next = record { 0 = 0 } }

-- a refusal gives nothing and leaves the sequencer as it was
unfoldable pub position : Sequencer → Asked → Option Position
position s asked = cond (eqb (number s asked) 0) (gives s asked) none

unfoldable pub after : Sequencer → Asked → Sequencer
after s asked = cond (eqb (number s asked) 0) (becomes s asked) s

-- what each function promises: the answer by its number and value (docs/RULES.md, 7), and the sequencer afterwards
pub record Served (before : Sequencer) (asked : Asked) (told : Told) (then : Sequencer) : Type 0 where
  pub number_is : number_of told ≡ number before asked
  pub position_is : position_of told ≡ position before asked
  pub after_is : then ≡ after before asked

-- the answer as a value: the one that has this number and this position
abbrev pub tells_of : ℕ → Option Position → Told
tells_of n none = Number n
tells_of n (some p) = At p

unfoldable pub told : Sequencer → Asked → Told
told s asked = tells_of (number s asked) (position s asked)

-- what the code returns, as what is told: a refusal as its number
abbrev pub told_as : {A : Type 0} → (A → Told) → Result A Refusal → Told
told_as ok (Ok x) = ok x
told_as ok (Err r) = Number (number_of_refusal r)

abbrev pub fine : Told
fine = Number 0

-- a position, where one is given
abbrev pub placed : Maybe Position → Told
placed None = fine
placed (Some p) = At p
