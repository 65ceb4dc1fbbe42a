-- A row of the table as the rules number it, and what a row of the program's table is in these numbers.
use Rattle.std.specs.Prelude.{ℕ, List, Result, map}
use Rattle.num.specs.Refusals.{answered, given}
use Rattle.num.specs.declared.refusal.Refusal.{Refusal}
use Rattle.marked.specs.declared.ask.Ask.{Ask}
use Rattle.marked.specs.declared.ask.Shown.{Shown}
use Rattle.marked.specs.declared.ask.Row.{Row as Entry}

-- the number answered, and what comes with a fine answer: of a read the kind and the length, of an edge request the edge and the written edge, of the floor the
-- floor; of a position the number of its set, counted from 0, of a set how many units it has and the units, a byte each, lowest first. 0 elsewhere.
pub record Told : Type 0 where
  pub answer : ℕ
  pub first : ℕ
  pub second : ℕ

pub record Row : Type 0 where
  -- the example of docs/RULES.md, 13, that it belongs to
  pub example : ℕ
  pub asked : Ask
  pub told : Told

abbrev pub nothing : Shown
nothing = record { first = 0; second = 0 }

abbrev pub told_in : Result Shown Refusal → Told
told_in r = record { answer = answered r; first = (given nothing r).first; second = (given nothing r).second }

abbrev pub row_in : Entry → Row
row_in r = record { example = r.example; asked = r.asked; told = told_in r.told }

abbrev pub rows_in : List Entry → List Row
rows_in rs = map row_in rs

abbrev pub all_told_in : List (Result Shown Refusal) → List Told
all_told_in ts = map told_in ts
