-- Where a position belongs (docs/RULES.md, 5.3).
use Rattle.std.specs.Prelude.{ℕ, ◌+◌, ◌-◌, ◌%◌, not, cond, List, [], ◌∷◌, eqb, ltb, leb, get_or, Result, Option, None, Some, ◌<◌}
use Rattle.num.specs.Limits.{limit}
use Rattle.num.specs.Checks.{lowest, ◌if◌}
use Rattle.layout.specs.declared.Layout.{Layout}
use Rattle.num.specs.declared.refusal.Refusal.{Refusal}
use Rattle.num.specs.Refusals.{answered, given}
use Rattle.layout.specs.Lay.{Span, Lay, units_of}
use Rattle.layout.specs.Value.{lay_of, good_value}

-- `before` sets are used by the ranges passed, `found` is the set so far: that of the last range whose start is at most p
unfoldable pub placed : List Span → ℕ → ℕ → ℕ → ℕ
placed [] before found p = found
placed (s ∷ ss) before found p = placed ss (before + s.uses) (cond (leb s.start p) (before + (p - s.start) % s.uses) found) p

-- the number of position p's set, counted from 0: in the last range whose start is at most p, (p - start) modulo its number of sets
unfoldable pub set_number : Lay → ℕ → ℕ
set_number l p = placed l.spans 0 0 p

-- the units of position p's set
unfoldable pub set_at : Lay → ℕ → List ℕ
set_at l p = get_or l.sets (set_number l p) []

-- ---- a unit, or none: units are numbered from 1

-- its number; 0 where there is none
abbrev pub or_zero : Option ℕ → ℕ
or_zero None = 0
or_zero (Some u) = u

-- no unit is numbered 0
abbrev pub FromOne : Option ℕ → Type 0
FromOne None = Unit {0}
FromOne (Some u) = 0 < u

-- the first unit of a set; 0 where there is none
unfoldable pub head_of : List ℕ → ℕ
head_of [] = 0
head_of (u ∷ us) = u

-- the last unit of a set
unfoldable pub tail_of : List ℕ → ℕ
tail_of [] = 0
tail_of (u ∷ []) = u
tail_of (u ∷ v ∷ us) = tail_of (v ∷ us)

-- the unit after u; 0 where u is the last, or in no place
unfoldable pub after : ℕ → List ℕ → ℕ
after u [] = 0
after u (x ∷ xs) = cond (eqb u x) (head_of xs) (after u xs)

-- the first unit above u of those that rise; 0 where none is above it
unfoldable pub above : ℕ → List ℕ → ℕ
above u [] = 0
above u (x ∷ xs) = cond (ltb u x) x (above u xs)

-- the unit of the layout that comes next in rising number: after 0 the first
abbrev pub next_unit : Lay → ℕ → ℕ
next_unit l u = above u (units_of l.sets)

-- ---- for every value and every number

-- 2: a position of 2^40 or more; 10: not a good layout
unfoldable pub place_answer : Layout → ℕ → ℕ
place_answer l p = lowest (2 if leb limit p ∷ 10 if not (good_value l) ∷ [])

-- an answer, and the number of a position's set, counted from 0
pub record Placed : Type 0 where
  pub answer : ℕ
  pub set : ℕ

abbrev pub placed_in : Result ℕ Refusal → Placed
placed_in r = record { answer = answered r; set = given 0 r }

-- the number of p's set; 0 where it is refused
unfoldable pub placed_at : Layout → ℕ → Placed
placed_at l p = record { answer = place_answer l p; set = cond (eqb (place_answer l p) 0) (set_number (lay_of l) p) 0 }

-- the units of p's set; none where it is refused
unfoldable pub units_at : Layout → ℕ → List ℕ
units_at l p = cond (eqb (place_answer l p) 0) (set_at (lay_of l) p) []
