-- The marked examples of docs/RULES.md, 13: what each row asks, and what must be answered. Examples 1 to 9 each start with a fresh unit 1, and stand once, for either shape.
-- 10 and 11 ask of a layout; a set's units are shown as a number, a byte each, lowest first.
use Rattle.std.specs.Prelude.{ℕ, ◌+◌, ◌*◌, ◌-◌, List, [], ◌∷◌, ◌++◌}
use Rattle.num.specs.Limits.{limit}
use Rattle.num.specs.declared.Epoch.{Epoch}
use Rattle.num.specs.declared.Position.{Position}
use Rattle.unit.specs.declared.shape.Shape.{Shape}
use Rattle.unit.specs.Shape.{small, large}
use Rattle.marked.specs.declared.ask.Ask.{Ask}
use Rattle.marked.specs.declared.ask.Ask.TheVariants.{Fresh, Write, Read, Trim, Prune, Seal, Measure, Fill, Floor, Place, Drop}
use Rattle.marked.specs.Rows.{Told, Row}
use Rattle.marked.specs.Lays.{told}

-- ---- what is asked, by epoch and position

abbrev pub epoch : ℕ → Epoch
epoch e = record { 0 = e }

abbrev pub position : ℕ → Position
position p = record { 0 = p }

abbrev bytes : ℕ → ℕ → ℕ → Ask
bytes e p size = Write (epoch e) (position p) 1 size

abbrev junk : ℕ → ℕ → Ask
junk e p = Write (epoch e) (position p) 2 0

abbrev read : ℕ → ℕ → Ask
read e p = Read (epoch e) (position p)

abbrev trim : ℕ → ℕ → Ask
trim e p = Trim (epoch e) (position p)

abbrev prune : ℕ → ℕ → Ask
prune e p = Prune (epoch e) (position p)

abbrev seal : ℕ → Ask
seal n = Seal (epoch n)

abbrev place : ℕ → Ask
place p = Place (position p)

-- unit 2 is dropped: what is left of set k
abbrev drop_two : ℕ → Ask
drop_two k = Drop 2 2 k

-- ---- what is answered

abbrev answers : ℕ → Told
answers number = told number 0 0

-- fine, with the page's kind and length
abbrev shows : ℕ → ℕ → Told
shows kind size = told 0 kind size

-- fine, with a floor
abbrev stands : ℕ → Told
stands p = told 0 p 0

-- fine, with the edge and the written edge
abbrev edges : ℕ → ℕ → Told
edges edge written = told 0 edge written

-- fine, with the number of a set
abbrev belongs : ℕ → Told
belongs set = told 0 set 0

abbrev row : ℕ → Ask → Told → Row
row example asked told = record { example = example; asked = asked; told = told }

-- ---- the table

-- examples 1 to 9 in a shape: 4 and 5 with its own payload, 8 with its own slots
abbrev unit_rows : Shape → List Row
unit_rows sh =
    row 1 (Fresh 1 sh.code) (answers 0)
    ∷ row 1 (read 1 0) (answers 7)
    ∷ row 2 (Fresh 1 sh.code) (answers 0)
    ∷ row 2 (bytes 1 0 0) (answers 0)
    ∷ row 2 (read 1 0) (shows 1 0)
    ∷ row 2 (junk 1 0) (answers 6)
    ∷ row 3 (Fresh 1 sh.code) (answers 0)
    ∷ row 3 (bytes 0 0 0) (answers 4)
    ∷ row 4 (Fresh 1 sh.code) (answers 0)
    ∷ row 4 (bytes 1 (limit - 1) 0) (answers 0)
    ∷ row 4 (bytes 1 limit 0) (answers 2)
    ∷ row 4 (bytes 1 limit (sh.cap + 1)) (answers 2)
    ∷ row 5 (Fresh 1 sh.code) (answers 0)
    ∷ row 5 (bytes 1 0 sh.cap) (answers 0)
    ∷ row 5 (bytes 1 0 (sh.cap + 1)) (answers 3)
    ∷ row 6 (Fresh 1 sh.code) (answers 0)
    ∷ row 6 (seal 1) (answers 0)
    ∷ row 6 Measure (edges 0 0)
    ∷ row 6 (bytes 1 0 0) (answers 4)
    ∷ row 6 (bytes 2 0 0) (answers 0)
    ∷ row 6 (seal 1) (answers 0)
    ∷ row 6 (seal 0) (answers 4)
    ∷ row 7 (Fresh 1 sh.code) (answers 0)
    ∷ row 7 (trim 1 5) (answers 0)
    ∷ row 7 (bytes 1 5 0) (answers 5)
    ∷ row 7 Measure (edges 6 0)
    ∷ row 8 (Fresh 1 sh.code) (answers 0)
    ∷ row 8 (Fill sh.room) (answers 0)
    ∷ row 8 (bytes 1 sh.room 0) (answers 8)
    ∷ row 8 (bytes 1 0 0) (answers 6)
    ∷ row 8 (prune 1 1) (answers 0)
    ∷ row 8 (bytes 1 sh.room 0) (answers 0)
    ∷ row 8 (read 1 0) (answers 5)
    ∷ row 9 (Fresh 1 sh.code) (answers 0)
    ∷ row 9 (prune 1 3) (answers 0)
    ∷ row 9 (prune 1 2) (answers 0)
    ∷ row 9 Floor (stands 3)
    ∷ row 9 Measure (edges 3 3)
    ∷ []

abbrev layout_rows : List Row
layout_rows =
    row 10 (place 0) (belongs 0)
    ∷ row 10 (place 9) (belongs 1)
    ∷ row 10 (place 10) (belongs 2)
    ∷ row 10 (place 11) (belongs 2)
    ∷ row 11 (drop_two 0) (told 0 1 1)
    ∷ row 11 (drop_two 1) (told 0 1 3)
    ∷ row 11 (drop_two 2) (told 0 2 (1 + 256 * 3))
    ∷ row 11 (Drop 2 3 0) (answers 13)
    ∷ []

abbrev pub count : ℕ
count = 84

-- the unit's examples in both shapes
unfoldable pub rows : List Row
rows = unit_rows small ++ unit_rows large ++ layout_rows
