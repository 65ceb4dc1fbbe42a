-- The marked examples hold: one statement over the table, proved as `marked` in proofs/Passing.antt.
use Rattle.std.specs.Prelude.{ℕ, zero, suc, ◌<◌, Bool, ◌&&◌, List, [], ◌∷◌, ◌≡◌, eqb, length, get_or}
use Rattle.marked.specs.declared.ask.Ask.TheVariants.{Floor}
use Rattle.marked.specs.Rows.{Row, Told}
use Rattle.marked.specs.Lays.{told}
use Rattle.marked.specs.Asks.{told_of, left_by}
use Rattle.marked.specs.Table.{rows}

-- whether two answers are the same, number for number
abbrev pub same_told : Told → Told → Bool
same_told a b = eqb a.answer b.answer && eqb a.first b.first && eqb a.second b.second

-- what stands past the table's end
abbrev pub blank : Row
blank = record { example = 0; asked = Floor; told = told 0 0 0 }

-- the memory that the first k rows leave of m
unfoldable pub after : ℕ → List Row → List ℕ → List ℕ
after zero rs m = m
after (suc k) [] m = m
after (suc k) (r ∷ rs) m = after k rs (left_by m r.asked)

-- whatever the bytes were, the rules answer every row of the table as it expects
abbrev pub RowsHold : Type 0
RowsHold = (m : List ℕ) → length m ≡ 6168 → (k : ℕ) → k < length rows → told_of (after k rows m) (get_or rows k blank).asked ≡ (get_or rows k blank).told
