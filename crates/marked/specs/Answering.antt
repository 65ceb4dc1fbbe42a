-- What the program over the table promises: what each row is told.
use Rattle.std.specs.Prelude.{ℕ, List, [], ◌∷◌, ◌≡◌}
use Rattle.marked.specs.declared.Answered.{Answered}
use Rattle.marked.specs.Rows.{Row, Told, all_told_in}
use Rattle.marked.specs.Asks.{told_of, left_by}
use Rattle.marked.specs.Table.{rows}

-- what the rules answer to the rows in turn, each asked of the memory that those before it leave of m
unfoldable pub told_by : List Row → List ℕ → List Told
told_by [] m = []
told_by (r ∷ rs) m = told_of m r.asked ∷ told_by rs (left_by m r.asked)

-- each row is told that, and none expected another answer
pub record IsAnswered (m : List ℕ) (r : Answered) : Type 0 where
  pub told_is : all_told_in r.told ≡ told_by rows m
  pub none_wrong : r.wrong ≡ 0
