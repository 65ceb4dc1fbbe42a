-- Edges: what a reorganise learns of a unit before it offers a layout. Seal first, then the edge.
-- Rests on History.
use Rattle.std.specs.Prelude.{◌≤◌}
use Rattle.history.specs.Words.{UnitNo, Pos, Epoch}
use Rattle.history.specs.History.{History, Unmarked, held, sealed}

-- u has nothing at g or above
abbrev pub Edge : History → UnitNo → Pos → Type 0
Edge h u g = (p : Pos) → g ≤ p → Unmarked h u p

-- Two facts of a unit. It is sealed at n: that stays.
pub record SealedAt (h : History) (u : UnitNo) (n : Epoch) : Type 0 where
  pub sealed_there : n ≤ sealed h u

-- As long as no later epoch than n is in force, g is an edge of u: that stays of a unit that is sealed at n.
pub record EdgeAt (h : History) (u : UnitNo) (n : Epoch) (g : Pos) : Type 0 where
  pub edge_at : (held h).epoch ≤ n → Edge h u g
