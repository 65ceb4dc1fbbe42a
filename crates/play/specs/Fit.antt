-- Whole lines in a buffer.
use Rattle.std.specs.Prelude.{ℕ, ◌-◌, cond, List, [], ◌∷◌, ◌++◌, leb, length}

-- the lines one after another
unfoldable pub joined : List (List ℕ) → List ℕ
joined [] = []
joined (x ∷ xs) = x ++ joined xs

-- the lines from the first on that have room whole, up to the first that has not
unfoldable pub fit : ℕ → List (List ℕ) → List (List ℕ)
fit room [] = []
fit room (x ∷ xs) = cond (leb (length x) room) (x ∷ fit (room - length x) xs) []
