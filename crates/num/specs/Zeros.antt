-- Runs of zero bytes.
use Rattle.std.specs.Prelude.{ℕ, zero, suc, Bool, true, ◌&&◌, List, [], ◌∷◌, eqb}

-- the first n are zero
unfoldable pub zeros : ℕ → List ℕ → Bool
zeros zero xs = true
zeros (suc n) [] = true
zeros (suc n) (x ∷ xs) = eqb x 0 && zeros n xs
