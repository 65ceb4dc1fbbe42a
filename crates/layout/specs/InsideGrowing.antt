-- Bytes put one behind the other in a value with room for the largest layout.
use Rattle.std.specs.Prelude.{ℕ, cond, List, [], ◌∷◌, ◌++◌, ltb, length, take}
use Rattle.layout.specs.declared.encoded.Encoded.{Encoded}
use Rattle.layout.specs.Codec.{size_limit}

-- the bytes that stand
abbrev pub written : Encoded → List ℕ
written e = take e.count e.bytes

-- bytes behind those that stand, each where there is still room
unfoldable pub grown : List ℕ → List ℕ → List ℕ
grown bytes [] = bytes
grown bytes (v ∷ vs) = grown (cond (ltb (length bytes) size_limit) (bytes ++ (v ∷ [])) bytes) vs
