-- Laws of `grown`: bytes put one behind the other.
use Prim.Native.Nat.{ℕ, ◌+◌, ◌≤◌}
use mathlib.Core.Bool.{true}
use mathlib.Core.List.{List, [], ◌∷◌, ◌++◌, append_assoc, append-nil}
use mathlib.Core.Path.{◌≡◌, refl, sym}
use native.Mathlib.Nat.{div-div-eq-div-mul}
use native.Mathlib.Omega.{arith}
use borrow.Author.Tests.{lt-ltb}
use lib.ListN.{length, length-append}
use Rattle.std.specs.Int.{w32, w64, to_le_bytes}
use Rattle.num.specs.Bytes.{le_bytes}
use Rattle.layout.specs.Codec.{size_limit, bytes_of}
use Rattle.num.proofs.Tests.{and_both}
use Rattle.layout.specs.declared.Layout.{Layout}
use Rattle.layout.specs.Lay.{good}
use Rattle.layout.specs.Value.{lay_of, tidy, good_value}
use Rattle.layout.specs.InsideGrowing.{grown}
use Rattle.layout.proofs.Decode.{encode_small}

-- one list behind another
pub grown_append : (xs ys bytes : List ℕ) → grown bytes (xs ++ ys) ≡ grown (grown bytes xs) ys
unfolding grown
grown_append [] ys bytes = refl
grown_append (x ∷ xs) ys bytes = grown_append xs ys _

-- where there is room, all of them stand
pub grown_fits : (xs bytes : List ℕ) → length bytes + length xs ≤ size_limit → grown bytes xs ≡ bytes ++ xs
unfolding grown
grown_fits [] bytes h = sym (append-nil bytes)
grown_fits (x ∷ xs) bytes h =
    rw (lt-ltb (length bytes) size_limit (omega arith), grown_fits xs (bytes ++ (x ∷ [])) (omega (arith, length-append bytes (x ∷ [])))) (append_assoc bytes (x ∷ []) xs)

-- a number's bytes
pub le_four : (n : ℕ) → le_bytes 4 n ≡ to_le_bytes w32 n
unfolding le_bytes
le_four n = simp div-div-eq-div-mul

pub le_eight : (n : ℕ) → le_bytes 8 n ≡ to_le_bytes w64 n
unfolding le_bytes
le_eight n = simp div-div-eq-div-mul

-- a good layout's bytes have room
pub grown_whole : (l : Layout) → good_value l ≡ true → grown [] (bytes_of l) ≡ bytes_of l
unfolding good_value bytes_of
grown_whole l g = grown_fits (bytes_of l) [] (omega (arith, encode_small (lay_of l) (and_both (good (lay_of l)) (tidy l) g).0))
