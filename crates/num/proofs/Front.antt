-- Laws of `Front`: bytes that stand at the front of others, part by part.
use Prim.Native.Nat.{ℕ, ◌≤◌}
use mathlib.Core.List.{List, [], ◌∷◌, ◌++◌, append_assoc, append-nil}
use mathlib.Core.Path.{◌≡◌, sym, ap, ◌∙◌}
use native.Mathlib.Omega.{arith}
use lib.ListN.{length, take, drop, length-append, take-append-drop, drop_of_length-le}
use lib.Seq.{drop-drop, length-take-le}
use Rattle.num.specs.Bytes.{le_bytes, number_at}
use Rattle.num.proofs.Numbers.{Bytes, le_back, number_within}

-- xs stands at the front of b
abbrev pub Front : List ℕ → List ℕ → Type 0
Front xs b = xs ++ drop (length xs) b ≡ b

pub front_cons : (x : ℕ) (xs b : List ℕ) → Front xs b → Front (x ∷ xs) (x ∷ b)
front_cons x xs b e = ap {B = List ℕ} (λ r. x ∷ r) e

pub front_append : (xs ys b : List ℕ) → Front xs b → Front ys (drop (length xs) b) → Front (xs ++ ys) b
front_append xs ys b e f = rw (length-append xs ys, ← drop-drop (length ys) (length xs) b, append_assoc, f) e

-- as long as they are, they are all of it
pub front_all : (xs b : List ℕ) → Front xs b → length xs ≡ length b → xs ≡ b
front_all xs b e h =
    let none : drop (length xs) b ≡ [] = drop_of_length-le b {i = length xs} (omega arith) in
    sym (append-nil xs) ∙ (rw none at e)

pub front_take : (n : ℕ) (b : List ℕ) → n ≤ length b → Front (take n b) b
front_take n b h = rw (length-take-le n b h) (take-append-drop n b)

pub front_number : (w : ℕ) (b : List ℕ) → Bytes b → w ≤ 8 → w ≤ length b → Front (le_bytes w (number_at w 0 b)) b
front_number w b bytes h s =
    let stands : le_bytes w (number_at w 0 b) ≡ take w b = ap (le_bytes w) (number_within w 0 b h (omega arith)) ∙ le_back w b bytes s in
    rw stands (front_take w b s)
