-- Laws of `sets` of the library: lists stored in an array, and the loop that copies one.
use Prim.Native.Nat.{ℕ, ◌+◌, ◌<◌, ◌≤◌}
use mathlib.Core.List.{List, [], ◌∷◌}
use mathlib.Core.Path.{◌≡◌, refl, ap, ◌∙◌}
use native.Mathlib.Numerals.{add-one}
use native.Mathlib.Omega.{arith}
use lib.ListN.{length, get_or, take, drop, set, length-set}
use lib.Seq.{sets}
use Rattle.layout.proofs.Take.{front_step, front_end}
use Rattle.layout.proofs.Padded.{sets_behind}

module _ {A : Type 0} where
  pub stored_whole : (xs vs : List A) → length vs ≡ length xs → sets xs 0 vs ≡ vs
  stored_whole [] [] h = refl
  stored_whole [] (v ∷ vs) h = absurd (omega arith)
  stored_whole (x ∷ xs) [] h = absurd (omega arith)
  stored_whole (x ∷ xs) (v ∷ vs) h = sets_behind v xs 0 vs ∙ ap (◌∷◌ v) (stored_whole xs vs (omega arith))

-- ---- the loop that copies the first n of xs

pub record Copying (n : ℕ) (xs before : List ℕ) (i : ℕ) (out : List ℕ) : Type 0 where
  pub bound : i ≤ n
  pub rest : sets out i (drop i (take n xs)) ≡ sets before 0 (take n xs)
  pub as_long : length out ≡ length before

pub copy_none : (n : ℕ) (xs before : List ℕ) → Copying n xs before 0 before
copy_none n xs before = record { bound = omega arith; rest = refl; as_long = refl }

module _ {n : ℕ} {xs before : List ℕ} {i : ℕ} {out : List ℕ} (s : Copying n xs before i out) where
  pub copy_more : i < n → n ≤ length xs → Copying n xs before (i + 1) (set out i (get_or xs i 0))
  copy_more h k = record {
    bound = omega arith;
    rest = rw (add-one i) (rw (front_step n xs i h k, add-one i) at s.rest);
    as_long = length-set out i (get_or xs i 0) ∙ s.as_long;
  }

  pub copy_all : n ≤ i → out ≡ sets before 0 (take n xs)
  copy_all h = rw (front_end n xs i h) at s.rest
