-- Laws of `padded`: a list in n places with blanks behind it.
use Prim.Native.Nat.{ℕ, zero, suc, ◌+◌, ◌<◌, ◌≤◌}
use mathlib.Core.Bool.{cond}
use mathlib.Core.List.{List, [], ◌∷◌, ◌++◌, map}
use mathlib.Core.Path.{◌≡◌, refl, sym, ap, ◌∙◌}
use native.Mathlib.Nat.{le_of_suc-le-suc, not-suc-le-zero}
use native.Mathlib.Omega.{arith}
use borrow.Author.Tests.{lt-ltb, le-ltb}
use lib.Dec.{ltb, leb-suc-suc}
use lib.ListN.{length, get_or, take, drop, set, replicate, length-map}
use lib.Seq.{sets}
use Rattle.layout.specs.Value.{padded}

module _ {A : Type 0} where
  pub length_padded : (n : ℕ) (none : A) (xs : List A) → length (padded n none xs) ≡ n
  unfolding padded
  length_padded zero none xs = refl
  length_padded (suc n) none [] = ap suc (length_padded n none [])
  length_padded (suc n) none (x ∷ xs) = ap suc (length_padded n none xs)

  pub padded_none : (n : ℕ) (none : A) → padded n none [] ≡ replicate n none
  unfolding padded
  padded_none zero none = refl
  padded_none (suc n) none = ap {B = List A} (λ r. none ∷ r) (padded_none n none)

  -- a list that is blank past n is its first n entries, padded
  pub padded_back : (n : ℕ) (none : A) (xs : List A) → drop n xs ≡ replicate (length (drop n xs)) none → padded (length xs) none (take n xs) ≡ xs
  unfolding padded
  padded_back n none [] h = refl
  padded_back zero none (x ∷ xs) h = padded_none (suc (length xs)) none ∙ sym h
  padded_back (suc n) none (x ∷ xs) h = ap {B = List A} (λ r. x ∷ r) (padded_back n none xs h)

  -- what was padded stands in front
  pub padded_front : (k : ℕ) (none : A) (xs : List A) → length xs ≤ k → take (length xs) (padded k none xs) ≡ xs
  unfolding padded
  padded_front k none [] h = refl
  padded_front zero none (x ∷ xs) h = absurd (not-suc-le-zero h)
  padded_front (suc k) none (x ∷ xs) h = ap {B = List A} (λ r. x ∷ r) (padded_front k none xs (le_of_suc-le-suc h))

pub padded_map : {A B : Type 0} (f : A → B) (k : ℕ) (none : B) (xs : List A) → length xs ≤ k → take (length xs) (padded k none (map f xs)) ≡ map f xs
padded_map f k none xs h = rw (length-map xs f) at (padded_front k none (map f xs) (rw (length-map xs f) h))

pub padded_exact : (us ys : List ℕ) → padded (length us) 0 (us ++ ys) ≡ us
unfolding padded
padded_exact [] ys = refl
padded_exact (u ∷ us) ys = ap {B = List ℕ} (λ r. u ∷ r) (padded_exact us ys)

pub padded_mapped : {A B : Type 0} (f : A → B) (n : ℕ) (none : A) (xs : List A) → map f (padded n none xs) ≡ padded n (f none) (map f xs)
unfolding padded
padded_mapped f zero none xs = refl
padded_mapped f (suc n) none [] = ap (◌∷◌ (f none)) (padded_mapped f n none [])
padded_mapped f (suc n) none (x ∷ xs) = ap (◌∷◌ (f x)) (padded_mapped f n none xs)

-- ---- a padded list of bytes, byte by byte

pub padded_at : (n j : ℕ) (xs : List ℕ) → get_or (padded n 0 xs) j 0 ≡ cond (ltb j n) (get_or xs j 0) 0
unfolding padded
padded_at zero j xs = rw (le-ltb j 0 (omega arith))
padded_at (suc n) zero [] = rw (lt-ltb 0 (suc n) (omega arith))
padded_at (suc n) zero (x ∷ xs) = rw (lt-ltb 0 (suc n) (omega arith))
padded_at (suc n) (suc j) [] = rw (leb-suc-suc (suc j) n) (padded_at n j [])
padded_at (suc n) (suc j) (x ∷ xs) = rw (leb-suc-suc (suc j) n) (padded_at n j xs)

-- where there is no blank, it is what stands there
pub padded_there : (n : ℕ) (xs : List ℕ) → n ≤ length xs → padded n 0 xs ++ drop n xs ≡ xs
unfolding padded
padded_there zero xs h = refl
padded_there (suc n) [] h = absurd (not-suc-le-zero h)
padded_there (suc n) (x ∷ xs) h = ap {B = List ℕ} (λ r. x ∷ r) (padded_there n xs (le_of_suc-le-suc h))

-- ---- a list stored over blanks is that list, padded

module _ {A : Type 0} where
  sets_nowhere : (i : ℕ) (vs : List A) → sets [] i vs ≡ []
  sets_nowhere i [] = refl
  sets_nowhere i (v ∷ vs) = sets_nowhere (suc i) vs

  pub sets_behind : (x : A) (xs : List A) (i : ℕ) (vs : List A) → sets (x ∷ xs) (suc i) vs ≡ x ∷ sets xs i vs
  sets_behind x xs i [] = refl
  sets_behind x xs i (v ∷ vs) = sets_behind x (set xs i v) (suc i) vs

  pub sets_padded : (k : ℕ) (none : A) (vs : List A) → sets (replicate k none) 0 vs ≡ padded k none vs
  unfolding padded
  sets_padded zero none vs = sets_nowhere 0 vs
  sets_padded (suc k) none [] = sym (padded_none (suc k) none)
  sets_padded (suc k) none (v ∷ vs) = sets_behind v (replicate k none) 0 vs ∙ ap {B = List A} (λ r. v ∷ r) (sets_padded k none vs)

module _ {A : Type 0} where
  -- what is stored behind a list stands behind it
  pub padded_sets : (n : ℕ) (none : A) (xs ys : List A) → length xs + length ys ≤ n → sets (padded n none xs) (length xs) ys ≡ padded n none (xs ++ ys)
  unfolding padded
  padded_sets n none [] ys h = rw (padded_none n none) (sets_padded n none ys)
  padded_sets zero none (x ∷ xs) ys h = absurd (omega arith)
  padded_sets (suc n) none (x ∷ xs) ys h = sets_behind x (padded n none xs) (length xs) ys ∙ ap (◌∷◌ x) (padded_sets n none xs ys (omega arith))

-- the last of a list that is padded
module _ {A : Type 0} where
  pub padded_last : (n : ℕ) (none : A) (xs : List A) (x d : A) → length xs < n → get_or (padded n none (xs ++ x ∷ [])) (length xs) d ≡ x
  unfolding padded
  padded_last zero none xs x d h = absurd (omega arith)
  padded_last (suc n) none [] x d h = refl
  padded_last (suc n) none (y ∷ xs) x d h = padded_last n none xs x d (omega arith)

  pub padded_set_last : (n : ℕ) (none : A) (xs : List A) (x y : A) → length xs < n → set (padded n none (xs ++ x ∷ [])) (length xs) y ≡ padded n none (xs ++ y ∷ [])
  unfolding padded
  padded_set_last zero none xs x y h = absurd (omega arith)
  padded_set_last (suc n) none [] x y h = refl
  padded_set_last (suc n) none (z ∷ xs) x y h = ap (◌∷◌ z) (padded_set_last n none xs x y (omega arith))
