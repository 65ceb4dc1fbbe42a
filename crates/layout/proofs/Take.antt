-- Laws of `take`: what stands at the front of an array, up to its count, and so of `units_in`.
use Prim.Native.Nat.{ℕ, zero, suc, ◌+◌, min, ◌<◌, ◌≤◌}
use mathlib.Core.List.{List, [], ◌∷◌, map}
use mathlib.Core.Path.{◌≡◌, refl, sym, ap, ◌∙◌}
use native.Mathlib.Nat.{not-suc-le-zero}
use native.Mathlib.Numerals.{add-one}
use native.Mathlib.Omega.{arith}
use lib.ListN.{length, get_or, take, drop, length-take, length-map, drop_of_length-le, get_or-map}
use lib.Seq.{take-nil, get_or-take, drop-cons}
use Rattle.std.proofs.lemmas.List.{drop_min}
use Rattle.layout.specs.declared.Chain.{Chain}

module _ {A : Type 0} where
  -- a count past the end counts no more than the array holds
  pub take_clip : (n m : ℕ) (xs : List A) → length xs ≡ m → take (min n m) xs ≡ take n xs
  take_clip n m [] e = take-nil (min n m) ∙ sym (take-nil n)
  take_clip zero m (x ∷ xs) e = let z : min zero m ≡ 0 = omega arith in rw z
  take_clip (suc n) m (x ∷ xs) e =
      let z : min (suc n) m ≡ suc (min n (length xs)) = omega arith in
      rw z (ap (◌∷◌ x) (take_clip n (length xs) xs refl))

  -- what stands past it
  pub past_front : (n : ℕ) (xs : List A) → drop (length (take n xs)) xs ≡ drop n xs
  past_front n xs = rw length-take (drop_min n xs)

module _ {A B : Type 0} (f : A → B) where
  pub front_more : (n : ℕ) (xs : List A) (i : ℕ) (d : A) → i < n → i < length xs → drop i (map f (take n xs)) ≡ f (get_or xs i d) ∷ drop (i + 1) (map f (take n xs))
  front_more zero xs i d h k = absurd (not-suc-le-zero h)
  front_more (suc n) [] i d h k = absurd (not-suc-le-zero k)
  front_more (suc n) (x ∷ xs) zero d h k = refl
  front_more (suc n) (x ∷ xs) (suc i) d h k =
      let z : suc i + 1 ≡ suc (i + 1) = omega arith in
      rw z (front_more n xs i d (omega arith) (omega arith))

  pub front_length : (n : ℕ) (xs : List A) → length (map f (take n xs)) ≡ min n (length xs)
  front_length n xs = length-map (take n xs) f ∙ length-take n xs

  -- d stands past the end
  pub front_at : (n : ℕ) (xs : List A) (i : ℕ) (d : A) → i < n → f (get_or xs i d) ≡ get_or (map f (take n xs)) i (f d)
  front_at n xs i d h = sym (get_or-map f (take n xs) i d ∙ ap f (get_or-take n xs i d h))

  pub front_over : (n m : ℕ) (xs : List A) (i : ℕ) → length xs ≡ m → min n m ≤ i → drop i (map f (take n xs)) ≡ []
  front_over n m xs i e h = drop_of_length-le (map f (take n xs)) {i = i} (rw (front_length n xs, e) h)

-- the first n entries, from the i-th on
pub front_step : (n : ℕ) (xs : List ℕ) (i : ℕ) → i < n → n ≤ length xs → drop i (take n xs) ≡ get_or xs i 0 ∷ drop (i + 1) (take n xs)
front_step n xs i h k =
    let within : i < length (take n xs) = rw length-take (omega arith) in
    drop-cons (take n xs) i 0 within ∙ rw (get_or-take n xs i 0 h, add-one i)

pub front_end : (n : ℕ) (xs : List ℕ) (i : ℕ) → n ≤ i → drop i (take n xs) ≡ []
front_end n xs i h = drop_of_length-le (take n xs) {i = i} (rw length-take (omega arith))

-- what code reads past the end of an array of sets
abbrev pub past_sets : Chain
past_sets = record { count = 0; units = [] }
