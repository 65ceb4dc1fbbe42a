-- What the test of what is lent says of it; and eight memories that pass it are the bytes of the units in them.
use Prim.Native.Nat.{ℕ, zero, suc, ◌≤◌}
use mathlib.Core.Bool.{true, ◌&&◌, ◌||◌, not}
use mathlib.Core.List.{List, [], ◌∷◌}
use mathlib.Core.Path.{◌≡◌, refl, sym}
use native.Mathlib.Omega.{arith}
use borrow.Author.Tests.{eqb-true, ltb-false, not-false}
use lib.Dec.{eqb, ltb}
use lib.ListN.{length, take, drop, take-append-drop}
use Rattle.num.proofs.Numbers.{Bytes, bytes_drop}
use Rattle.num.proofs.Tests.{and_both, or_false, cond_zero}
use Rattle.layout.specs.Value.{good_value}
use Rattle.unit.specs.declared.shape.Shape.{Shape}
use Rattle.unit.specs.Shape.{shape_for}
use Rattle.unit.specs.Memory.{good}
use Rattle.unit.proofs.Encoding.{encode_decode}
use Rattle.rule.specs.declared.Yard.{Yard}
use Rattle.rule.specs.Lent.{good_unit, good_units, good_clients, test_number, units_in, units_bytes}
use Rattle.rule.proofs.Shaping.{tested}

-- ---- the test

pub record Tested (y : Yard) (places : ℕ) (m : List ℕ) : Type 0 where
  pub memories : good_units y.held.shape 1 8 m ≡ true
  pub long : places ≡ 32
  pub few : y.count ≤ 32

pub test_says : (y : Yard) (places : ℕ) (m : List ℕ) → test_number y places m ≡ 0 → Tested y places m
unfolding test_number
test_says y places m z =
    let (a, u) = cond_zero (not (good_units y.held.shape 1 8 m)) 1 _ (omega arith) z in
    let (b, v) = cond_zero (not (good_value y.held && good_clients y.clients)) 10 _ (omega arith) u in
    let (d, w) = cond_zero (not (eqb places 32) || ltb 32 y.count) 16 0 (omega arith) v in
    let (e, f) = or_false (not (eqb places 32)) (ltb 32 y.count) d in
    record { memories = not-false (good_units y.held.shape 1 8 m) a; long = eqb-true places 32 (not-false (eqb places 32) e); few = ltb-false 32 y.count f }

-- ---- the memories

none_left : {A : Type 0} (xs : List A) → length xs ≡ 0 → xs ≡ []
none_left [] e = refl
none_left (x ∷ xs) e = absurd (more (length xs) e)
  where
    more : (n : ℕ) → suc n ≡ 0 → ⊥
    more n z = omega arith

pub bytes_take : (n : ℕ) (xs : List ℕ) → Bytes xs → Bytes (take n xs)
bytes_take zero xs b k = record { fits = omega arith }
bytes_take (suc n) [] b k = b k
bytes_take (suc n) (x ∷ xs) b zero = b 0
bytes_take (suc n) (x ∷ xs) b (suc k) = bytes_take n xs (λ i. b (suc i)) k

-- in a yard of whatever shape
module _ (shape : ℕ) where
  abbrev sh : Shape
  sh = shape_for shape

  -- one memory and the others
  pub good_parts : (u n : ℕ) (m : List ℕ) → good_units shape u (suc n) m ≡ true → (good_unit shape u (take 6168 m) ≡ true) × (good_units shape (suc u) n (drop 6168 m) ≡ true)
  unfolding good_units
  good_parts u n m g = and_both (good_unit shape u (take 6168 m)) (good_units shape (suc u) n (drop 6168 m)) g

  pub good_here : (u n : ℕ) (m : List ℕ) → good_units shape u (suc n) m ≡ true → good sh (take 6168 m) ≡ true
  good_here u n m g = (tested shape u (take 6168 m) (good_parts u n m g).0).0

  -- THE BYTES OF ITS UNITS ARE THE MEMORY
  pub units_same : (u n : ℕ) (m : List ℕ) → Bytes m → good_units shape u n m ≡ true → units_bytes sh (units_in sh n m) ≡ m
  unfolding units_bytes units_in good_units
  units_same u zero m b g = sym (none_left m (eqb-true (length m) 0 g))
  units_same u (suc n) m b g =
      rw (encode_decode sh (take 6168 m) (bytes_take 6168 m b) (good_here u n m g), units_same (suc u) n (drop 6168 m) (bytes_drop 6168 m b) (good_parts u n m g).1) (take-append-drop 6168 m)
