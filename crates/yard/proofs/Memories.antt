-- Eight unit memories in one: the part of each, and what is left where one part changes.
use Prim.Native.Nat.{ℕ, zero, suc, ◌+◌, ◌-◌, ◌*◌, ◌<◌, ◌≤◌}
use mathlib.Core.Bool.{Bool, true, false, ◌&&◌}
use mathlib.Core.List.{List, ◌++◌, append_assoc}
use mathlib.Core.Path.{◌≡◌, refl, sym, ap, ◌∙◌}
use native.Mathlib.Nat.{not-suc-le-zero, le_of_suc-le-suc}
use native.Mathlib.Omega.{arith}
use borrow.Author.Tests.{eqb-true, leb-true}
use lib.Dec.{eqb, leb}
use lib.ListN.{length, get_or, take, drop, set, length-take, length-drop}
use lib.Seq.{drop-drop, take-add, get_or-take}
use Rattle.num.specs.Bytes.{le, number_at}
use Rattle.num.proofs.Numbers.{Bytes, bytes_drop, number_within, le_step}
use Rattle.num.proofs.Tests.{and_both}
use Rattle.unit.specs.declared.shape.Shape.{Shape}
use Rattle.unit.specs.Shape.{shape_for, shape_of}
use Rattle.unit.specs.State.{State}
use Rattle.unit.specs.Memory.{good, number_of, code_of, decode, encode}
use Rattle.unit.proofs.Goodness.{is_good_lem}
use Rattle.unit.proofs.Shapes.{sized, for_known, names_shape}
use Rattle.unit.proofs.Encoding.{encode_decode}
use Rattle.client.specs.declared.Page.{Page}
use Rattle.client.specs.declared.UnitAsk.{UnitAsk}
use Rattle.client.specs.declared.Response.{Response}
use Rattle.unit.specs.Unit.{fresh_unit}
use Rattle.rule.specs.World.{is_unit}
use Rattle.rule.specs.Lent.{good_unit, good_units, units_in, units_bytes}
use Rattle.rule.specs.Serve.{unit_says, unit_after}
use Rattle.rule.proofs.Testing.{bytes_take, good_parts, good_here, units_same}
use Rattle.yard.specs.InsideParts.{unit_of, OnUnit, AtUnit}

-- the memory of the unit k, counted from 0
abbrev pub part : List ℕ → ℕ → List ℕ
part m k = take 6168 (drop (k * 6168) m)

next : (m : List ℕ) (k : ℕ) → drop (suc k * 6168) m ≡ drop (k * 6168) (drop 6168 m)
next m k = let e : suc k * 6168 ≡ 6168 + k * 6168 = omega arith in rw e (sym (drop-drop (k * 6168) 6168 m))

pub unit_part : (sh : Shape) (n : ℕ) (m : List ℕ) (k : ℕ) (d : State) → k < n → get_or (units_in sh n m) k d ≡ decode sh (part m k)
unfolding units_in
unit_part sh zero m k d h = absurd (not-suc-le-zero h)
unit_part sh (suc n) m zero d h = refl
unit_part sh (suc n) m (suc k) d h = rw (next m k) (unit_part sh n (drop 6168 m) k d (le_of_suc-le-suc h))

-- in a yard of whatever shape
module _ (shape : ℕ) where
  abbrev sh : Shape
  sh = shape_for shape

  pub good_long : (u n : ℕ) (m : List ℕ) → good_units shape u n m ≡ true → length m ≡ n * 6168
  unfolding good_units
  good_long u zero m g = eqb-true (length m) 0 g
  good_long u (suc n) m g =
      let h = (is_good_lem sh (take 6168 m) (good_here shape u n m g)).size ∙ (sized shape).whole in
      let r : length (drop 6168 m) ≡ n * 6168 = good_long (suc u) n (drop 6168 m) (good_parts shape u n m g).1 in
      omega (arith, h, length-take 6168 m, length-drop 6168 m)

  pub good_part : (u n : ℕ) (m : List ℕ) (k : ℕ) → good_units shape u n m ≡ true → k < n → good sh (part m k) ≡ true
  good_part u zero m k g h = absurd (not-suc-le-zero h)
  good_part u (suc n) m zero g h = good_here shape u n m g
  good_part u (suc n) m (suc k) g h = rw (next m k) (good_part (suc u) n (drop 6168 m) k (good_parts shape u n m g).1 (le_of_suc-le-suc h))

  -- each names the yard's shape
  pub part_shape : (u n : ℕ) (m : List ℕ) (k : ℕ) → good_units shape u n m ≡ true → k < n → shape_of (part m k) ≡ sh
  part_shape u n m k g h = names_shape sh (part m k) (for_known shape) (good_part u n m k g h)

  pub part_good : (u n : ℕ) (m : List ℕ) (k : ℕ) → good_units shape u n m ≡ true → k < n → good (shape_of (part m k)) (part m k) ≡ true
  part_good u n m k g h = rw (part_shape u n m k g h) (good_part u n m k g h)

  -- ONE PART CHANGED IS ONE UNIT CHANGED
  pub part_changed : (u n : ℕ) (m : List ℕ) (k : ℕ) (s : State) → Bytes m → good_units shape u n m ≡ true → k < n
      → take (k * 6168) m ++ (encode sh s ++ drop 6168 (drop (k * 6168) m)) ≡ units_bytes sh (set (units_in sh n m) k s)
  unfolding units_bytes units_in
  part_changed u zero m k s b g h = absurd (not-suc-le-zero h)
  part_changed u (suc n) m zero s b g h = rw (units_same shape (suc u) n (drop 6168 m) (bytes_drop 6168 m b) (good_parts shape u n m g).1)
  part_changed u (suc n) m (suc k) s b g h =
      let e : suc k * 6168 ≡ 6168 + k * 6168 = omega arith in
      rw (e, take-add 6168 (k * 6168) m, ← drop-drop (k * 6168) 6168 m, append_assoc, encode_decode sh (take 6168 m) (bytes_take 6168 m b) (good_here shape u n m g))
      (ap (λ (l : List ℕ). take 6168 m ++ l) (part_changed (suc u) n (drop 6168 m) k s (bytes_drop 6168 m b) (good_parts shape u n m g).1 (le_of_suc-le-suc h)))

-- and so does the first byte but one of all of them
pub first_names : (shape : ℕ) (m : List ℕ) → good_units shape 1 8 m ≡ true → code_of m ≡ shape
unfolding good_unit
first_names shape m g =
    let p = take 6168 m in
    let t = (and_both (good (shape_of p) p && eqb (number_of p) 1) (eqb (code_of p) shape) (good_parts shape 1 7 m g).0).1 in
    sym (get_or-take 6168 m 1 0 (omega arith)) ∙ eqb-true (code_of p) shape t

pub first_named : (shape : ℕ) (m : List ℕ) → good_units shape 1 8 m ≡ true → good_units (code_of m) 1 8 m ≡ true
first_named shape m g = rw (first_names shape m g) g

-- units are numbered from 1 to 8
pub unit_numbered : (u : ℕ) → is_unit u ≡ true → (1 ≤ u) × (u - 1 < 8)
unit_numbered u h =
    let (l, m) = and_both (leb 1 u) (leb u 8) h in
    (leb-true 1 u l, omega (arith, leb-true 1 u l, leb-true u 8 m))

-- ---- the loop that tests them

byte_at : (sh : Shape) (m : List ℕ) (k : ℕ) → good sh m ≡ true → k < 24 → number_at 1 k m ≡ get_or m k 0
unfolding le
byte_at sh m k g h =
    let s : 24 ≤ length m = omega (arith, (is_good_lem sh m g).size) in
    number_within 1 k m (omega arith) (omega arith) ∙ le_step m k 0 (omega arith) ∙ omega arith

pub test_one : (shape n : ℕ) (m : List ℕ) → ((good (shape_of m) m && eqb (number_at 1 0 m) n) && eqb (number_at 1 1 m) shape) ≡ good_unit shape n m
unfolding good_unit
test_one shape n m = go (good (shape_of m) m) refl
  where
    go : (t : Bool) → good (shape_of m) m ≡ t → ((t && eqb (number_at 1 0 m) n) && eqb (number_at 1 1 m) shape) ≡ ((t && eqb (number_of m) n) && eqb (code_of m) shape)
    go true g = rw (byte_at (shape_of m) m 0 g (omega arith), byte_at (shape_of m) m 1 g (omega arith))
    go false g = refl

-- i memories are passed
pub record Passed (shape : ℕ) (m : List ℕ) (i : ℕ) : Type 0 where
  pub within : i ≤ 8
  pub left : good_units shape 1 8 m ≡ good_units shape (suc i) (8 - i) (drop (i * 6168) m)

module _ {shape : ℕ} {m : List ℕ} {i : ℕ} (p : Passed shape m i) (h : i < 8) where
  here : good_units shape 1 8 m ≡ (good_unit shape (suc i) (part m i) && good_units shape (suc (suc i)) (8 - suc i) (drop (suc i * 6168) m))
  unfolding good_units
  here =
      let e : 8 - i ≡ suc (8 - suc i) = omega arith in
      let d : suc i * 6168 ≡ i * 6168 + 6168 = omega arith in
      p.left ∙ rw (e, d, ← drop-drop 6168 (i * 6168) m)

  pub passed_stop : good_unit shape (suc i) (part m i) ≡ false → false ≡ good_units shape 1 8 m
  passed_stop s = sym (here ∙ rw s)

  pub passed_more : good_unit shape (suc i) (part m i) ≡ true → Passed shape m (suc i)
  passed_more s = record { within = h; left = here ∙ rw s }

pub passed_all : {shape : ℕ} {m : List ℕ} → Passed shape m 8 → length m ≡ 49344 → true ≡ good_units shape 1 8 m
unfolding good_units
passed_all {shape} {m} p e = sym (p.left ∙ rw (length-drop 49344 m, e))

pub wrong_length : (shape : ℕ) (m : List ℕ) → (length m ≡ 49344 → ⊥) → false ≡ good_units shape 1 8 m
wrong_length shape m h = go (good_units shape 1 8 m) refl
  where
    go : (t : Bool) → good_units shape 1 8 m ≡ t → false ≡ t
    go true g = absurd (h (good_long shape 1 8 m g))
    go false g = refl

-- a request at one part is a request at its unit; the part is long and starts where the unit's memory does
pub at_part : (shape : ℕ) (m : List ℕ) (u : ℕ) (ask : UnitAsk) (page : Page) {start long : ℕ} {r : Response} {after : List ℕ} → Bytes m → good_units shape 1 8 m ≡ true → u - 1 < 8 → long ≡ 6168 → start ≡ (u - 1) * 6168
    → (let p = take long (drop start m) in OnUnit (shape_of p) (unit_says (shape_of p) (decode (shape_of p) p) ask page) (unit_after (shape_of p) (decode (shape_of p) p) ask page) r after)
    → (let sh = shape_for shape in AtUnit sh m u (unit_says sh (unit_of sh m u) ask page) (unit_after sh (unit_of sh m u) ask page) r (take start m ++ (after ++ drop long (drop start m))))
at_part shape m u ask page {start} {long} b g h e f d =
    let k : ℕ = u - 1 in
    let sh : Shape = shape_for shape in
    let i = unit_part sh 8 m k (fresh_unit u) h in
    let o = rw (part_shape shape 1 8 m k g h) at (rw (e, f) at d) in
    record {
      response_is = o.response_is ∙ ap (λ (s : State). unit_says sh s ask page) (sym i);
      memories_is = rw (e, f, o.memory_is) (part_changed shape 1 8 m k _ b g h ∙ ap (λ (s : State). units_bytes sh (set (units_in sh 8 m) k (unit_after sh s ask page))) (sym i));
    }
