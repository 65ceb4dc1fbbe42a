-- Making a fresh yard: eight fresh memories, filled from the last to the first, and a blank table.
use Prim.Native.Nat.{ℕ, suc, ◌+◌, ◌-◌, ◌*◌, ◌<◌, ◌≤◌}
use mathlib.Core.Bool.{true, false, ◌&&◌, not}
use mathlib.Core.List.{List, [], ◌++◌}
use mathlib.Core.Path.{◌≡◌, sym, ◌∙◌}
use native.Mathlib.Omega.{arith}
use borrow.Author.Tests.{eqb-true, eq-eqb, ne_eqb, not-false}
use lib.Dec.{eqb}
use lib.ListN.{length, take, drop, length-append, length-drop, drop_of_length-le}
use lib.Seq.{drop-drop, drop_at, length-take-le}
use Rattle.num.proofs.Tests.{and_both, cond_zero}
use Rattle.layout.specs.declared.Layout.{Layout}
use Rattle.layout.specs.Lay.{last_shape}
use Rattle.layout.specs.Value.{good_value, blank}
use Rattle.layout.proofs.ValueOf.{value_known}
use Rattle.unit.specs.declared.shape.Shape.{Shape}
use Rattle.unit.specs.Shape.{shape_for}
use Rattle.unit.specs.Unit.{fresh_unit}
use Rattle.unit.specs.Memory.{encode}
use Rattle.unit.specs.Promises.{IsFresh}
use Rattle.unit.proofs.Shapes.{sized}
use Rattle.unit.proofs.Goodness.{is_good_lem}
use Rattle.unit.proofs.Freshness.{fresh_fine, fresh_made}
use Rattle.unit.proofs.Keeping.{fresh_valid}
use Rattle.unit.proofs.Holding.{encode_holds}
use Rattle.sequencer.specs.declared.Sequencer.{Sequencer}
use Rattle.sequencer.specs.Rules as sequencer
use Rattle.rule.specs.declared.Letter.{Letter}
use Rattle.rule.specs.Lent.{units_bytes}
use Rattle.rule.specs.Fresh.{fresh_units, fresh_number_of, fresh_number, fresh_yard, fresh_lent, makes, IsMade}
use Rattle.yard.specs.Bag.{blanked}
use Rattle.yard.proofs.Blanks.{blanked_whole}

-- ---- the memories

-- from unit i, counted from 0, on all are fresh
pub record Filled (shape : ℕ) (m : List ℕ) (i : ℕ) : Type 0 where
  pub long : length m ≡ 49344
  pub within : i ≤ 8
  pub fresh : drop (i * 6168) m ≡ units_bytes (shape_for shape) (fresh_units (suc i) (8 - i))

pub filled_none : (shape : ℕ) (m : List ℕ) → length m ≡ 49344 → Filled shape m 8
unfolding fresh_units units_bytes
filled_none shape m e = record { long = e; within = omega arith; fresh = none (omega arith) }
  where
    none : length m ≤ 49344 → drop 49344 m ≡ []
    none h = drop_of_length-le m h

pub made_fresh : {shape : ℕ} {p : List ℕ} {n a : ℕ} {after : List ℕ} → shape ≤ last_shape → length p ≡ 6168 → 1 ≤ n → n ≤ 8 → IsFresh p n shape a after → after ≡ encode (shape_for shape) (fresh_unit n)
made_fresh {shape} {p} {n} known l least most f = f.memory_is ∙ fresh_made p n shape (fresh_fine p n shape (l ∙ sym (sized shape).whole) known least most)

pub fresh_long : (shape n : ℕ) → 1 ≤ n → n ≤ 8 → length (encode (shape_for shape) (fresh_unit n)) ≡ 6168
fresh_long shape n least most =
    let sh : Shape = shape_for shape in
    (is_good_lem sh (encode sh (fresh_unit n)) (encode_holds sh (sized shape).room (fresh_unit n) (fresh_valid sh n least most)).is_good).size ∙ (sized shape).whole

-- one memory more
pub filled_more : {shape : ℕ} {m : List ℕ} {i : ℕ} → Filled shape m (suc i) → Filled shape (take (i * 6168) m ++ (encode (shape_for shape) (fresh_unit (suc i)) ++ drop 6168 (drop (i * 6168) m))) i
unfolding fresh_units units_bytes
filled_more {shape} {m} {i} f =
    let l = f.long in
    let w : suc i ≤ 8 = f.within in
    let p = fresh_long shape (suc i) (omega arith) w in
    let e : suc i * 6168 ≡ i * 6168 + 6168 = omega arith in
    let k : 8 - i ≡ suc (8 - suc i) = omega arith in
    let t : length (take (i * 6168) m) ≡ i * 6168 = length-take-le (i * 6168) m (omega arith) in
    let r : drop 6168 (drop (i * 6168) m) ≡ units_bytes (shape_for shape) (fresh_units (suc (suc i)) (8 - suc i)) = drop-drop 6168 (i * 6168) m ∙ rw (← e) f.fresh in
    record {
      long = rw (
        length-append (take (i * 6168) m) (encode (shape_for shape) (fresh_unit (suc i)) ++ drop 6168 (drop (i * 6168) m)),
        length-append (encode (shape_for shape) (fresh_unit (suc i))) (drop 6168 (drop (i * 6168) m)),
        t,
        p,
        length-drop 6168 (drop (i * 6168) m),
        length-drop (i * 6168) m,
      ) (omega arith);
      within = omega arith;
      fresh = drop_at (take (i * 6168) m) (encode (shape_for shape) (fresh_unit (suc i)) ++ drop 6168 (drop (i * 6168) m)) (i * 6168) t ∙ rw (r, k);
    }

pub filled_again : {shape : ℕ} {m : List ℕ} {i a : ℕ} {after : List ℕ} → shape ≤ last_shape → Filled shape m i → 0 < i → IsFresh (take 6168 (drop ((i - 1) * 6168) m)) (i - 1 + 1) shape a after
    → Filled shape (take ((i - 1) * 6168) m ++ (after ++ drop 6168 (drop ((i - 1) * 6168) m))) (i - 1)
filled_again {shape} {m} {i} known f h d =
    let e : i ≡ suc (i - 1) = omega arith in
    let n : i - 1 + 1 ≡ suc (i - 1) = omega arith in
    let w : i ≤ 8 = f.within in
    let p : length (take 6168 (drop ((i - 1) * 6168) m)) ≡ 6168 = length-take-le 6168 (drop ((i - 1) * 6168) m) (rw (length-drop ((i - 1) * 6168) m, f.long) (omega arith)) in
    rw (made_fresh known p (omega arith) (omega arith) (rw n at d)) (filled_more (rw e at f))

pub filled_all : {shape : ℕ} {m : List ℕ} → Filled shape m 0 → m ≡ units_bytes (shape_for shape) (fresh_units 1 8)
filled_all f = f.fresh

-- ---- all of it

table_long : (l : Layout) (places size : ℕ) → fresh_number_of l places size ≡ 0 → places ≡ 32
unfolding fresh_number_of
table_long l places size z =
    let (a, u) = cond_zero (not (eqb size 49344)) 1 _ (omega arith) z in
    let (b, v) = cond_zero (not (good_value l && eqb l.epoch.0 1)) 10 _ (omega arith) u in
    let (c, w) = cond_zero (not (eqb places 32)) 16 0 (omega arith) v in
    eqb-true places 32 (not-false (eqb places 32) c)

pub memories_long : (l : Layout) (places size : ℕ) → fresh_number_of l places size ≡ 0 → size ≡ 49344
unfolding fresh_number_of
memories_long l places size z =
    let (a, u) = cond_zero (not (eqb size 49344)) 1 _ (omega arith) z in
    eqb-true size 49344 (not-false (eqb size 49344) a)

pub layout_known : (l : Layout) (places size : ℕ) → fresh_number_of l places size ≡ 0 → l.shape ≤ last_shape
unfolding fresh_number_of
layout_known l places size z =
    let (a, u) = cond_zero (not (eqb size 49344)) 1 _ (omega arith) z in
    let (b, v) = cond_zero (not (good_value l && eqb l.epoch.0 1)) 10 _ (omega arith) u in
    value_known l (and_both (good_value l) (eqb l.epoch.0 1) (not-false (good_value l && eqb l.epoch.0 1) b)).0

module _ (l : Layout) (s : Sequencer) (table : List Letter) (m : List ℕ) where
  pub made_not : (k : ℕ) → fresh_number_of l (length table) (length m) ≡ k → (k ≡ 0 → ⊥) → IsMade l s table m (record { answer = k; yard = fresh_yard blank }) s table m
  unfolding makes fresh_number fresh_number_of
  made_not k e z =
      let f : eqb (fresh_number_of l (length table) (length m)) 0 ≡ false = ne_eqb _ 0 (λ t. z (sym e ∙ t)) in
      record { answer_is = sym e; yard_is = rw f; sequencer_is = rw f; table_is = rw f; memories_is = rw f }

  pub made : fresh_number_of l (length table) (length m) ≡ 0 → {after : List ℕ} → after ≡ units_bytes (shape_for l.shape) (fresh_units 1 8)
      → IsMade l s table m (record { answer = 0; yard = fresh_yard l }) sequencer.fresh (blanked table 32) after
  unfolding makes fresh_lent fresh_number fresh_number_of
  made z e =
      let f : eqb (fresh_number_of l (length table) (length m)) 0 ≡ true = eq-eqb _ 0 z in
      record { answer_is = sym z; yard_is = rw f; sequencer_is = rw f; table_is = rw f (blanked_whole table 32 (table_long l (length table) (length m) z)); memories_is = rw f e }
