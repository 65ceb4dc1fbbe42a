-- Laws of the test of the used slots: the rise of positions, and one turn of the loop, which has no early exit.
use Rattle.std.proofs.Common.{◌≡◌, ℕ, zero, suc, ◌+◌, ◌-◌, ◌*◌, ◌/◌, ◌%◌, ◌^◌, ◌<◌, ◌≤◌, Bool, true, false, ◌&&◌, eqb, ltb, leb, List, length, drop, sym, refl, ap, ◌∙◌, le_trans, zero-add, arith, length-drop, drop-drop, ltb-true, lt-ltb, ne_eqb, le-leb, leb-true}
use lib.Bits.{bit_or, bit_and}
use lib.Dec.{eqb-suc-zero}
use Rattle.num.specs.Bytes.{le}
use Rattle.num.specs.Limits.{limit}
use Rattle.num.proofs.Tests.{false_true, and_both, and_false}
use Rattle.num.proofs.Numbers.{Bytes}
use Rattle.unit.specs.Zeros.{zeros, ruler}
use Rattle.unit.specs.Shape.{slot_size}
use Rattle.unit.specs.Memory.{good_fields, good_slot, good_slots}
use Rattle.unit.proofs.Words.{or_none, rest_words}
use Rattle.unit.proofs.Goodness.{slot_words}

fields_apart : (cap low p kind len : ℕ) → good_fields cap low p kind len ≡ ((leb low p && ltb p limit) && good_fields cap 0 0 kind len)
fields_apart cap low p kind len = apart (leb low p && ltb p limit) _ _ _
  where
    apart : (x a b c : Bool) → (x && a && b && c) ≡ (x && (a && b && c))
    apart true a b c = refl
    apart false a b c = refl

-- ---- the sums

and_swap : (a b c d : Bool) → ((a && b) && (c && d)) ≡ ((a && c) && (b && d))
and_swap true true c d = refl
and_swap true false c d = sym (and_false c)
and_swap false b c d = refl

sums_apart : (a b c d w x y z : ℕ)
    → (eqb (bit_or a w) 0 && eqb (bit_or b x) 0 && eqb (bit_or c y) 0 && eqb (bit_or d z) 0)
    ≡ ((eqb a 0 && eqb b 0 && eqb c 0 && eqb d 0) && (eqb w 0 && eqb x 0 && eqb y 0 && eqb z 0))
sums_apart a b c d w x y z =
    rw (or_none a w, or_none b x, or_none c y, or_none d z) (four (eqb a 0) (eqb b 0) (eqb c 0) (eqb d 0) (eqb w 0) (eqb x 0) (eqb y 0) (eqb z 0))
  where
    four : (a b c d w x y z : Bool) → ((a && w) && (b && x) && (c && y) && (d && z)) ≡ ((a && b && c && d) && (w && x && y && z))
    four a b c d w x y z =
        ap (λ (t : Bool). t && (c && y) && (d && z)) (and_swap a w b x) ∙ ap (λ (t : Bool). t && (d && z)) (and_swap (a && b) (w && x) c y)
        ∙ and_swap (a && b && c) (w && x && y) d z

-- the words behind the first four are tested with the fields
with_fields : (q t w v : Bool) → ((q && t) && (w && v)) ≡ ((q && (t && v)) && w)
with_fields true true true true = refl
with_fields true true true false = refl
with_fields true true false true = refl
with_fields true true false false = refl
with_fields true false w v = refl
with_fields false t w v = refl

faults_apart : (n f : ℕ) → eqb (n + f) 0 ≡ (eqb n 0 && eqb f 0)
faults_apart zero f = rw zero-add
faults_apart (suc n) f = ne_eqb (suc n + f) 0 (omega arith) ∙ sym (rw (eqb-suc-zero n))

faults_two : (n f g : ℕ) (u v : Bool) → eqb f 0 ≡ (u && v) → eqb (n + f + g) 0 ≡ (eqb n 0 && (u && (eqb g 0 && v)))
faults_two n f g u v e = faults_apart (n + f) g ∙ rw (faults_apart n f, e) (turn (eqb n 0) u v (eqb g 0))
  where
    turn : (n u v t : Bool) → ((n && (u && v)) && t) ≡ (n && (u && (t && v)))
    turn true true true true = refl
    turn true true true false = refl
    turn true true false t = sym (and_false t)
    turn true false v t = refl
    turn false u v t = refl

-- ---- the rise of positions

-- The bound is tested once, behind the last slot, and each position against the one before: here for one slot, of position p, of which F, S, T and Z say
-- what is asked beside the position, and `rest` what is asked of the slots behind it.
module _ (least p next : ℕ) (hp : p < 2 ^ 64) (hn : next ≡ (p + 1) % 2 ^ 64) (rest : ℕ → Bool) where
  rises : (F S T Z q : Bool) → (leb least p && ltb p limit) ≡ q
      → ((F && S && leb least limit) && (((q && T) && Z) && rest (p + 1))) ≡ ((F && (ltb least next && T)) && (S && Z) && leb next limit && rest next)
  rises F S T Z true e =
      let (u, v) = and_both (leb least p) (ltb p limit) e in
      let l = leb-true least p u in
      let g = ltb-true p limit v in
      let n : next ≡ p + 1 = omega arith in
      rw (le-leb least limit (omega arith), lt-ltb least next (omega arith), le-leb next limit (omega arith), n) (both F S T Z (rest (p + 1)))
    where
      both : (F S T Z R : Bool) → ((F && S && true) && ((T && Z) && R)) ≡ ((F && T) && (S && Z) && true && R)
      both true true true true R = refl
      both true true true false R = refl
      both true true false Z R = refl
      both true false true Z R = refl
      both true false false Z R = refl
      both false S T Z R = refl
  rises F S T Z false e = and_false (F && S && leb least limit) ∙ sym (none F (S && Z) T (rest next) (ltb least next) (leb next limit) refl refl)
    where
      none : (F S T R u v : Bool) → ltb least next ≡ u → leb next limit ≡ v → ((F && (u && T)) && S && v && R) ≡ false
      none F S T R true true hu hv =
          let l = ltb-true least next hu in
          let g = leb-true next limit hv in
          absurd (false_true (sym e ∙ rw (le-leb least p (omega arith), lt-ltb p limit (omega arith))))
      none F S T R true false hu hv = rw and_false
      none F S T R false v hu hv = rw and_false

-- ---- the loop

-- What is asked of all `count` slots is that the faults and sums so far are none, and what is asked of the `left` slots from offset `at` on.
pub record Checked (cap : ℕ) (m : List ℕ) (count low left least at faults a b c d : ℕ) : Type 0 where
  pub so : good_slots cap count low (drop 24 m)
      ≡ ((eqb faults 0 && (eqb a 0 && eqb b 0 && eqb c 0 && eqb d 0) && leb least limit) && good_slots cap left least (drop at m))
  pub room : at + left * slot_size cap ≤ length m
  pub few : faults + 2 * left ≤ 2 * count

pub checked_none : (cap : ℕ) (m : List ℕ) (count low : ℕ) → low ≤ limit → 24 + count * slot_size cap ≤ length m → Checked cap m count low count low 24 0 0 0 0 0
checked_none cap m count low l h = record { so = rw (le-leb low limit l); room = h; few = omega arith }

module _ {cap : ℕ} {m : List ℕ} {count low left least at faults a b c d : ℕ} (k : Checked cap m count low left least at faults a b c d) where
  slots_step : 0 < left → (p : ℕ) → p ≡ le 8 (drop at m)
      → good_slots cap left least (drop at m) ≡ (good_slot cap least (drop at m) && good_slots cap (left - 1) (p + 1) (drop (at + slot_size cap) m))
  unfolding good_slots
  slots_step h p e =
      let l : left ≡ suc (left - 1) = omega arith in
      ap (λ (n : ℕ). good_slots cap n least (drop at m)) l ∙ rw (drop-drop (slot_size cap) at m, e)

  checked_left : 0 < left → at + slot_size cap + (left - 1) * slot_size cap ≤ length m
  checked_left h =
      let l : left ≡ suc (left - 1) = omega arith in
      let r : at + suc (left - 1) * slot_size cap ≤ length m = rw l at k.room in
      omega arith

  -- the next slot lies within the memory
  pub checked_room : 0 < left → at + slot_size cap ≤ length m
  checked_room h = omega (arith, checked_left h)

  pub checked_more : 0 < left → 32 ≤ cap → cap ≤ 80 → Bytes m → (full : List ℕ) → full ≡ ruler → (p next tag n f g w x y z v : ℕ) → p < 2 ^ 64
      → p ≡ le 8 (drop at m) → next ≡ (p + 1) % 2 ^ 64 → tag ≡ le 8 (drop (at + 8) m) → n ≤ 127 → (1 ≤ tag % 256 → tag / 256 ≤ 80 → n ≡ tag / 256)
      → g ≤ 1 → eqb g 0 ≡ good_fields cap 0 0 (tag % 256) (tag / 256) → f ≤ 1 → eqb f 0 ≡ (ltb least next && eqb v 0)
      → w ≡ bit_and (le 8 (drop (at + 16) m)) (le 8 (drop (128 - n) full)) → x ≡ bit_and (le 8 (drop (at + 24) m)) (le 8 (drop (128 - n + 8) full))
      → y ≡ bit_and (le 8 (drop (at + 32) m)) (le 8 (drop (128 - n + 16) full)) → z ≡ bit_and (le 8 (drop (at + 40) m)) (le 8 (drop (128 - n + 24) full))
      → eqb v 0 ≡ zeros (cap - 32 - (128 - (128 - n + 32))) (drop (at + 48 + (128 - (128 - n + 32))) m)
      → Checked cap m count low (left - 1) next (at + slot_size cap) (faults + (f + g)) (bit_or a w) (bit_or b x) (bit_or c y) (bit_or d z)
  checked_more h c32 c80 by full r p next tag n f g w x y z v hp ep en et hn hl hg eg hf ef ew ex ey ez ev =
      let room = checked_left h in
      let up : (i j : ℕ) → at + i + j ≡ at + (i + j) = λ i j. omega arith in
      let words = rest_words n (at + 16) m full by r cap (omega arith) c32 w x y z v ew (rw (up 16 8) ex) (rw (up 16 16) ey) (rw (up 16 24) ez) (rw (up 16 32) ev) in
      let slot = slot_words cap least at m by (omega arith) (omega arith) p tag n _ _ ep et (sym (fields_apart cap least p (tag % 256) (tag / 256))) (λ k l. hl k (le_trans l c80)) words in
      let own : good_slot cap least (drop at m) ≡ (((leb least p && ltb p limit) && (eqb g 0 && eqb v 0)) && (eqb w 0 && eqb x 0 && eqb y 0 && eqb z 0))
      = sym slot ∙ rw (← eg) (with_fields (leb least p && ltb p limit) (eqb g 0) (eqb w 0 && eqb x 0 && eqb y 0 && eqb z 0) (eqb v 0)) in
      let sum : faults + (f + g) ≡ faults + f + g = omega arith in
      rw sum (record {
        so = k.so ∙ rw (slots_step h p ep, own, faults_two faults f g (ltb least next) (eqb v 0) ef, sums_apart a b c d w x y z)
            (rises least p next hp en (λ (q : ℕ). good_slots cap (left - 1) q (drop (at + slot_size cap) m)) (eqb faults 0)
            (eqb a 0 && eqb b 0 && eqb c 0 && eqb d 0) (eqb g 0 && eqb v 0)
            (eqb w 0 && eqb x 0 && eqb y 0 && eqb z 0) (leb least p && ltb p limit) refl);
        room = room;
        few = omega (arith, k.few);
      })

  pub checked_all : (z : Bool) → left ≤ 0 → z ≡ zeros (length m - at) (drop at m)
      → (eqb faults 0 && (eqb a 0 && eqb b 0 && eqb c 0 && eqb d 0) && leb least limit && z) ≡ good_slots cap count low (drop 24 m)
  unfolding good_slots
  checked_all z h y =
      let l : left ≡ 0 = omega arith in
      let g : good_slots cap left least (drop at m) ≡ z = ap (λ (n : ℕ). good_slots cap n least (drop at m)) l ∙ rw (length-drop at m, y) in
      sym (k.so ∙ rw g)
