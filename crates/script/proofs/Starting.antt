-- The start of a play put into a lent buffer.
use Prim.Native.Nat.{ℕ, ◌+◌, ◌≤◌}
use mathlib.Core.Bool.{Bool, true, false, ◌&&◌, not}
use mathlib.Core.List.{List, ◌++◌}
use mathlib.Core.Path.{◌≡◌, refl, sym, ap, ◌∙◌}
use native.Mathlib.Omega.{arith}
use borrow.Author.Tests.{le-ltb, eq-eqb, ne_eqb, not-false}
use lib.Dec.{eqb, ltb}
use lib.ListN.{length, take, replicate, length-append}
use lib.Seq.{sets, length-sets}
use Rattle.num.specs.declared.refusal.Refusal.{Refusal}
use Rattle.num.specs.Refusals.{number}
use Rattle.num.proofs.Refusals.{number_above}
use Rattle.num.specs.Bytes.{le_bytes, with_number}
use Rattle.num.proofs.Tests.{and_false, or_false, cond_zero}
use Rattle.num.proofs.Numbers.{le_length, stored_within}
use Rattle.num.proofs.Storing.{stored_both}
use Rattle.layout.specs.declared.Layout.{Layout}
use Rattle.layout.specs.Value.{padded, lay_of, good_value}
use Rattle.layout.specs.Codec.{bytes_of, write_refused, LayoutWritten}
use Rattle.layout.proofs.Padded.{padded_front, sets_padded}
use Rattle.layout.proofs.ValueOf.{value_of_good}
use Rattle.layout.proofs.Decode.{encode_small}
use Rattle.script.specs.Play.{start_bytes, starts_yard}

-- no good layout is longer than the buffer that it is written to first
pub good_few : (l : Layout) → good_value l ≡ true → length (bytes_of l) ≤ 168
unfolding bytes_of
good_few l g = encode_small (lay_of l) (value_of_good l g).0

good_written : (l : Layout) → good_value l ≡ true → write_refused l (replicate 168 0) ≡ false
unfolding write_refused
good_written l g = rw g (le-ltb 168 (length (bytes_of l)) (good_few l g))

written_good : (l : Layout) → write_refused l (replicate 168 0) ≡ false → good_value l ≡ true
unfolding write_refused
written_good l e = not-false (good_value l) (or_false (not (good_value l)) (ltb 168 (length (bytes_of l))) e).0

module _ (l : Layout) where
  -- another epoch than the first
  pub start_other : (l.epoch.0 ≡ 1 → ⊥) → starts_yard l ≡ false
  start_other h = rw (ne_eqb l.epoch.0 1 h, and_false (good_value l))

  pub start_refused : (r : Refusal) {n : ℕ} {part : List ℕ} → LayoutWritten l (replicate 168 0) (number r) n part → starts_yard l ≡ false
  start_refused r w = go (good_value l) refl
    where
      go : (t : Bool) → good_value l ≡ t → (t && eqb l.epoch.0 1) ≡ false
      go false g = refl
      go true g = absurd (number_above r (w.answer_is ∙ rw (good_written l g)))

  module _ {n : ℕ} {part : List ℕ} (w : LayoutWritten l (replicate 168 0) 0 n part) where
    taken : write_refused l (replicate 168 0) ≡ false
    taken = (cond_zero (write_refused l (replicate 168 0)) 10 0 (omega arith) (sym w.answer_is)).0

    pub start_taken : l.epoch.0 ≡ 1 → starts_yard l ≡ true
    start_taken one = rw (written_good l taken, eq-eqb l.epoch.0 1 one)

    pub start_count : n ≡ length (bytes_of l)
    start_count = w.count_is ∙ rw taken

    pub start_few : n ≤ 168
    start_few = rw start_count (good_few l (written_good l taken))

    pub part_long : length part ≡ 168
    part_long = ap length (w.buffer_is ∙ rw taken) ∙ length-sets (replicate 168 0) 0 (bytes_of l)

    pub start_part : take n part ≡ bytes_of l
    start_part =
        let stored : part ≡ padded 168 0 (bytes_of l) = w.buffer_is ∙ rw taken (sets_padded 168 0 (bytes_of l)) in
        rw (start_count, stored) (padded_front 168 0 (bytes_of l) (good_few l (written_good l taken)))

-- how many bytes stand before the steps
pub start_size : (l : Layout) (n count : ℕ) → n ≡ length (bytes_of l) → length (start_bytes l count) ≡ 6 + n
unfolding start_bytes
start_size l n count e =
    omega (
      arith,
      length-append (le_bytes 2 (length (bytes_of l)) ++ bytes_of l) (le_bytes 4 count),
      length-append (le_bytes 2 (length (bytes_of l))) (bytes_of l),
      le_length 2 (length (bytes_of l)),
      le_length 4 count,
    )

pub number_put : (w at n : ℕ) (out o : List ℕ) → at + w ≤ length out → o ≡ with_number w at n out → (o ≡ sets out at (le_bytes w n)) × (length o ≡ length out)
number_put w at n out o h e =
    let put : o ≡ sets out at (le_bytes w n) = e ∙ stored_within w at n out h in
    (put, ap length put ∙ length-sets out at (le_bytes w n))

-- part by part
pub start_put : (l : Layout) (n count : ℕ) (out o₁ o₂ o₃ part : List ℕ) → n ≡ length (bytes_of l) → take n part ≡ bytes_of l → 0 + (6 + n) ≤ length out
    → o₁ ≡ with_number 2 0 n out → o₂ ≡ sets o₁ 2 (take n part) → o₃ ≡ with_number 4 (2 + n) count o₂ → o₃ ≡ sets out 0 (start_bytes l count)
unfolding start_bytes
start_put l n count out o₁ o₂ o₃ part en ep fits e f g =
    let first : o₁ ≡ sets out 0 (le_bytes 2 n) = (number_put 2 0 n out o₁ (omega arith) e).0 in
    let second : o₂ ≡ sets out 0 (le_bytes 2 n ++ bytes_of l) = stored_both out o₁ o₂ 0 2 (le_bytes 2 n) (bytes_of l) first (rw ep at f) (omega (arith, le_length 2 n)) in
    let long : length o₂ ≡ length out = ap length second ∙ length-sets out 0 (le_bytes 2 n ++ bytes_of l) in
    let third : o₃ ≡ sets o₂ (2 + n) (le_bytes 4 count) = (number_put 4 (2 + n) count o₂ o₃ (omega arith) g).0 in
    let far : 2 + n ≡ 0 + length (le_bytes 2 n ++ bytes_of l) = omega (arith, length-append (le_bytes 2 n) (bytes_of l), le_length 2 n) in
    rw (← en) (stored_both out o₂ o₃ 0 (2 + n) (le_bytes 2 n ++ bytes_of l) (le_bytes 4 count) second third far)
