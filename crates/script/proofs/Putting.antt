-- Bytes put into a lent buffer.
use Prim.Native.Nat.{ℕ, zero, suc, ◌+◌, ◌*◌, ◌<◌, ◌≤◌}
use mathlib.Core.Bool.{Bool, true, false, ◌&&◌}
use mathlib.Core.List.{List, [], ◌∷◌, ◌++◌, map, append_assoc, append-nil}
use mathlib.Core.Path.{◌≡◌, refl, sym, ap, ◌∙◌}
use native.Mathlib.Omega.{arith}
use native.Mathlib.Numerals.{add-one, add-two}
use borrow.Author.Tests.{le-leb, lt-leb, leb-true}
use lib.Dec.{leb}
use lib.ListN.{length, get_or, take, drop, set, replicate, length-append, length-take, drop_of_length-le}
use lib.Seq.{sets, sets-eq, length-sets, drop-cons, drop-drop}
use borrow.Rule.Slice.PartMut.{put_mid}
use Rattle.std.specs.Prelude.{Some, None}
use Rattle.num.proofs.Tests.{and_both, and_false}
use Rattle.num.specs.Bytes.{le_bytes, with_number}
use Rattle.num.proofs.Numbers.{le_length, stored_within}
use Rattle.num.proofs.Storing.{sets_append}
use Rattle.layout.specs.declared.Chain.{Chain}
use Rattle.layout.specs.declared.Wish.{Wish}
use Rattle.layout.specs.Lay.{set_limit}
use Rattle.layout.specs.Value.{units_in}
use Rattle.layout.specs.Plan.{new_of}
use Rattle.layout.specs.Codec.{counted, sets_bytes}
use Rattle.layout.proofs.Take.{front_length}
use Rattle.script.specs.Put.{small_chains, IsPut}

-- ---- whether there is room

module _ (wanted : Bool) (at : ℕ) (vs before : List ℕ) where
  nothing_put : (wanted && leb (at + length vs) (length before)) ≡ false → IsPut wanted at vs before None before
  nothing_put h = record { count_is = sym (rw h); buffer_is = sym (rw h) }

  pub put_unwanted : wanted ≡ false → IsPut wanted at vs before None before
  put_unwanted e = nothing_put (rw e)

  pub put_short : (m : ℕ) → length vs ≡ m → (at + m ≤ length before → ⊥) → IsPut wanted at vs before None before
  put_short m e h = nothing_put (rw (lt-leb (at + length vs) (length before) (omega arith)) (and_false wanted))

  pub put_whole : (m : ℕ) (after : List ℕ) → wanted ≡ true → length vs ≡ m → at + m ≤ length before → after ≡ sets before at vs → IsPut wanted at vs before (Some m) after
  put_whole m after e f h g =
      let fits : leb (at + length vs) (length before) ≡ true = le-leb (at + length vs) (length before) (omega arith) in
      record { count_is = sym (rw (e, fits, f)); buffer_is = g ∙ sym (rw (e, fits)) }

-- a part that is written over
pub mid_sets : (out : List ℕ) (at k : ℕ) (vs now : List ℕ) → now ≡ vs → k ≡ length vs → at + length vs ≤ length out → put_mid at k out now ≡ sets out at vs
mid_sets out at k vs now e len h = rw (e, len, sets-eq vs out at h, drop-drop) (sym (append_assoc (take at out) vs (drop (at + length vs) out)))

-- ---- one behind the other

module _ (xs : List ℕ) (at a b : ℕ) where
  pub pair_put : (vs after : List ℕ) → after ≡ sets (set (set xs at a) (at + 1) b) (at + 2) vs → after ≡ sets xs at (a ∷ b ∷ vs)
  pair_put vs after e = e ∙ rw (add-one at, add-two at)

pub counted_put : (out xs last : List ℕ) (at : ℕ) → last ≡ sets (set out at (length xs)) (at + 1) xs → last ≡ sets out at (counted xs)
counted_put out xs last at e = e ∙ rw (add-one at)

pub seek_bytes : (t c p : ℕ) → with_number 8 2 p (t ∷ c ∷ replicate 8 0) ≡ t ∷ c ∷ le_bytes 8 p
seek_bytes t c p =
    let xs = t ∷ c ∷ replicate 8 0 in
    stored_within 8 2 p xs (omega arith) ∙ sets-eq (le_bytes 8 p) xs 2 (omega (arith, le_length 8 p)) ∙ rw (le_length 8 p) (append-nil (t ∷ c ∷ le_bytes 8 p))

-- ---- the loop that measures new sets

next_set : (cs : List Chain) (i : ℕ) (d : Chain) → i < length cs → drop i cs ≡ get_or cs i d ∷ drop (i + 1) cs
next_set cs i d h = drop-cons cs i d h ∙ rw (add-one i)

-- the bytes of the sets from the ith on: one set, and those behind it
set_bytes : (cs : List Chain) (i : ℕ) (d : Chain) → i < length cs
    → sets_bytes (map units_in (drop i cs)) ≡ counted (units_in (get_or cs i d)) ++ sets_bytes (map units_in (drop (i + 1) cs))
unfolding sets_bytes
set_bytes cs i d h = rw (next_set cs i d h)

set_length : (cs : List Chain) (i : ℕ) (d : Chain) → i < length cs
    → length (sets_bytes (map units_in (drop i cs))) ≡ (1 + length (units_in (get_or cs i d))) + length (sets_bytes (map units_in (drop (i + 1) cs)))
set_length cs i d h =
    let us = units_in (get_or cs i d) in
    omega (arith, ap length (set_bytes cs i d h), length-append (counted us) (sets_bytes (map units_in (drop (i + 1) cs))))

no_bytes : (cs : List Chain) (i : ℕ) → length cs ≤ i → sets_bytes (map units_in (drop i cs)) ≡ []
unfolding sets_bytes
no_bytes cs i h = rw (drop_of_length-le cs {i = i} h)

-- i of the sets were measured, and each is small
pub record Measuring (cs : List Chain) (i size : ℕ) : Type 0 where
  pub far : size ≤ 1 + 5 * i
  pub rest : size + length (sets_bytes (map units_in (drop i cs))) ≡ 1 + length (sets_bytes (map units_in cs))
  pub each : small_chains (drop i cs) ≡ small_chains cs

pub measure_none : (cs : List Chain) → Measuring cs 0 1
measure_none cs = record { far = omega arith; rest = refl; each = refl }

module _ {cs : List Chain} {i size : ℕ} (s : Measuring cs i size) where
  module _ (d : Chain) (h : i < length cs) where
    next : (leb (get_or cs i d).count set_limit && small_chains (drop (i + 1) cs)) ≡ small_chains cs
    unfolding small_chains
    next = rw (next_set cs i d h) at s.each

    pub measure_more : (k : ℕ) → (get_or cs i d).count ≤ 4 → k ≡ length (units_in (get_or cs i d)) → Measuring cs (i + 1) (size + (1 + k))
    measure_more k few ek =
        record {
          far = omega (arith, s.far, length-take (get_or cs i d).count (get_or cs i d).units);
          rest = omega (arith, s.rest, set_length cs i d h);
          each = rw (le-leb (get_or cs i d).count 4 few) at next;
        }

    pub measure_stop : 4 < (get_or cs i d).count → small_chains cs ≡ false
    measure_stop many = sym (rw (lt-leb (get_or cs i d).count 4 many) at next)

  pub measure_all : length cs ≤ i → (size ≡ 1 + length (sets_bytes (map units_in cs))) × (small_chains cs ≡ true)
  unfolding small_chains
  measure_all h =
      let over : drop i cs ≡ [] = drop_of_length-le cs {i = i} h in
      (omega (arith, s.rest, ap length (no_bytes cs i h)), sym (rw over at s.each))

pub small_at : (cs : List Chain) (i : ℕ) (d : Chain) → small_chains cs ≡ true → i < length cs → (get_or cs i d).count ≤ 4
unfolding small_chains
small_at [] i d e h = absurd (omega (arith, h))
small_at (c ∷ cs) zero d e h = leb-true c.count 4 (and_both (leb c.count set_limit) (small_chains cs) e).0
small_at (c ∷ cs) (suc i) d e h = small_at cs i d (and_both (leb c.count set_limit) (small_chains cs) e).1 (omega arith)

-- ---- the loop that puts them

-- i of the sets were put, up to `past`; what is left makes the whole
pub record Laying (cs : List Chain) (whole : List ℕ) (len i : ℕ) (out : List ℕ) (past : ℕ) : Type 0 where
  pub rest : sets out past (sets_bytes (map units_in (drop i cs))) ≡ whole
  pub room : past + length (sets_bytes (map units_in (drop i cs))) ≤ len
  pub same : length out ≡ len

pub lay_none : (cs : List Chain) (out : List ℕ) (past : ℕ) → past + length (sets_bytes (map units_in cs)) ≤ length out
    → Laying cs (sets out past (sets_bytes (map units_in cs))) (length out) 0 out past
lay_none cs out past h = record { rest = refl; room = h; same = refl }

module _ {cs : List Chain} {whole : List ℕ} {len i : ℕ} {out : List ℕ} {past : ℕ} (s : Laying cs whole len i out past) where
  pub lay_fits : (d : Chain) → i < length cs → past + (1 + length (units_in (get_or cs i d))) ≤ length out
  lay_fits d h = omega (arith, s.room, s.same, set_length cs i d h)

  pub lay_more : (d : Chain) (m : ℕ) (out' : List ℕ) → i < length cs → m ≡ 1 + length (units_in (get_or cs i d))
      → out' ≡ sets out past (counted (units_in (get_or cs i d))) → Laying cs whole len (i + 1) out' (past + m)
  lay_more d m out' h em e =
      let us = units_in (get_or cs i d) in
      let next : past + m ≡ past + length (counted us) = omega arith in
      record {
        rest = rw (e, next, ← sets_append out past (counted us) (sets_bytes (map units_in (drop (i + 1) cs)))) (rw (set_bytes cs i d h) at s.rest);
        room = omega (arith, s.room, set_length cs i d h);
        same = ap length e ∙ length-sets out past (counted us) ∙ s.same;
      }

  pub lay_all : length cs ≤ i → out ≡ whole
  lay_all h = rw (no_bytes cs i h) at s.rest

-- behind their count
pub sets_put : (w : Wish) (out last : List ℕ) (at : ℕ) → w.count ≤ 16 → length w.sets ≡ 16 → last ≡ sets (set out at w.count) (at + 1) (sets_bytes (new_of w))
    → last ≡ sets out at (length (new_of w) ∷ sets_bytes (new_of w))
sets_put w out last at few room e =
    let count : length (new_of w) ≡ w.count = front_length units_in w.count w.sets ∙ omega arith in
    e ∙ rw (count, add-one at)
