-- Laws of good memory: a slot's goodness at an offset, and one turn of the loop over the slots.
use Rattle.std.proofs.Common.{◌≡◌, ℕ, zero, suc, ◌+◌, ◌-◌, ◌*◌, ◌/◌, ◌%◌, ◌<◌, ◌≤◌, Bool, true, false, ◌&&◌, ◌||◌, eqb, ltb, leb, List, length, get_or, drop, sym, refl, ap, ◌∙◌, add_assoc, mul-le-mul_right, arith, get_or-drop, drop-drop, ltb-true, eq-eqb, ne_eqb, eqb-true, le-leb, leb-false, leb-true}
use borrow.Author.Tests.{lt-leb}
use lib.Dec.{eqb-suc-zero}
use Rattle.num.specs.Bytes.{le}
use Rattle.unit.specs.Zeros.{zeros}
use Rattle.unit.specs.Kinds.{is_kind, has_bytes}
use Rattle.unit.specs.Shape.{Shape, slot_size, memory_size}
use Rattle.num.specs.Limits.{limit}
use Rattle.num.proofs.Tests.{and_both, and_false}
use Rattle.num.proofs.Numbers.{Bytes, le_two, le_pair}
use Rattle.unit.proofs.Fields.{and_assoc}
use Rattle.unit.proofs.Words.{le_none}
use Rattle.unit.specs.Memory.{good_fields, good_slot, good_slots, good_header, good, floor_of, count_of, number_of, code_of}
use Rattle.unit.proofs.Questions.{kind_least}

-- what good fields say
pub record FieldsGood (cap low p kind len : ℕ) : Type 0 where
  pub rising : low ≤ p
  pub below : p < limit
  pub known : is_kind kind ≡ true
  pub fits : len ≤ cap
  pub plain : (has_bytes kind || eqb len 0) ≡ true

pub fields_good : (cap low p kind len : ℕ) → good_fields cap low p kind len ≡ true → FieldsGood cap low p kind len
fields_good cap low p kind len h =
    let (h4, f) = and_both (leb low p && ltb p limit && is_kind kind && leb len cap) (has_bytes kind || eqb len 0) h in
    let (h3, e) = and_both (leb low p && ltb p limit && is_kind kind) (leb len cap) h4 in
    let (h2, c) = and_both (leb low p && ltb p limit) (is_kind kind) h3 in
    let (a, b) = and_both (leb low p) (ltb p limit) h2 in
    record { rising = leb-true _ _ a; below = ltb-true _ _ b; known = c; fits = leb-true _ _ e; plain = f }

-- a slot at an offset of the memory
pub slot_at : (cap low at : ℕ) (m : List ℕ) → good_slot cap low (drop at m)
    ≡ (good_fields cap low (le 8 (drop at m)) (get_or m (at + 8) 0) (get_or m (at + 9) 0)
    && (zeros 6 (drop (at + 10) m) && zeros (cap - get_or m (at + 9) 0) (drop (at + 16 + get_or m (at + 9) 0) m)))
unfolding good_slot
slot_at cap low at m = simp (get_or-drop, drop-drop, add_assoc)

fields_long : (cap low p kind len : ℕ) → cap < len → good_fields cap low p kind len ≡ false
fields_long cap low p kind len h = rw (lt-leb len cap h, and_false)

-- a slot's second word: its kind, its length and the six bytes behind them
pub tag_parts : (at : ℕ) (m : List ℕ) → at + 16 ≤ length m
    → le 8 (drop (at + 8) m) ≡ get_or m (at + 8) 0 + 256 * (get_or m (at + 9) 0 + 256 * le 6 (drop (at + 10) m))
tag_parts at m h =
    let e9 : at + 8 + 1 ≡ at + 9 = omega arith in
    let e10 : at + 8 + 2 ≡ at + 10 = omega arith in
    let a = rw e10 at (le_two 2 6 (at + 8) m) in
    let b = rw e9 at (le_pair m (at + 8) (omega arith)) in
    omega arith

-- The test of a slot by its words: f is the test of its fields as the second word, tag, has them; z that of its payload behind n bytes, last that behind
-- its length.
words_test : (cap low p tag kind len rest n : ℕ) (f z last : Bool) → cap < 256 → kind < 256 → len < 256 → tag ≡ kind + 256 * (len + 256 * rest)
    → f ≡ good_fields cap low p (tag % 256) (tag / 256) → (1 ≤ tag % 256 → tag / 256 ≤ cap → n ≡ tag / 256) → (n ≡ len → z ≡ last)
    → (f && z) ≡ (good_fields cap low p kind len && (leb rest 0 && last))
words_test cap low p tag kind len rest n f z last c hk hl ht hf hn hz = go (leb rest 0) refl (leb len cap) refl
  where
    others : tag / 256 ≡ len + 256 * rest
    others = omega arith

    fields : f ≡ good_fields cap low p kind (len + 256 * rest)
    fields =
        let k : tag % 256 ≡ kind = omega arith in
        hf ∙ rw (k, others)

    long : cap < len + 256 * rest → f ≡ false
    long h = fields ∙ fields_long cap low p kind (len + 256 * rest) h

    go : (s : Bool) → leb rest 0 ≡ s → (t : Bool) → leb len cap ≡ t → (f && z) ≡ (good_fields cap low p kind len && (leb rest 0 && last))
    go true e true g = pick f refl
      where
        one : len + 256 * rest ≡ len
        one = omega (arith, leb-true rest 0 e)

        same : f ≡ good_fields cap low p kind len
        same = fields ∙ rw one

        pick : (b : Bool) → f ≡ b → (f && z) ≡ (good_fields cap low p kind len && (leb rest 0 && last))
        pick true q =
            let y = fields_good cap low p kind len (sym same ∙ q) in
            let least = kind_least kind y.known in
            let k : n ≡ len = hn (omega arith) (omega (arith, others, one, y.fits)) ∙ others ∙ one in
            sym (rw (e, hz k, fields, one))
        pick false q =
            let y : good_fields cap low p kind len ≡ false = sym same ∙ q in
            sym (rw (y, q))
    go true e false g =
        let g0 = leb-false len cap g in
        sym (rw (fields_long cap low p kind len g0, long (omega arith)))
    go false e t g =
        let e0 = leb-false rest 0 e in
        sym (rw (e, and_false, long (omega arith)))

pub slot_words : (cap low at : ℕ) (m : List ℕ) → Bytes m → at + 16 ≤ length m → cap < 256 → (p tag n : ℕ) (f z : Bool)
    → p ≡ le 8 (drop at m) → tag ≡ le 8 (drop (at + 8) m) → f ≡ good_fields cap low p (tag % 256) (tag / 256)
    → (1 ≤ tag % 256 → tag / 256 ≤ cap → n ≡ tag / 256) → z ≡ zeros (cap - n) (drop (at + 16 + n) m) → (f && z) ≡ good_slot cap low (drop at m)
slot_words cap low at m by r c p tag n f z hp ht hf hn hz =
    words_test cap low p tag (get_or m (at + 8) 0) (get_or m (at + 9) 0) (le 6 (drop (at + 10) m)) n f z
    (zeros (cap - get_or m (at + 9) 0) (drop (at + 16 + get_or m (at + 9) 0) m)) c (by (at + 8)).fits (by (at + 9)).fits (ht ∙ tag_parts at m r) hf hn
    (λ e. hz ∙ ap (λ (k : ℕ). zeros (cap - k) (drop (at + 16 + k) m)) e)
    ∙ sym (slot_at cap low at m ∙ rw (hp, le_none 6 (drop (at + 10) m)))

-- what a good slot says
pub slot_fields : (cap low : ℕ) (xs : List ℕ) → good_slot cap low xs ≡ true → FieldsGood cap low (le 8 xs) (get_or xs 8 0) (get_or xs 9 0)
unfolding good_slot
slot_fields cap low xs h = fields_good cap low (le 8 xs) (get_or xs 8 0) (get_or xs 9 0) (and_both _ _ h).0

-- a header's last word: the count and the six bytes behind it
pub header_words : (sh : Shape) (m : List ℕ) (number code blank floor last : ℕ) → number ≡ number_of m → code ≡ code_of m → blank ≡ le 2 (drop 2 m)
    → floor ≡ floor_of m → last ≡ le 8 (drop 16 m) → sh.room < 65536
    → (leb 1 number && leb number 8 && eqb code sh.code && eqb blank 0 && leb floor limit && leb last sh.room) ≡ good_header sh m
unfolding good_header
header_words sh m number code blank floor last en ec eb ef el h =
    rw (en, ec, eb, ef, el, none (le 2 (drop 2 m)), le_none 2 (drop 2 m), le_two 2 6 16 m, both sh.room (count_of m) (le 6 (drop 18 m)) h, le_none 6 (drop 18 m))
    (sym (and_assoc (leb 1 (number_of m) && leb (number_of m) 8 && eqb (code_of m) sh.code && zeros 2 (drop 2 m) && leb (floor_of m) limit) (leb (count_of m) sh.room) (zeros 6 (drop 18 m))))
  where
    none : (n : ℕ) → eqb n 0 ≡ leb n 0
    none zero = refl
    none (suc n) = rw (eqb-suc-zero n) (sym (lt-leb (suc n) 0 (omega arith)))

    both : (room a r : ℕ) → room < 65536 → leb (a + 65536 * r) room ≡ (leb a room && leb r 0)
    both room a r h = go (leb a room) refl (leb r 0) refl
      where
        go : (s : Bool) → leb a room ≡ s → (t : Bool) → leb r 0 ≡ t → leb (a + 65536 * r) room ≡ (s && t)
        go true e true f = le-leb (a + 65536 * r) room (omega (arith, leb-true a room e, leb-true r 0 f))
        go true e false f = lt-leb (a + 65536 * r) room (omega (arith, leb-false r 0 f))
        go false e t f = lt-leb (a + 65536 * r) room (omega (arith, leb-false a room e))

-- what a good header says
pub record HeaderGood (sh : Shape) (m : List ℕ) : Type 0 where
  pub least : 1 ≤ number_of m
  pub most : number_of m ≤ 8
  pub named : code_of m ≡ sh.code
  pub blank : zeros 2 (drop 2 m) ≡ true
  pub floor : floor_of m ≤ limit
  pub count : count_of m ≤ sh.room
  pub spare : zeros 6 (drop 18 m) ≡ true

pub header_good : (sh : Shape) (m : List ℕ) → good_header sh m ≡ true → HeaderGood sh m
unfolding good_header
header_good sh m h =
    let (h6, e) = and_both (leb 1 (number_of m) && leb (number_of m) 8 && eqb (code_of m) sh.code && zeros 2 (drop 2 m) && leb (floor_of m) limit && leb (count_of m) sh.room) (zeros 6 (drop 18 m)) h in
    let (h5, d) = and_both (leb 1 (number_of m) && leb (number_of m) 8 && eqb (code_of m) sh.code && zeros 2 (drop 2 m) && leb (floor_of m) limit) (leb (count_of m) sh.room) h6 in
    let (h4, c) = and_both (leb 1 (number_of m) && leb (number_of m) 8 && eqb (code_of m) sh.code && zeros 2 (drop 2 m)) (leb (floor_of m) limit) h5 in
    let (h3, z) = and_both (leb 1 (number_of m) && leb (number_of m) 8 && eqb (code_of m) sh.code) (zeros 2 (drop 2 m)) h4 in
    let (h2, n) = and_both (leb 1 (number_of m) && leb (number_of m) 8) (eqb (code_of m) sh.code) h3 in
    let (a, b) = and_both (leb 1 (number_of m)) (leb (number_of m) 8) h2 in
    record { least = leb-true _ _ a; most = leb-true _ _ b; named = eqb-true _ _ n; blank = z; floor = leb-true _ _ c; count = leb-true _ _ d; spare = e }

-- the three answers of the test of a memory
module _ (sh : Shape) (m : List ℕ) where
  pub good_length : (length m ≡ memory_size sh → ⊥) → false ≡ good sh m
  unfolding good
  good_length h = sym (rw (ne_eqb _ _ h))

  pub good_header_lem : (h : Bool) → length m ≡ memory_size sh → h ≡ good_header sh m → h ≡ false → false ≡ good sh m
  unfolding good
  good_header_lem h l e f = sym (rw (eq-eqb _ _ l, ← e, f))

  pub good_slots_lem : (h s : Bool) (n low : ℕ) → length m ≡ memory_size sh → h ≡ good_header sh m → h ≡ true → n ≡ count_of m → low ≡ floor_of m
      → s ≡ good_slots sh.cap n low (drop 24 m) → s ≡ good sh m
  unfolding good
  good_slots_lem h s n low l e t hn hl hs = sym (rw (eq-eqb _ _ l, ← e, t, ← hn, ← hl, ← hs))

-- what good memory says
pub record Good (sh : Shape) (m : List ℕ) : Type 0 where
  pub size : length m ≡ memory_size sh
  pub header : HeaderGood sh m
  pub slots : good_slots sh.cap (count_of m) (floor_of m) (drop 24 m) ≡ true

pub is_good_lem : (sh : Shape) (m : List ℕ) → good sh m ≡ true → Good sh m
unfolding good
is_good_lem sh m h =
    let (a, r) = and_both (eqb (length m) (memory_size sh)) (good_header sh m && good_slots sh.cap (count_of m) (floor_of m) (drop 24 m)) h in
    let (b, c) = and_both (good_header sh m) (good_slots sh.cap (count_of m) (floor_of m) (drop 24 m)) r in
    record { size = eqb-true _ _ a; header = header_good sh m b; slots = c }

-- Offsets of slots are products of two values, which `omega` takes as one: how far k slots reach, and that one more lies within.
module _ (sh : Shape) (m : List ℕ) (size : length m ≡ memory_size sh) (k : ℕ) where
  pub slots_within : k ≤ sh.room → 24 + k * slot_size sh.cap ≤ length m
  slots_within h = omega (arith, size, mul-le-mul_right {m = k} {n = sh.room} (slot_size sh.cap) h)

  pub slot_within : k < sh.room → 24 + k * slot_size sh.cap + slot_size sh.cap ≤ length m
  slot_within h = omega (arith, size, mul-le-mul_right {m = suc k} {n = sh.room} (slot_size sh.cap) h)

-- the last of the first n slots
pub last_within : (sh : Shape) (m : List ℕ) (n : ℕ) → good sh m ≡ true → n ≤ count_of m → (n ≡ 0 → ⊥) → 24 + (n - 1) * slot_size sh.cap + slot_size sh.cap ≤ length m
last_within sh m n h u z =
    let g = is_good_lem sh m h in
    slot_within sh m g.size (n - 1) (omega (arith, g.header.count))
