-- Laws of zeros that are tested many at a time: as words, and as runs whose bytes are joined by `|`.
use Rattle.std.proofs.Common.{◌≡◌, ℕ, zero, suc, ◌+◌, ◌-◌, ◌*◌, ◌/◌, ◌%◌, ◌<◌, ◌≤◌, Bool, true, false, ◌&&◌, eqb, leb, List, [], ◌∷◌, ◌++◌, length, get_or, take, drop, replicate, sym, refl, ap, ◌∙◌, le_of_suc-le-suc, not-suc-le-zero, suc-add, zero-add, add-one, arith, length-drop, get_or-drop, get_or-take, drop-drop, eq-eqb, ne_eqb, eqb-true, le-leb, leb-false, leb-true}
use native.Mathlib.Nat.{sub-zero, suc-sub-suc, zero-sub}
use borrow.Author.Tests.{lt-leb, eqb-false}
use lib.Bits.{bit_or, bit_and, or_add_and, and_le_r, or_zero_l, and_zero_r, and_block, and_mask}
use lib.Dec.{eqb-suc-zero}
use lib.Seq.{drop-nil}
use Rattle.std.specs.Int.{w16, w32, w64, from_le_bytes, to_le_bytes}
use Rattle.num.specs.Bytes.{le, le_bytes}
use Rattle.num.proofs.Tests.{and_both}
use Rattle.num.proofs.Numbers.{Bytes, bytes_drop, le_step}
use Rattle.unit.specs.Zeros.{zeros, ruler}
use Rattle.unit.proofs.Fields.{and_assoc, zeros_snoc}

pub zeros_empty : (n : ℕ) → zeros n [] ≡ true
unfolding zeros
zeros_empty zero = refl
zeros_empty (suc n) = refl

-- ---- words

leb_none : (x a : ℕ) → leb (x + 256 * a) 0 ≡ (eqb x 0 && leb a 0)
leb_none zero a = go (leb a 0) refl
  where
    go : (t : Bool) → leb a 0 ≡ t → leb (0 + 256 * a) 0 ≡ t
    go true e = le-leb (0 + 256 * a) 0 (omega (arith, leb-true a 0 e))
    go false e = lt-leb (0 + 256 * a) 0 (omega (arith, leb-false a 0 e))
leb_none (suc x) a = lt-leb (suc x + 256 * a) 0 (omega arith) ∙ sym (rw (eqb-suc-zero x))

pub le_none : (w : ℕ) (xs : List ℕ) → leb (le w xs) 0 ≡ zeros w xs
unfolding le zeros
le_none zero xs = refl
le_none (suc w) [] = refl
le_none (suc w) (x ∷ xs) = leb_none x (le w xs) ∙ ap (λ (t : Bool). eqb x 0 && t) (le_none w xs)

-- the number of w bytes of which the first k are 0 and the others 255
unfoldable pub past : ℕ → ℕ → ℕ
past zero zero = 0
past (suc k) zero = 0
past zero (suc w) = 255 + 256 * past zero w
past (suc k) (suc w) = 0 + 256 * past k w

and_byte : (x a s b : ℕ) → x < 256 → s < 256 → bit_and (x + 256 * a) (s + 256 * b) ≡ bit_and x s + 256 * bit_and a b
and_byte x a s b h l =
    let turn : (y c : ℕ) → y + 256 * c ≡ c * 256 + y = λ y c. omega arith in
    rw (turn x a, turn s b, turn (bit_and x s) (bit_and a b)) (and_block 8 a b x s h l)

and_full : (x : ℕ) → x < 256 → bit_and x 255 ≡ x
and_full x h =
    let e : x % 256 ≡ x = omega arith in
    and_mask x 8 ∙ e

eqb_pair : (x a : ℕ) → eqb (x + 256 * a) 0 ≡ (eqb x 0 && eqb a 0)
eqb_pair zero a = go (eqb a 0) refl
  where
    go : (t : Bool) → eqb a 0 ≡ t → eqb (0 + 256 * a) 0 ≡ t
    go true e = eq-eqb (0 + 256 * a) 0 (omega (arith, eqb-true a 0 e))
    go false e = ne_eqb (0 + 256 * a) 0 (λ z. eqb-false a 0 e (omega arith))
eqb_pair (suc x) a = ne_eqb (suc x + 256 * a) 0 (omega arith) ∙ sym (rw (eqb-suc-zero x))

-- of a word nothing stands under that number's full bytes just where its bytes behind the first k are zero
pub and_past : (k w : ℕ) (xs : List ℕ) → Bytes xs → eqb (bit_and (le w xs) (past k w)) 0 ≡ zeros (w - k) (drop k xs)
unfolding le zeros past
and_past zero zero xs b = refl
and_past (suc k) zero xs b = rw zero-sub
and_past zero (suc w) [] b = rw sub-zero (sym (zeros_empty (suc w)))
and_past zero (suc w) (x ∷ xs) b =
    rw (and_byte x (le w xs) 255 (past zero w) (b 0).fits (omega arith), eqb_pair (bit_and x 255) (bit_and (le w xs) (past zero w)), and_full x (b 0).fits, sub-zero)
    (ap (λ (t : Bool). eqb x 0 && t) (and_past zero w xs (λ i. b (suc i)) ∙ rw sub-zero))
and_past (suc k) (suc w) [] b = sym (zeros_empty (suc w - suc k))
and_past (suc k) (suc w) (x ∷ xs) b =
    rw (and_byte x (le w xs) 0 (past k w) (b 0).fits (omega arith), and_zero_r x, eqb_pair 0 (bit_and (le w xs) (past k w)), suc-sub-suc)
    (and_past k w xs (λ i. b (suc i)))

-- what a test says at each number below n
all : (ℕ → Bool) → ℕ → Bool
all f zero = true
all f (suc n) = f n && all f n

all_at : (f : ℕ → Bool) (n k : ℕ) → all f n ≡ true → k < n → f k ≡ true
unfolding all
all_at f zero k h l = absurd (not-suc-le-zero l)
all_at f (suc n) k h l = go (eqb k n) refl (λ below. all_at f n k (and_both (f n) (all f n) h).1 below)
  where
    go : (t : Bool) → eqb k n ≡ t → (k < n → f k ≡ true) → f k ≡ true
    go true e ih = ap f (eqb-true k n e) ∙ (and_both (f n) (all f n) h).0
    go false e ih = ih (below (eqb-false k n e))
      where
        below : (k ≡ n → ⊥) → k < n
        below d = omega arith

-- a word of the ruler
ruled : ℕ → Bool
ruled j = eqb (le 8 (drop j ruler)) (past (128 - j) 8)

ruler_ruled : all ruled 201 ≡ true
unfolding all ruled le ruler past
ruler_ruled = refl

ruler_word : (j : ℕ) → j < 201 → le 8 (drop j ruler) ≡ past (128 - j) 8
unfolding ruled
ruler_word j h = eqb-true _ _ (all_at ruled 201 j ruler_ruled h)

pub ruler_length : length ruler ≡ 208
unfolding ruler
ruler_length = refl

pub ruler_made : replicate 128 0 ++ drop 128 (replicate 208 255) ≡ ruler
unfolding ruler
ruler_made = refl

-- a word of the memory under the ruler's
word_past : (k j at : ℕ) (m full : List ℕ) → Bytes m → full ≡ ruler → j < 201 → k ≡ 128 - j → (w : ℕ)
    → w ≡ bit_and (le 8 (drop at m)) (le 8 (drop j full)) → eqb w 0 ≡ zeros (8 - k) (drop k (drop at m))
word_past k j at m full by e h ek w ew =
    rw (ek, ew, e, ruler_word j h) (and_past (128 - j) 8 (drop at m) (bytes_drop at m by))

-- ---- runs one behind the other

pub zeros_append : (n k : ℕ) (xs : List ℕ) → zeros (n + k) xs ≡ (zeros n xs && zeros k (drop n xs))
unfolding zeros
zeros_append zero k xs = rw zero-add
zeros_append (suc n) k [] = rw (suc-add, zeros_empty k)
zeros_append (suc n) k (x ∷ xs) = rw suc-add (ap (λ (t : Bool). eqb x 0 && t) (zeros_append n k xs) ∙ sym (and_assoc (eqb x 0) (zeros n xs) (zeros k (drop n xs))))

pub zeros_run : (n k at : ℕ) (m : List ℕ) → zeros (n + k) (drop at m) ≡ (zeros n (drop at m) && zeros k (drop (at + n) m))
zeros_run n k at m = zeros_append n k (drop at m) ∙ rw (drop-drop n at m)

pub zeros_both : (n k count at : ℕ) (m : List ℕ) (a b : Bool) → a ≡ zeros n (drop at m) → b ≡ zeros k (drop (at + n) m) → count ≡ n + k
    → (a && b) ≡ zeros count (drop at m)
zeros_both n k count at m a b ea eb e = sym (rw e (zeros_run n k at m ∙ rw (← ea, ← eb)))

-- the same, of the bytes behind the first n
zeros_past : (a b n : ℕ) (xs : List ℕ) → zeros (a + b - n) (drop n xs) ≡ (zeros (a - n) (drop n xs) && zeros (b - (n - a)) (drop (n - a) (drop a xs)))
unfolding zeros
zeros_past zero b n xs = rw (zero-add, zero-sub, sub-zero)
zeros_past (suc a) b zero xs = rw (sub-zero, sub-zero, zero-sub, sub-zero) (zeros_append (suc a) b xs)
zeros_past (suc a) b (suc n) [] = rw (zeros_empty (suc a + b - suc n), zeros_empty (suc a - suc n), drop-nil (suc n - suc a)) (sym (zeros_empty (b - (suc n - suc a))))
zeros_past (suc a) b (suc n) (x ∷ xs) = rw (suc-add, suc-sub-suc, suc-sub-suc, suc-sub-suc) (zeros_past a b n xs)

-- of two numbers joined by `|` none has anything just where the joined one has nothing
pub or_none : (a b : ℕ) → eqb (bit_or a b) 0 ≡ (eqb a 0 && eqb b 0)
or_none zero b = rw (or_zero_l b)
or_none (suc a) b = ne_eqb (bit_or (suc a) b) 0 (λ z. more z (or_add_and (suc a) b) (and_le_r (suc a) b)) ∙ sym (rw (eqb-suc-zero a))
  where
    more : bit_or (suc a) b ≡ 0 → bit_or (suc a) b + bit_and (suc a) b ≡ suc a + b → bit_and (suc a) b ≤ b → ⊥
    more z e l = omega arith

-- ---- the words of a payload of which all but the first n bytes are to be zero: `so` is that of its first i bytes
pub rest_none : (n at : ℕ) (m : List ℕ) → true ≡ zeros (0 - n) (drop (at + n) m)
unfolding zeros
rest_none n at m = rw zero-sub

module _ (n at : ℕ) (m full : List ℕ) (by : Bytes m) (e : full ≡ ruler) where
  -- one word more
  pub rest_next : (i o j : ℕ) (so : Bool) → so ≡ zeros (i - n) (drop (at + n) m) → j < 201 → o ≡ at + i → n - i ≡ 128 - j → (w : ℕ)
      → w ≡ bit_and (le 8 (drop o m)) (le 8 (drop j full)) → (so && eqb w 0) ≡ zeros (i + 8 - n) (drop (at + n) m)
  rest_next i o j so h l eo ej w ew =
      let r = drop at m in
      let x : eqb w 0 ≡ zeros (8 - (n - i)) (drop (n - i) (drop i r))
      = word_past (n - i) j o m full by e l ej w ew ∙ rw (eo, ← drop-drop i at m) in
      let q : so ≡ zeros (i - n) (drop n r) = rw (← drop-drop n at m) at h in
      sym (rw (← drop-drop n at m) (zeros_past i 8 n r ∙ rw (← q, ← x)))

  -- k: where the ruler's n empty bytes begin
  rest_four : (k : ℕ) → n ≡ 128 - k → k + 32 ≤ 208 → (a b c d : ℕ)
      → a ≡ bit_and (le 8 (drop at m)) (le 8 (drop k full)) → b ≡ bit_and (le 8 (drop (at + 8) m)) (le 8 (drop (k + 8) full))
      → c ≡ bit_and (le 8 (drop (at + 16) m)) (le 8 (drop (k + 16) full)) → d ≡ bit_and (le 8 (drop (at + 24) m)) (le 8 (drop (k + 24) full))
      → (eqb a 0 && eqb b 0 && eqb c 0 && eqb d 0) ≡ zeros (32 - n) (drop (at + n) m)
  rest_four k en l a b c d ea eb ec ed =
      rest_next 24 (at + 24) (k + 24) _
      (rest_next 16 (at + 16) (k + 16) _
      (rest_next 8 (at + 8) (k + 8) _
      (rest_next 0 at k true (rest_none n at m) (omega arith) (omega arith) (omega arith) a ea)
      (omega arith) (omega arith) (omega arith) b eb)
      (omega arith) (omega arith) (omega arith) c ec)
      (omega arith) (omega arith) (omega arith) d ed

  -- six words, joined
  pub rest_six : (k : ℕ) → n ≡ 128 - k → k + 48 ≤ 208 → (a b c d f g : ℕ)
      → a ≡ bit_and (le 8 (drop at m)) (le 8 (drop k full)) → b ≡ bit_and (le 8 (drop (at + 8) m)) (le 8 (drop (k + 8) full))
      → c ≡ bit_and (le 8 (drop (at + 16) m)) (le 8 (drop (k + 16) full)) → d ≡ bit_and (le 8 (drop (at + 24) m)) (le 8 (drop (k + 24) full))
      → f ≡ bit_and (le 8 (drop (at + 32) m)) (le 8 (drop (k + 32) full)) → g ≡ bit_and (le 8 (drop (at + 40) m)) (le 8 (drop (k + 40) full))
      → eqb (bit_or (bit_or (bit_or (bit_or (bit_or a b) c) d) f) g) 0 ≡ zeros (48 - n) (drop (at + n) m)
  rest_six k en l a b c d f g ea eb ec ed ef eg =
      let four = rest_four k en (omega arith) a b c d ea eb ec ed in
      let five = rest_next 32 (at + 32) (k + 32) _ four (omega arith) (omega arith) (omega arith) f ef in
      let six = rest_next 40 (at + 40) (k + 40) _ five (omega arith) (omega arith) (omega arith) g eg in
      simp or_none six

  -- four words, and what is joined of the others
  pub rest_words : (cap : ℕ) → n ≤ 128 → 32 ≤ cap → (a b c d v : ℕ)
      → a ≡ bit_and (le 8 (drop at m)) (le 8 (drop (128 - n) full)) → b ≡ bit_and (le 8 (drop (at + 8) m)) (le 8 (drop (128 - n + 8) full))
      → c ≡ bit_and (le 8 (drop (at + 16) m)) (le 8 (drop (128 - n + 16) full)) → d ≡ bit_and (le 8 (drop (at + 24) m)) (le 8 (drop (128 - n + 24) full))
      → eqb v 0 ≡ zeros (cap - 32 - (128 - (128 - n + 32))) (drop (at + 32 + (128 - (128 - n + 32))) m)
      → (eqb a 0 && eqb b 0 && eqb c 0 && eqb d 0 && eqb v 0) ≡ zeros (cap - n) (drop (at + n) m)
  rest_words cap l h a b c d v ea eb ec ed ev =
      let r = drop at m in
      let k : 128 - (128 - n + 32) ≡ n - 32 = omega arith in
      let g : 32 + (cap - 32) ≡ cap = omega arith in
      let four : (eqb a 0 && eqb b 0 && eqb c 0 && eqb d 0) ≡ zeros (32 - n) (drop n r)
      = rw (← drop-drop n at m) at (rest_four (128 - n) (omega arith) (omega arith) a b c d ea eb ec ed) in
      let rest : eqb v 0 ≡ zeros (cap - 32 - (n - 32)) (drop (n - 32) (drop 32 r)) = ev ∙ rw (k, ← drop-drop (n - 32) (at + 32) m, ← drop-drop 32 at m) in
      let all : zeros (32 + (cap - 32) - n) (drop n r) ≡ (eqb a 0 && eqb b 0 && eqb c 0 && eqb d 0 && eqb v 0)
      = zeros_past 32 (cap - 32) n r ∙ rw (← four, ← rest) in
      sym (rw (← drop-drop n at m) (ap (λ (q : ℕ). zeros (q - n) (drop n r)) (sym g) ∙ all))

-- ---- numbers as the library reads them

pub word_read : (at k : ℕ) (xs ys : List ℕ) → ys ≡ take k (drop at xs) → k ≡ 8 → at + 8 ≤ length xs → from_le_bytes w64 ys ≡ le 8 (drop at xs)
unfolding le
word_read at k xs ys e q h =
    let r = drop at xs in
    let l : 8 ≤ length r = rw length-drop (omega arith) in
    let s : (i : ℕ) → i < 8 → get_or ys i 0 ≡ get_or r i 0 = λ i n. rw (e, q) (get_or-take 8 r i 0 n) in
    let t : (i w : ℕ) → i < 8 → le (suc w) (drop i r) ≡ get_or r i 0 + 256 * le w (drop (suc i) r) = λ i w n. le_step r i w (omega arith) in
    let all : from_le_bytes w64 ys ≡ get_or ys 0 0 + get_or ys 1 0 * 256 + get_or ys 2 0 * 65536 + get_or ys 3 0 * 16777216 + get_or ys 4 0 * 4294967296
    + get_or ys 5 0 * 1099511627776 + get_or ys 6 0 * 281474976710656 + get_or ys 7 0 * 72057594037927936
    = refl in
    all ∙ omega (
      arith,
      s 0 (omega arith),
      s 1 (omega arith),
      s 2 (omega arith),
      s 3 (omega arith),
      s 4 (omega arith),
      s 5 (omega arith),
      s 6 (omega arith),
      s 7 (omega arith),
      t 0 7 (omega arith),
      t 1 6 (omega arith),
      t 2 5 (omega arith),
      t 3 4 (omega arith),
      t 4 3 (omega arith),
      t 5 2 (omega arith),
      t 6 1 (omega arith),
      t 7 0 (omega arith),
    )

pub pair_read : (at k : ℕ) (xs ys : List ℕ) → ys ≡ take k (drop at xs) → k ≡ 2 → at + 2 ≤ length xs → from_le_bytes w16 ys ≡ le 2 (drop at xs)
unfolding le
pair_read at k xs ys e q h =
    let r = drop at xs in
    let l : 2 ≤ length r = rw length-drop (omega arith) in
    let s : (i : ℕ) → i < 2 → get_or ys i 0 ≡ get_or r i 0 = λ i n. rw (e, q) (get_or-take 2 r i 0 n) in
    let t : (i w : ℕ) → i < 2 → le (suc w) (drop i r) ≡ get_or r i 0 + 256 * le w (drop (suc i) r) = λ i w n. le_step r i w (omega arith) in
    let all : from_le_bytes w16 ys ≡ get_or ys 0 0 + get_or ys 1 0 * 256 = refl in
    all ∙ omega (arith, s 0 (omega arith), s 1 (omega arith), t 0 1 (omega arith), t 1 0 (omega arith))

pub half_read : (at k : ℕ) (xs ys : List ℕ) → ys ≡ take k (drop at xs) → k ≡ 4 → at + 4 ≤ length xs → from_le_bytes w32 ys ≡ le 4 (drop at xs)
unfolding le
half_read at k xs ys e q h =
    let r = drop at xs in
    let l : 4 ≤ length r = rw length-drop (omega arith) in
    let s : (i : ℕ) → i < 4 → get_or ys i 0 ≡ get_or r i 0 = λ i n. rw (e, q) (get_or-take 4 r i 0 n) in
    let t : (i w : ℕ) → i < 4 → le (suc w) (drop i r) ≡ get_or r i 0 + 256 * le w (drop (suc i) r) = λ i w n. le_step r i w (omega arith) in
    let all : from_le_bytes w32 ys ≡ get_or ys 0 0 + get_or ys 1 0 * 256 + get_or ys 2 0 * 65536 + get_or ys 3 0 * 16777216 = refl in
    all ∙ omega (
      arith,
      s 0 (omega arith),
      s 1 (omega arith),
      s 2 (omega arith),
      s 3 (omega arith),
      t 0 3 (omega arith),
      t 1 2 (omega arith),
      t 2 1 (omega arith),
      t 3 0 (omega arith),
    )

-- and as it writes them
le_take : (k w n : ℕ) → k ≤ w → take k (le_bytes w n) ≡ le_bytes k n
unfolding le_bytes
le_take zero w n h = refl
le_take (suc k) zero n h = absurd (not-suc-le-zero h)
le_take (suc k) (suc w) n h = ap (λ (bs : List ℕ). n % 256 ∷ bs) (le_take k w (n / 256) (le_of_suc-le-suc h))

le_all : (n : ℕ) → to_le_bytes w64 n ≡ le_bytes 8 n
unfolding le_bytes
le_all n =
    let b : n / 256 / 256 ≡ n / 65536 = omega arith in
    let c : n / 65536 / 256 ≡ n / 16777216 = omega arith in
    let d : n / 16777216 / 256 ≡ n / 4294967296 = omega arith in
    let e : n / 4294967296 / 256 ≡ n / 1099511627776 = omega arith in
    let f : n / 1099511627776 / 256 ≡ n / 281474976710656 = omega arith in
    let g : n / 281474976710656 / 256 ≡ n / 72057594037927936 = omega arith in
    rw (b, c, d, e, f, g) refl

pub low_bytes : (k n : ℕ) → k ≤ 8 → take k (to_le_bytes w64 n) ≡ le_bytes k n
low_bytes k n h = ap (λ (bs : List ℕ). take k bs) (le_all n) ∙ le_take k 8 n h

-- ---- bytes joined by `|`

-- The loop that joins the bytes from offset `at` on: the first i of them are in `seen`.
pub record Joined (mem : List ℕ) (at i seen : ℕ) : Type 0 where
  pub so : eqb seen 0 ≡ zeros i (drop at mem)

pub joined_none : (mem : List ℕ) (at : ℕ) → Joined mem at 0 0
unfolding zeros
joined_none mem at = record { so = refl }

pub joined_more : {mem : List ℕ} {at i seen : ℕ} → Joined mem at i seen → at + i < length mem → Joined mem at (i + 1) (bit_or seen (get_or mem (at + i) 0))
joined_more {mem} {at} {i} {seen} t h =
    let l : i < length (drop at mem) = rw length-drop (omega arith) in
    record { so = or_none seen (get_or mem (at + i) 0) ∙ rw (add-one, zeros_snoc i (drop at mem) l, get_or-drop at mem i 0, t.so) }

-- four such loops in one, over runs of `part` bytes one behind the other
pub record Four (mem : List ℕ) (at part i a b c d : ℕ) : Type 0 where
  pub bound : i ≤ part
  pub ja : Joined mem at i a
  pub jb : Joined mem (at + part) i b
  pub jc : Joined mem (at + part + part) i c
  pub jd : Joined mem (at + part + part + part) i d

pub four_none : (mem : List ℕ) (at part : ℕ) → Four mem at part 0 0 0 0 0
four_none mem at part =
    let j = joined_none mem in
    record { bound = omega arith; ja = j _; jb = j _; jc = j _; jd = j _ }

four_runs : (at p : ℕ) (m : List ℕ) (a b c d : Bool) → a ≡ zeros p (drop at m) → b ≡ zeros p (drop (at + p) m) → c ≡ zeros p (drop (at + p + p) m)
    → d ≡ zeros p (drop (at + p + p + p) m) → (a && b && c && d) ≡ zeros (4 * p) (drop at m)
four_runs at p m a b c d ea eb ec ed =
    let n : 4 * p ≡ p + (p + (p + p)) = omega arith in
    let q2 = zeros_run p p (at + p + p) m in
    let q1 = zeros_run p (p + p) (at + p) m in
    let q0 = zeros_run p (p + (p + p)) at m in
    and_assoc (a && b) c d ∙ and_assoc a b (c && d) ∙ sym (rw (n, q0, q1, q2, ← ea, ← eb, ← ec, ← ed))

module _ {mem : List ℕ} {at part i a b c d : ℕ} (s : Four mem at part i a b c d) where
  pub four_more : i < part → at + 4 * part ≤ length mem
      → Four mem at part (i + 1) (bit_or a (get_or mem (at + i) 0)) (bit_or b (get_or mem (at + part + i) 0)) (bit_or c (get_or mem (at + part + part + i) 0))
      (bit_or d (get_or mem (at + part + part + part + i) 0))
  four_more h l =
      record {
        bound = omega arith;
        ja = joined_more s.ja (omega arith);
        jb = joined_more s.jb (omega arith);
        jc = joined_more s.jc (omega arith);
        jd = joined_more s.jd (omega arith);
      }

  pub four_all : part ≤ i → (eqb a 0 && eqb b 0 && eqb c 0 && eqb d 0) ≡ zeros (4 * part) (drop at mem)
  four_all h =
      let k = s.bound in
      let n : i ≡ part = omega arith in
      let to : (o x : ℕ) → Joined mem o i x → eqb x 0 ≡ zeros part (drop o mem) = λ o x j. j.so ∙ ap (λ (t : ℕ). zeros t (drop o mem)) n in
      four_runs at part mem _ _ _ _ (to _ _ s.ja) (to _ _ s.jb) (to _ _ s.jc) (to _ _ s.jd)
