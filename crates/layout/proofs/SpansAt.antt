-- Laws of `spans_bytes` and `spans_at`: ranges that are written are read back, and the loop that reads them.
use Prim.Native.Nat.{ℕ, zero, suc, ◌+◌, ◌-◌, ◌<◌, ◌≤◌}
use mathlib.Core.Bool.{true, ◌&&◌}
use mathlib.Core.List.{List, [], ◌∷◌, ◌++◌, map, append_assoc}
use mathlib.Core.Path.{◌≡◌, refl, ap, ◌∙◌}
use native.Mathlib.Nat.{sub-zero}
use native.Mathlib.Numerals.{add-one}
use native.Mathlib.Omega.{arith}
use borrow.Author.Tests.{ltb-true}
use lib.Dec.{ltb, leb}
use lib.ListN.{length, get_or, drop, set, replicate, length-append, length-set}
use lib.Seq.{sets, get_or_at, drop_at}
use Rattle.num.specs.Limits.{limit}
use Rattle.num.specs.Bytes.{number_at, le_bytes}
use Rattle.num.proofs.Tests.{left_step, and_both}
use Rattle.num.proofs.Numbers.{le_length, number_back}
use Rattle.layout.specs.declared.Range.{Range}
use Rattle.layout.specs.Lay.{Span, good_spans}
use Rattle.layout.specs.Value.{range_of, padded, no_range}
use Rattle.layout.specs.Codec.{span_front, spans_at, span_bytes, spans_bytes}
use Rattle.layout.proofs.Padded.{sets_padded}

-- ---- the loop over the ranges

-- i ranges of n were read; what is left to store makes the whole
pub record SpansReading (b : List ℕ) (n i : ℕ) (rs : List Range) (rest : List ℕ) : Type 0 where
  pub stored : sets rs i (map range_of (spans_at (n - i) rest)) ≡ padded 8 no_range (map range_of (spans_at n b))
  pub long : length rs ≡ 8

pub spans_none : (b : List ℕ) (n : ℕ) → SpansReading b n 0 (replicate 8 no_range) b
spans_none b n = record { stored = rw sub-zero (sets_padded 8 no_range (map range_of (spans_at n b))); long = refl }

module _ {b : List ℕ} {n i : ℕ} {rs : List Range} {rest : List ℕ} (s : SpansReading b n i rs rest) where
  pub spans_more : (rs' : List Range) (rest' : List ℕ) → i < n → rs' ≡ set rs i (range_of (span_front rest)) → rest' ≡ drop 9 rest → SpansReading b n (i + 1) rs' rest'
  unfolding spans_at
  spans_more rs' rest' h ers er =
      let left : n - i ≡ suc (n - suc i) = left_step n i h in
      record { stored = rw (ers, er, add-one i) (rw left at s.stored); long = rw ers (length-set rs i (range_of (span_front rest)) ∙ s.long) }

  pub spans_all : n ≤ i → rs ≡ padded 8 no_range (map range_of (spans_at n b))
  unfolding spans_at
  spans_all h =
      let z : n - i ≡ 0 = omega arith in
      rw z at s.stored

pub spans_length : (n : ℕ) (xs : List ℕ) → length (spans_at n xs) ≡ n
unfolding spans_at
spans_length zero xs = refl
spans_length (suc n) xs = ap suc (spans_length n (drop 9 xs))

-- ---- what is written is read back

span_back : (s : Span) (ys : List ℕ) → s.start < limit → span_front (span_bytes s ++ ys) ≡ s
span_back s ys h =
    let start : number_at 8 0 (le_bytes 8 s.start ++ (s.uses ∷ ys)) ≡ s.start = number_back 8 s.start (s.uses ∷ ys) (omega arith) (omega arith) in
    let uses : get_or (le_bytes 8 s.start ++ (s.uses ∷ ys)) 8 0 ≡ s.uses = get_or_at (le_bytes 8 s.start) s.uses ys 0 8 (le_length 8 s.start) in
    rw append_assoc (rw (start, uses))

past_span : (s : Span) (ys : List ℕ) → drop 9 (span_bytes s ++ ys) ≡ ys
past_span s ys = drop_at (span_bytes s) ys 9 (length-append (le_bytes 8 s.start) (s.uses ∷ []) ∙ rw (le_length 8 s.start))

pub spans_back : (low : ℕ) (ss : List Span) → good_spans low ss ≡ true → spans_at (length ss) (spans_bytes ss) ≡ ss
unfolding spans_bytes spans_at good_spans
spans_back low [] g = refl
spans_back low (s ∷ ss) g =
    let p = and_both (leb low s.start && ltb s.start limit && leb 1 s.uses) (good_spans (s.start + 1) ss) g in
    let q = and_both (leb low s.start && ltb s.start limit) (leb 1 s.uses) p.0 in
    let small : s.start < limit = ltb-true _ _ (and_both (leb low s.start) (ltb s.start limit) q.0).1 in
    rw (span_back s (spans_bytes ss) small, past_span s (spans_bytes ss), spans_back (s.start + 1) ss p.1)
