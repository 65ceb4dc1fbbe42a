-- Laws of `encode` and `decode`: on good layouts the layout and its bytes stand for each other.
use Prim.Native.Nat.{ℕ, zero, suc, ◌+◌, ◌*◌, ◌≤◌}
use mathlib.Core.Bool.{Bool, true, false, cond}
use mathlib.Core.List.{List, [], ◌∷◌, ◌++◌, map, append_assoc}
use mathlib.Core.Path.{◌≡◌, sym, ap, ◌∙◌}
use native.Mathlib.Omega.{arith}
use borrow.Author.Tests.{leb-true}
use lib.Dec.{leb}
use lib.ListN.{length, get_or, drop, length-append}
use lib.Seq.{drop-drop, get_or_at, get_or-drop, drop_at}
use Rattle.num.specs.Limits.{last_epoch}
use Rattle.num.specs.Bytes.{number_at, le_bytes}
use Rattle.num.proofs.Tests.{and_both}
use Rattle.num.proofs.Numbers.{le_length, number_back}
use Rattle.layout.specs.declared.Chain.{Chain}
use Rattle.layout.specs.declared.Layout.{Layout}
use Rattle.layout.specs.declared.Range.{Range}
use Rattle.layout.specs.Lay.{Span, Lay, good, good_spans, units_of, in_sets, used_from}
use Rattle.layout.specs.Value.{padded, no_chain, no_range, chain_of, range_of, value_of}
use Rattle.layout.specs.Codec.{sets_at, past_sets, spans_at, past_units, decode, counted, sets_bytes, spans_bytes, encode, is_layout, same, span_bytes, size_limit}
use Rattle.layout.proofs.GoodLay.{Good, good_says}
use Rattle.layout.proofs.ValueOf.{short, good_short}
use Rattle.layout.proofs.Same.{same_self, same_eq}
use Rattle.layout.proofs.SetsAt.{sets_length, past_set, sets_back, past_back}
use Rattle.layout.proofs.SpansAt.{spans_length, spans_back}

-- ---- what the code reads

module _ (b : List ℕ) (epoch shape n : ℕ) (cs : List Chain) (past : List ℕ) (m : ℕ) (rs : List Range) where
  pub parsed_is : epoch ≡ number_at 4 0 b → shape ≡ get_or b 4 0 → n ≡ get_or (past_units b) 0 0
      → cs ≡ padded 16 no_chain (map chain_of (sets_at n (drop 1 (past_units b)))) → past ≡ past_sets n (drop 1 (past_units b))
      → m ≡ get_or past 0 0 → rs ≡ padded 8 no_range (map range_of (spans_at m (drop 1 past)))
      → ◌≡◌ {A = Layout} (record { epoch = record { 0 = epoch }; shape = shape; set_count = n; sets = cs; range_count = m; ranges = rs }) (value_of (decode b))
  unfolding value_of decode
  parsed_is ee eh en ec ep em er =
      sym (rw (← en, ← ep, ← em, sets_length n (drop 1 (past_units b)), spans_length m (drop 1 past), ← ec, ← er, ← ee, ← eh))

-- ---- results

decode_encode_parts : (e h : ℕ) (us : List ℕ) (ss : List (List ℕ)) (rs : List Span) → e ≤ last_epoch → good_spans 0 rs ≡ true
    → ◌≡◌ {A = Lay} (decode (le_bytes 4 e ++ (h ∷ (counted us ++ ((length ss ∷ sets_bytes ss) ++ (length rs ∷ spans_bytes rs)))))) (record { epoch = e; shape = h; sets = ss; spans = rs })
unfolding decode
decode_encode_parts e h us ss rs s g =
    let tail = length rs ∷ spans_bytes rs in
    let behind = counted us ++ ((length ss ∷ sets_bytes ss) ++ tail) in
    let b = le_bytes 4 e ++ (h ∷ behind) in
    let epoch : number_at 4 0 b ≡ e = number_back 4 e _ (omega arith) (omega arith) in
    let shape : get_or b 4 0 ≡ h = get_or_at (le_bytes 4 e) h behind 0 4 (le_length 4 e) in
    let front : drop 5 b ≡ behind = sym (drop-drop 1 4 b) ∙ ap (drop 1) (drop_at (le_bytes 4 e) (h ∷ behind) 4 (le_length 4 e)) in
    let count : get_or b 5 0 ≡ length us = sym (get_or-drop 5 b 0 0) ∙ rw front in
    let six : 6 + length us ≡ 5 + (1 + length us) = omega arith in
    let past : drop (6 + length us) b ≡ length ss ∷ (sets_bytes ss ++ tail)
    = rw (six, ← drop-drop (1 + length us) 5 b, front) (past_set us ((length ss ∷ sets_bytes ss) ++ tail)) in
    rw (epoch, shape, count, past, past_back ss tail, sets_back ss tail, spans_back 0 rs g)

encode_parts : (l : Lay)
    → encode l ≡ le_bytes 4 l.epoch ++ (l.shape ∷ (counted (units_of l.sets) ++ ((length l.sets ∷ sets_bytes l.sets) ++ (length l.spans ∷ spans_bytes l.spans))))
unfolding encode
encode_parts l =
    let spans = length l.spans ∷ spans_bytes l.spans in
    let sets = length l.sets ∷ sets_bytes l.sets in
    let units = counted (units_of l.sets) in
    let shape = l.shape ∷ [] in
    let epoch = le_bytes 4 l.epoch in
    append_assoc (epoch ++ shape ++ units) sets spans ∙ append_assoc (epoch ++ shape) units (sets ++ spans) ∙ append_assoc epoch shape (units ++ (sets ++ spans))

pub decode_encode : (l : Lay) → good l ≡ true → decode (encode l) ≡ l
decode_encode l h =
    let g : Good l = good_says l h in
    rw (encode_parts l) (decode_encode_parts l.epoch l.shape (units_of l.sets) l.sets l.spans g.high g.spans_good)

-- what is written is a layout
pub encode_is_layout : (l : Lay) → good l ≡ true → is_layout (encode l) ≡ true
unfolding is_layout
encode_is_layout l h = rw (decode_encode l h, h) (same_self (encode l))

-- what is read is written back
pub encode_decode : (b : List ℕ) → is_layout b ≡ true → (good (decode b) ≡ true) × (encode (decode b) ≡ b)
unfolding is_layout
encode_decode b h =
    let p = and_both (good (decode b)) (same (encode (decode b)) b) h in
    (p.0, same_eq (encode (decode b)) b p.1)

pub encode_once : (l m : Lay) → good l ≡ true → good m ≡ true → encode l ≡ encode m → l ≡ m
encode_once l m g h e = sym (decode_encode l g) ∙ ap decode e ∙ decode_encode m h

-- ---- a result: no good layout is longer than Layout::SIZE, so a buffer of that size takes every one

units_few : (u n : ℕ) (ss : List (List ℕ)) → length (used_from u n ss) ≤ n
unfolding used_from
units_few u zero ss = omega arith
units_few u (suc n) ss = chosen (in_sets u ss) (units_few (suc u) n ss)
  where
    chosen : (b : Bool) → length (used_from (suc u) n ss) ≤ n → length (cond b (u ∷ used_from (suc u) n ss) (used_from (suc u) n ss)) ≤ suc n
    chosen true few = omega arith
    chosen false few = omega arith

sets_few : (ss : List (List ℕ)) → short ss ≡ true → length (sets_bytes ss) ≤ 5 * length ss
unfolding sets_bytes short
sets_few [] h = omega arith
sets_few (us ∷ ss) h =
    let p = and_both (leb (length us) 4) (short ss) h in
    omega (arith, leb-true (length us) 4 p.0, sets_few ss p.1, length-append (counted us) (sets_bytes ss))

spans_few : (ss : List Span) → length (spans_bytes ss) ≡ 9 * length ss
unfolding spans_bytes
spans_few [] = omega arith
spans_few (s ∷ ss) =
    omega (arith, spans_few ss, length-append (span_bytes s) (spans_bytes ss), length-append (le_bytes 8 s.start) (s.uses ∷ []), le_length 8 s.start)

pub encode_small : (l : Lay) → good l ≡ true → length (encode l) ≤ size_limit
unfolding encode units_of
encode_small l h =
    let g : Good l = good_says l h in
    let epoch = le_bytes 4 l.epoch in
    let shape = l.shape ∷ [] in
    let units = counted (used_from 1 8 l.sets) in
    let sets = length l.sets ∷ sets_bytes l.sets in
    let spans = length l.spans ∷ spans_bytes l.spans in
    omega (
      arith,
      length-append (epoch ++ shape ++ units ++ sets) spans,
      length-append (epoch ++ shape ++ units) sets,
      length-append (epoch ++ shape) units,
      length-append epoch shape,
      le_length 4 l.epoch,
      units_few 1 8 l.sets,
      sets_few l.sets (good_short l.sets g.sets_good),
      spans_few l.spans,
      g.sets_few,
      g.spans_few,
    )
