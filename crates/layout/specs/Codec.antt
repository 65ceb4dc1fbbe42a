-- A layout as bytes: sections in fixed order, each after its one-byte count (docs/RULES.md, 5.1).
use Rattle.std.specs.Prelude.{ℕ, zero, suc, ◌+◌, Bool, true, false, ◌&&◌, ◌||◌, not, cond, List, [], ◌∷◌, ◌++◌, map, ◌≡◌, eqb, ltb, length, get_or, drop}
use Rattle.std.proofs.lemmas.List.Edits.{sets}
use Rattle.num.specs.Bytes.{le_bytes, number_at}
use Rattle.num.specs.Checks.{lowest, ◌if◌}
use Rattle.layout.specs.declared.Layout.{Layout}
use Rattle.layout.specs.declared.Wish.{Wish}
use Rattle.layout.specs.Lay.{Span, Lay, good, good_sets, in_sets, units_of, sets_limit}
use Rattle.layout.specs.Value.{padded, no_chain, chain_of, lay_of, value_of, blank, good_value}

-- ---- writing

-- a count and its units
abbrev pub counted : List ℕ → List ℕ
counted us = length us ∷ us

unfoldable pub sets_bytes : List (List ℕ) → List ℕ
sets_bytes [] = []
sets_bytes (us ∷ rest) = counted us ++ sets_bytes rest

-- a start of 8 bytes and one byte for how many sets it uses
abbrev pub span_bytes : Span → List ℕ
span_bytes s = le_bytes 8 s.start ++ (s.uses ∷ [])

unfoldable pub spans_bytes : List Span → List ℕ
spans_bytes [] = []
spans_bytes (s ∷ ss) = span_bytes s ++ spans_bytes ss

-- no layout has more bytes: epoch 4, shape 1, units 1 + 8, sets 1 + 16 * 5, ranges 1 + 8 * 9
abbrev pub size_limit : ℕ
size_limit = 168

-- epoch (4), shape (1), then units, sets, ranges
unfoldable pub encode : Lay → List ℕ
encode l =
    le_bytes 4 l.epoch
    ++ (l.shape ∷ [])
    ++ counted (units_of l.sets)
    ++ (length l.sets ∷ sets_bytes l.sets)
    ++ (length l.spans ∷ spans_bytes l.spans)

-- ---- reading: what the bytes would say, were they those of a layout; past their end they count as 0

-- a set at the front: a count and its units
abbrev pub set_front : List ℕ → List ℕ
set_front xs = padded (get_or xs 0 0) 0 (drop 1 xs)

-- n sets at the front, and what stands behind them
unfoldable pub sets_at : ℕ → List ℕ → List (List ℕ)
sets_at zero xs = []
sets_at (suc n) xs = set_front xs ∷ sets_at n (drop (1 + get_or xs 0 0) xs)

unfoldable pub past_sets : ℕ → List ℕ → List ℕ
past_sets zero xs = xs
past_sets (suc n) xs = past_sets n (drop (1 + get_or xs 0 0) xs)

-- a range at the front
abbrev pub span_front : List ℕ → Span
span_front xs = record { start = number_at 8 0 xs; uses = get_or xs 8 0 }

-- n ranges at the front
unfoldable pub spans_at : ℕ → List ℕ → List Span
spans_at zero xs = []
spans_at (suc n) xs = span_front xs ∷ spans_at n (drop 9 xs)

-- what stands behind the epoch, the shape and the unit section
abbrev pub past_units : List ℕ → List ℕ
past_units b = drop (6 + get_or b 5 0) b

-- what stands behind the sets
abbrev pub past_chains : List ℕ → List ℕ
past_chains b = past_sets (get_or (past_units b) 0 0) (drop 1 (past_units b))

unfoldable pub decode : List ℕ → Lay
decode b = record {
  epoch = number_at 4 0 b;
  shape = get_or b 4 0;
  sets = sets_at (get_or (past_units b) 0 0) (drop 1 (past_units b));
  spans = spans_at (get_or (past_chains b) 0 0) (drop 1 (past_chains b));
}

-- ---- nothing else is taken for a layout

unfoldable pub same : List ℕ → List ℕ → Bool
same [] [] = true
same [] (y ∷ ys) = false
same (x ∷ xs) [] = false
same (x ∷ xs) (y ∷ ys) = eqb x y && same xs ys

-- the bytes of a good layout, and no others: no unit more in the unit section, no byte left over
unfoldable pub is_layout : List ℕ → Bool
is_layout b = good (decode b) && same (encode (decode b)) b

abbrev pub read_answer : List ℕ → ℕ
read_answer b = lowest (10 if not (is_layout b) ∷ [])

-- the layout that is read: none where the bytes are refused
unfoldable pub read_layout : List ℕ → Layout
read_layout b = cond (is_layout b) (value_of (decode b)) blank

pub record LayoutRead (b : List ℕ) (answer : ℕ) (layout : Layout) : Type 0 where
  pub answer_is : answer ≡ read_answer b
  pub layout_is : layout ≡ read_layout b

-- ---- new sets as bytes: a count, and then sets as in a layout

abbrev pub sets_said : List ℕ → List (List ℕ)
sets_said b = sets_at (get_or b 0 0) (drop 1 b)

-- good sets, and nothing else
unfoldable pub are_sets : List ℕ → Bool
are_sets b = good_sets (sets_said b) && same (length (sets_said b) ∷ sets_bytes (sets_said b)) b

-- unit u stands in one of them
unfoldable pub sets_name : List ℕ → ℕ → Bool
sets_name b u = are_sets b && in_sets u (sets_said b)

-- by value: the first 16 of them, and how many they are
unfoldable pub wish_said : List ℕ → Wish
wish_said b = record { count = get_or b 0 0; sets = padded sets_limit no_chain (map chain_of (sets_said b)) }

-- ---- a layout's value that is handed in, and its bytes in a lent buffer

unfoldable pub bytes_of : Layout → List ℕ
bytes_of l = encode (lay_of l)

-- a value that is no good layout's, or a buffer too short for its bytes
unfoldable pub write_refused : Layout → List ℕ → Bool
write_refused l out = not (good_value l) || ltb (length out) (length (bytes_of l))

abbrev pub write_answer : Layout → List ℕ → ℕ
write_answer l out = lowest (10 if write_refused l out ∷ [])

-- how many bytes are written
abbrev pub write_count : Layout → List ℕ → ℕ
write_count l out = cond (write_refused l out) 0 (length (bytes_of l))

-- the layout's bytes stand at the front, and the rest is unchanged
abbrev pub write_buffer : Layout → List ℕ → List ℕ
write_buffer l out = cond (write_refused l out) out (sets out 0 (bytes_of l))

pub record LayoutWritten (l : Layout) (before : List ℕ) (answer count : ℕ) (after : List ℕ) : Type 0 where
  pub answer_is : answer ≡ write_answer l before
  pub count_is : count ≡ write_count l before
  pub buffer_is : after ≡ write_buffer l before
