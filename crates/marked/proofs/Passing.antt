-- One test, computed over all rows, and the law that turns it into the answer at every row.
use Prim.Native.Nat.{ℕ, zero, suc, ◌<◌}
use mathlib.Core.Bool.{Bool, true, ◌&&◌}
use mathlib.Core.List.{List, [], ◌∷◌}
use mathlib.Core.Path.{◌≡◌, refl, sym, ◌∙◌}
use native.Mathlib.Nat.{le_of_suc-le-suc, not-suc-le-zero}
use native.Mathlib.Omega.{arith}
use borrow.Author.Tests.{eqb-true}
use lib.Dec.{eqb}
use lib.ListN.{length, get_or}
use Rattle.num.proofs.Tests.{and_both}
use Rattle.unit.specs.Shape.{shape_for}
use Rattle.unit.specs.State.{State, lookup, insert, keep_from, retire, edge, last_end, written_edge, written_end}
use Rattle.unit.specs.Memory.{encode, valid, valid_slots}
use Rattle.unit.specs.Kinds.{is_kind, is_page, has_bytes, is_gone, was_written}
use Rattle.unit.specs.Unit.{fresh_unit, written, retired, trimmed_at, pruned, pruned_to, sealed_at, says, after as unit_after_lem, report}
use Rattle.num.specs.Bytes.{number_at, le, le_bytes}
use Rattle.layout.specs.Lay.{rising, good_set, good_sets, good_spans, first_at_zero, used, good, ◌in?◌, in_sets, used_from, units_of}
use Rattle.layout.specs.Value.{padded, lay_of, value_of, zeros, tidy_chain, tidy_chains, blank_ranges, tidy, good_value}
use Rattle.layout.specs.Codec.{sets_bytes, spans_bytes, sets_at, past_sets, spans_at, decode, encode as encode_bytes, same, is_layout, read_layout}
use Rattle.layout.specs.Places.{placed, set_number, place_answer, placed_at}
use Rattle.layout.specs.Plan.{without, bad_drops, emptied, good_chains, planned, reorganise_answer, planned_for}
use Rattle.unit.specs.Rules.{fresh_answer}
use Rattle.unit.proofs.Shapes.{sized}
use Rattle.unit.proofs.Freshness.{fresh_fine, fresh_made}
use Rattle.marked.specs.Rows.{Row, Told}
use Rattle.marked.specs.Lays.{place_told, drop_told}
use Rattle.marked.specs.Asks.{told_of, left_by}
use Rattle.marked.specs.Table.{rows}
use Rattle.marked.specs.Marked.{blank, after, same_told, RowsHold}
use Rattle.marked.proofs.Telling.{told_eq}
use Rattle.marked.proofs.Units.{sure, filled, tells, next, next_code, tells_right, leaves_next}

same_eq : (a b : Told) → same_told a b ≡ true → a ≡ b
same_eq a b h =
    let (t, z) = and_both (eqb a.answer b.answer && eqb a.first b.first) (eqb a.second b.second) h in
    let (x, y) = and_both (eqb a.answer b.answer) (eqb a.first b.first) t in
    told_eq (eqb-true _ _ x) (eqb-true _ _ y) (eqb-true _ _ z)

-- every row answers as it expects, from the unit u on, of the shape that the byte c names
passes : ℕ → State → List Row → Bool
passes c u [] = true
passes c u (r ∷ rs) =
    let sh = shape_for c in
    let a = r.asked in
    valid sh u && (sure sh u a && (same_told (tells sh u a) r.told && passes (next_code c a) (next sh u a) rs))

record Passed (c : ℕ) (u : State) (r : Row) (rs : List Row) : Type 0 where
  told_right : told_of (encode (shape_for c) u) r.asked ≡ r.told
  left : left_by (encode (shape_for c) u) r.asked ≡ encode (shape_for (next_code c r.asked)) (next (shape_for c) u r.asked)
  later : passes (next_code c r.asked) (next (shape_for c) u r.asked) rs ≡ true

first_passed : (c : ℕ) (u : State) (r : Row) (rs : List Row) → passes c u (r ∷ rs) ≡ true → Passed c u r rs
unfolding passes
first_passed c u r rs h =
    let sh = shape_for c in
    let a = r.asked in
    let rest = passes (next_code c a) (next sh u a) rs in
    let (s, h1) = and_both (valid sh u) (sure sh u a && (same_told (tells sh u a) r.told && rest)) h in
    let (t, h2) = and_both (sure sh u a) (same_told (tells sh u a) r.told && rest) h1 in
    let (e, later) = and_both (same_told (tells sh u a) r.told) rest h2 in
    record { told_right = tells_right c u s a t ∙ same_eq (tells sh u a) r.told e; left = leaves_next c u s a t; later = later }

passed : (c : ℕ) (u : State) (rs : List Row) → passes c u rs ≡ true → (k : ℕ) → k < length rs
    → told_of (after k rs (encode (shape_for c) u)) (get_or rs k blank).asked ≡ (get_or rs k blank).told
unfolding after
passed c u [] h k l = absurd (not-suc-le-zero l)
passed c u (r ∷ rs) h zero l = (first_passed c u r rs h).told_right
passed c u (r ∷ rs) h (suc k) l =
    let f = first_passed c u r rs h in
    rw f.left (passed (next_code c r.asked) (next (shape_for c) u r.asked) rs f.later k (le_of_suc-le-suc l))

abbrev tail : List Row → List Row
tail [] = []
tail (r ∷ rs) = rs

-- the test, computed: every row but the first, which makes the small unit 1
all : passes 0 (fresh_unit 1) (tail rows) ≡ true
unfolding passes rows shape_for sure tells next next_code filled valid valid_slots lookup insert keep_from retire last_end edge written_end written_edge is_kind is_page has_bytes is_gone was_written written retired trimmed_at pruned pruned_to sealed_at says unit_after_lem report place_told drop_told number_at le le_bytes rising good_set good_sets good_spans first_at_zero used good ◌in?◌ in_sets used_from units_of padded lay_of value_of zeros tidy_chain tidy_chains blank_ranges tidy good_value sets_bytes spans_bytes encode_bytes sets_at past_sets spans_at decode same is_layout read_layout placed set_number place_answer placed_at without bad_drops emptied good_chains planned reorganise_answer planned_for
all = refl

made : (m : List ℕ) → length m ≡ 6168 → fresh_answer m 1 0 ≡ 0
made m e = fresh_fine m 1 0 (e ∙ sym (sized 0).whole) (omega arith) (omega arith) (omega arith)

-- THE MARKED EXAMPLES HOLD
pub marked : RowsHold
unfolding rows after told_of left_by
marked m e zero l = rw (made m e)
marked m e (suc k) l = rw (fresh_made m 1 0 (made m e)) (passed 0 (fresh_unit 1) (tail rows) all k (le_of_suc-le-suc l))
