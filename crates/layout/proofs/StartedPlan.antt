-- Laws of `started_at` with `planned`: the start that is set is the new range's, and the holder takes what the reorganise then offers.
use Prim.Native.Nat.{ℕ, suc, ◌+◌, ◌-◌, max, ◌<◌, ◌≤◌}
use mathlib.Core.Bool.{true, false, cond, and-false}
use mathlib.Core.List.{List, [], ◌∷◌, ◌++◌, map, map-append, append-nil}
use mathlib.Core.Path.{◌≡◌, refl, sym, ap, ◌∙◌}
use native.Mathlib.Omega.{arith}
use borrow.Author.Tests.{ne_eqb, lt-ltb}
use lib.Dec.{eqb}
use lib.ListN.{length, get_or, set, length-append, get_or-append, length-map}
use lib.Seq.{get_or_at}
use Rattle.num.specs.declared.Edges.{Edges}
use Rattle.num.proofs.Tests.{false_true}
use Rattle.layout.specs.declared.Layout.{Layout}
use Rattle.layout.specs.declared.Wish.{Wish}
use Rattle.layout.specs.Lay.{Span, Lay, good_spans, first_at_zero, ranges_limit, good_sets}
use Rattle.layout.specs.Value.{padded, no_range, range_of, value_of, blank, lay_of}
use Rattle.layout.specs.Plan.{StartAnswer, last_start, start_at, ends_open, open_start, new_spans, planned, start_set, new_start, start_answer, first_free, plan_answer, started_at, new_of, reorganise_answer}
use Rattle.layout.proofs.GoodLay.{Good, good_says}
use Rattle.layout.proofs.GoodSpans.{is_good_span, no_span}
use Rattle.layout.proofs.Padded.{padded_last, padded_set_last}
use Rattle.layout.proofs.ValueOf.{value_of_good, value_is_good}
use Rattle.layout.proofs.OfferedTo.{Installs}
use Rattle.layout.proofs.ReorganiseAnswer.{checks_fine, reorganise_fine}
use Rattle.layout.proofs.Planned.{plan_back, plan_good, plan_lawful, start_fits}
use Rattle.layout.proofs.StartedAt.{started_same, started_open}

-- ---- the last start

last_at : (s : Span) (ss : List Span) → start_at (s ∷ ss) (length ss) ≡ last_start (s ∷ ss)
unfolding last_start
last_at s [] = refl
last_at s (t ∷ ts) = last_at t ts

last_from_lem : (low : ℕ) (s : Span) (ss : List Span) → good_spans low (s ∷ ss) ≡ true → low ≤ last_start (s ∷ ss)
unfolding last_start
last_from_lem low s [] g = (is_good_span low s [] g).from
last_from_lem low s (t ∷ ts) g =
    let r = is_good_span low s (t ∷ ts) g in
    omega (arith, r.from, last_from_lem (s.start + 1) t ts r.rest)

-- a good layout has no open range
good_not_open : (ss : List Span) → good_spans 0 ss ≡ true → ends_open ss ≡ false
unfolding ends_open
good_not_open [] g = refl
good_not_open (s ∷ []) g = refl
good_not_open (s ∷ t ∷ ts) g =
    let h = last_from_lem (s.start + 1) t ts (is_good_span 0 s (t ∷ ts) g).rest in
    let k : suc (suc (length ts)) - 1 ≡ suc (length ts) = omega arith in
    let e : start_at (s ∷ t ∷ ts) (suc (suc (length ts)) - 1) ≡ last_start (t ∷ ts) = rw k (last_at t ts) in
    let z : eqb (start_at (s ∷ t ∷ ts) (suc (suc (length ts)) - 1)) 0 ≡ false = ne_eqb (start_at (s ∷ t ∷ ts) (suc (suc (length ts)) - 1)) 0 (λ f. omega arith) in
    rw (z, and-false)

-- a new range is open
new_open : (ss : List Span) (t : Span) → 1 ≤ length ss → t.start ≡ 0 → ends_open (ss ++ t ∷ []) ≡ true
unfolding ends_open
new_open ss t h e =
    let n : length (ss ++ t ∷ []) ≡ length ss + 1 = length-append ss (t ∷ []) in
    let k : length ss + 1 - 1 ≡ length ss = omega arith in
    let z : start_at (ss ++ t ∷ []) (length ss) ≡ 0 = ap (λ q. q.start) (get_or_at ss t [] no_span (length ss) refl) ∙ e in
    rw (n, lt-ltb 1 (length ss + 1) (omega arith), k, z)

new_open_from : (s : Span) (ss : List Span) (t : Span) (edge : ℕ) → open_start (s ∷ ss ++ t ∷ []) edge ≡ max edge (last_start (s ∷ ss) + 1)
unfolding open_start
new_open_from s ss t edge =
    let n : length (s ∷ ss ++ t ∷ []) ≡ suc (length ss) + 1 = length-append (s ∷ ss) (t ∷ []) in
    let k : suc (length ss) + 1 - 2 ≡ length ss = omega arith in
    let e : start_at (s ∷ ss ++ t ∷ []) (length ss) ≡ last_start (s ∷ ss) = ap (λ q. q.start) (get_or-append (s ∷ ss) (t ∷ []) no_span (length ss) (omega arith)) ∙ last_at s ss in
    let m : start_at (s ∷ ss ++ t ∷ []) (length (s ∷ ss ++ t ∷ []) - 2) ≡ last_start (s ∷ ss) = rw (n, k) e in
    ap (λ q. max edge (q + 1)) m

new_open_start : (ss : List Span) (t : Span) (edge : ℕ) → first_at_zero ss ≡ true → open_start (ss ++ t ∷ []) edge ≡ max edge (last_start ss + 1)
unfolding first_at_zero
new_open_start [] t edge z = absurd (false_true z)
new_open_start (s ∷ ss) t edge z = new_open_from s ss t edge

first_some : (ss : List Span) → first_at_zero ss ≡ true → 1 ≤ length ss
unfolding first_at_zero
first_some [] z = absurd (false_true z)
first_some (s ∷ ss) z = omega arith

-- ---- the value with its start set

ranges_set : (ss : List Span) (t : Span) (start : ℕ) → length ss < ranges_limit
    → set (padded ranges_limit no_range (map range_of (ss ++ t ∷ []))) (length ss) (record { start = record { 0 = start }; sets = (get_or (padded ranges_limit no_range (map range_of (ss ++ t ∷ []))) (length ss) no_range).sets })
    ≡ padded ranges_limit no_range (map range_of (ss ++ record { start = start; uses = t.uses } ∷ []))
ranges_set ss t start h =
    let m = map-append range_of ss (t ∷ []) in
    let n = length-map ss range_of in
    let get : get_or (padded ranges_limit no_range (map range_of ss ++ range_of t ∷ [])) (length ss) no_range ≡ range_of t = rw n at (padded_last ranges_limit no_range (map range_of ss) (range_of t) no_range (omega arith)) in
    let put : set (padded ranges_limit no_range (map range_of ss ++ range_of t ∷ [])) (length ss) (record { start = record { 0 = start }; sets = t.uses })
    ≡ padded ranges_limit no_range (map range_of ss ++ range_of (record { start = start; uses = t.uses }) ∷ [])
    = rw n at (padded_set_last ranges_limit no_range (map range_of ss) (range_of t) (range_of (record { start = start; uses = t.uses })) (omega arith)) in
    rw (m, get, map-append range_of ss (record { start = start; uses = t.uses } ∷ [])) put

module _ (held : Lay) (drops us : List ℕ) (new : List (List ℕ)) (start : ℕ) where
  plan_set : length held.spans < ranges_limit → start_set (length held.spans) start (value_of (planned held drops (us ∷ new) 0)) ≡ value_of (planned held drops (us ∷ new) start)
  unfolding start_set value_of planned
  plan_set h =
      let n : length (held.spans ++ new_spans 0 (us ∷ new)) ≡ length (held.spans ++ new_spans start (us ∷ new))
      = length-append held.spans (new_spans 0 (us ∷ new)) ∙ sym (length-append held.spans (new_spans start (us ∷ new))) in
      let r = ranges_set held.spans (record { start = 0; uses = suc (length new) }) start h in
      let v = value_of (planned held drops (us ∷ new) 0) in
      λ i. record { epoch = v.epoch; shape = v.shape; set_count = v.set_count; sets = v.sets; range_count = n i; ranges = r i }

-- ---- the plan with its start set

-- what a reorganise of the held layout offers, and where it then starts the sequencer
abbrev pub started_plan : Lay → List ℕ → List (List ℕ) → Edges → StartAnswer
started_plan held drops new edges = record {
  answer = start_answer held new edges.edge.0;
  layout = cond (eqb (start_answer held new edges.edge.0) 0) (value_of (planned held drops new (new_start held edges.edge.0))) blank;
  first = record { 0 = cond (eqb (start_answer held new edges.edge.0) 0) (first_free held new edges) 0 };
}

pub plan_started : (held : Lay) (drops : List ℕ) (new : List (List ℕ)) (edges : Edges) → Good held → plan_answer held drops new ≡ 0 → started_at (value_of (planned held drops new 0)) edges ≡ started_plan held drops new edges
unfolding start_answer first_free new_start plan_answer planned
plan_started held drops [] edges g fine =
    let open_not : ends_open (lay_of (value_of (planned held drops [] 0))).spans ≡ false = rw (plan_back held drops [] 0 g fine) (rw (append-nil held.spans) (good_not_open held.spans g.spans_good)) in
    sym (started_same (value_of (planned held drops [] 0)) edges open_not)
plan_started held drops (us ∷ new) edges g fine =
    let edge = edges.edge.0 in
    let ss = held.spans in
    let t : Span = record { start = 0; uses = suc (length new) } in
    let back = plan_back held drops (us ∷ new) 0 g fine in
    let n : length (ss ++ t ∷ []) - 1 ≡ length ss = omega (arith, length-append ss (t ∷ [])) in
    let room : length ss < ranges_limit = omega (arith, (checks_fine held drops (good_sets (us ∷ new)) (us ∷ new) fine).spans_fit) in
    let is_open : ends_open (lay_of (value_of (planned held drops (us ∷ new) 0))).spans ≡ true = rw back (new_open ss t (first_some ss g.first_zero) refl) in
    let start : open_start (lay_of (value_of (planned held drops (us ∷ new) 0))).spans edge ≡ new_start held edge = rw back (new_open_start ss t edge g.first_zero) in
    let made : start_set (length (lay_of (value_of (planned held drops (us ∷ new) 0))).spans - 1) (new_start held edge) (value_of (planned held drops (us ∷ new) 0)) ≡ value_of (planned held drops (us ∷ new) (new_start held edge))
    = rw (back, n) (plan_set held drops us new (new_start held edge) room) in
    started_open (value_of (planned held drops (us ∷ new) 0)) edges (new_start held edge) _ is_open start made

-- ---- the offer

-- the holder that still holds the layout installs what the reorganise made of it
pub reorganise_installs : (held : Layout) (drops : List ℕ) (w : Wish) (edge : ℕ) → reorganise_answer held drops w ≡ 0 → start_answer (lay_of held) (new_of w) edge ≡ 0
    → Installs held (value_of (planned (lay_of held) drops (new_of w) (new_start (lay_of held) edge)))
unfolding value_of planned lay_of
reorganise_installs held drops w edge e s =
    let r = reorganise_fine held drops w e in
    let lay = lay_of held in
    let g = good_says lay (value_of_good held r.held_good).0 in
    let start = new_start lay edge in
    let f = start_fits lay (new_of w) edge s in
    record {
      held_good = r.held_good;
      good = value_is_good (planned lay drops (new_of w) start) (plan_good lay drops (new_of w) start g r.plan f);
      next = refl;
      follows = rw (plan_back lay drops (new_of w) start g r.plan) (plan_lawful lay drops (new_of w) start g r.plan f);
    }
