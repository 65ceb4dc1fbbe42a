-- Laws of `planned`: every plan of a good layout, once its start is set, is good and a lawful successor.
use Prim.Native.Nat.{ℕ, suc, ◌+◌, ◌<◌, ◌≤◌}
use mathlib.Core.Bool.{true, false, ◌||◌, cond, or-true}
use mathlib.Core.List.{List, [], ◌∷◌, ◌++◌, map, append-nil}
use mathlib.Core.Path.{◌≡◌, refl, sym, ap, ◌∙◌}
use native.Mathlib.Omega.{arith}
use borrow.Author.Tests.{le-leb, lt-ltb, eq-eqb, leb-false}
use lib.Dec.{eqb, ltb, leb}
use lib.ListN.{length, length-map, length-append}
use Rattle.num.specs.Limits.{limit}
use Rattle.num.proofs.Tests.{and_both, false_true, cond_zero}
use Rattle.layout.specs.Lay.{Span, Lay, good, good_set, good_sets, good_spans, used, first_at_zero}
use Rattle.layout.specs.Value.{lay_of, value_of}
use Rattle.layout.specs.Successor.{keeps_sets, keeps_spans, lawful}
use Rattle.layout.specs.Plan.{without, emptied, last_start, new_spans, new_ranges, plan_answer, planned, new_start, start_answer}
use Rattle.layout.proofs.GoodLay.{Good, says_good}
use Rattle.layout.proofs.GoodSpans.{is_good_span}
use Rattle.layout.proofs.ValueOf.{good_short, lay_back}
use Rattle.layout.proofs.Without.{first_kept, without_good, without_sub}
use Rattle.layout.proofs.ReorganiseAnswer.{PlanFine, checks_fine}

-- ---- the sets of a plan

plan_sets_good : (drops : List ℕ) (sets new : List (List ℕ)) → good_sets sets ≡ true → emptied drops sets ≡ false → good_sets new ≡ true → good_sets (map (without drops) sets ++ new) ≡ true
unfolding good_sets
plan_sets_good drops [] new g e n = n
plan_sets_good drops (us ∷ sets) new g e n =
    let r = and_both (good_set us) (good_sets sets) g in
    let k = first_kept drops us sets e in
    rw (without_good drops us r.0 k.0) (plan_sets_good drops sets new r.1 k.1 n)

plan_keeps_sets : (drops : List ℕ) (sets new : List (List ℕ)) → emptied drops sets ≡ false → keeps_sets sets (map (without drops) sets ++ new) ≡ true
unfolding keeps_sets
plan_keeps_sets drops [] new e = refl
plan_keeps_sets drops (us ∷ sets) new e =
    let k = first_kept drops us sets e in
    rw (le-leb 1 (length (without drops us)) k.0, without_sub drops us) (plan_keeps_sets drops sets new k.1)

-- ---- one range more

spans_good_more : (low : ℕ) (s : Span) (ss : List Span) (t : Span) → good_spans low (s ∷ ss) ≡ true → last_start (s ∷ ss) < t.start → t.start < limit → 1 ≤ t.uses → good_spans low (s ∷ ss ++ t ∷ []) ≡ true
unfolding good_spans last_start
spans_good_more low s [] t g h k u =
    let r = is_good_span low s [] g in
    rw (le-leb low s.start r.from, lt-ltb s.start limit r.below, le-leb 1 s.uses r.some, le-leb (s.start + 1) t.start (omega arith), lt-ltb t.start limit k, le-leb 1 t.uses u)
spans_good_more low s (q ∷ ss) t g h k u =
    let r = is_good_span low s (q ∷ ss) g in
    rw (le-leb low s.start r.from, lt-ltb s.start limit r.below, le-leb 1 s.uses r.some) (spans_good_more (s.start + 1) q ss t r.rest h k u)

used_append : (ss ts : List Span) → used (ss ++ ts) ≡ used ss + used ts
unfolding used
used_append [] ts = omega arith
used_append (s ∷ ss) ts = omega (arith, used_append ss ts)

spans_kept : (last : ℕ) (ss : List Span) → keeps_spans last ss ss ≡ true
unfolding keeps_spans
spans_kept last [] = refl
spans_kept last (s ∷ ss) = rw (eq-eqb s.start s.start refl, eq-eqb s.uses s.uses refl) (spans_kept s.start ss)

spans_kept_more : (last : ℕ) (s : Span) (ss : List Span) (t : Span) → last_start (s ∷ ss) < t.start → keeps_spans last (s ∷ ss) (s ∷ ss ++ t ∷ []) ≡ true
unfolding keeps_spans last_start
spans_kept_more last s [] t h = rw (eq-eqb s.start s.start refl, eq-eqb s.uses s.uses refl) (lt-ltb s.start t.start h)
spans_kept_more last s (q ∷ ss) t h = rw (eq-eqb s.start s.start refl, eq-eqb s.uses s.uses refl) (spans_kept_more s.start q ss t h)

-- ---- the ranges of a plan

-- a new range starts above the last old start and below 2^40
pub record StartFits (ss : List Span) (new : List (List ℕ)) (start : ℕ) : Type 0 where
  pub higher : 0 < length new → last_start ss < start
  pub below : 0 < length new → start < limit

plan_spans_good : (ss : List Span) (new : List (List ℕ)) (start : ℕ) → good_spans 0 ss ≡ true → first_at_zero ss ≡ true → StartFits ss new start → good_spans 0 (ss ++ new_spans start new) ≡ true
unfolding first_at_zero
plan_spans_good [] new start g z f = absurd (false_true z)
plan_spans_good (s ∷ ss) [] start g z f = rw (append-nil (s ∷ ss)) g
plan_spans_good (s ∷ ss) (us ∷ new) start g z f =
    spans_good_more 0 s ss (record { start = start; uses = suc (length new) }) g (f.higher (omega arith)) (f.below (omega arith)) (omega arith)

plan_keeps_spans : (ss : List Span) (new : List (List ℕ)) (start : ℕ) → first_at_zero ss ≡ true → StartFits ss new start → keeps_spans 0 ss (ss ++ new_spans start new) ≡ true
unfolding first_at_zero
plan_keeps_spans [] new start z f = absurd (false_true z)
plan_keeps_spans (s ∷ ss) [] start z f = rw (append-nil (s ∷ ss)) (spans_kept 0 (s ∷ ss))
plan_keeps_spans (s ∷ ss) (us ∷ new) start z f = spans_kept_more 0 s ss (record { start = start; uses = suc (length new) }) (f.higher (omega arith))

plan_first : (ss ts : List Span) → first_at_zero ss ≡ true → first_at_zero (ss ++ ts) ≡ true
unfolding first_at_zero
plan_first [] ts z = absurd (false_true z)
plan_first (s ∷ ss) ts z = z

new_used : (new : List (List ℕ)) (start : ℕ) → used (new_spans start new) ≡ length new
unfolding used
new_used [] start = refl
new_used (us ∷ new) start = omega arith

new_counted : (new : List (List ℕ)) (start : ℕ) → length (new_spans start new) ≡ new_ranges new
new_counted [] start = refl
new_counted (us ∷ new) start = refl

-- there is a range more, or no set more
longer : (new : List (List ℕ)) (a b : ℕ) → (ltb a (a + new_ranges new) || eqb b (b + length new)) ≡ true
longer [] a b = rw (eq-eqb b (b + 0) (omega arith), or-true)
longer (us ∷ new) a b = rw (lt-ltb a (a + 1) (omega arith))

-- ---- the plan

module _ (held : Lay) (drops : List ℕ) (new : List (List ℕ)) (start : ℕ) (g : Good held) (fine : plan_answer held drops new ≡ 0) where
  fits : PlanFine held drops (good_sets new) new
  unfolding plan_answer
  fits = checks_fine held drops (good_sets new) new fine

  set_count_lem : length (map (without drops) held.sets ++ new) ≡ length held.sets + length new
  set_count_lem = rw (length-append (map (without drops) held.sets) new, length-map held.sets (without drops))

  span_count : length (held.spans ++ new_spans start new) ≡ length held.spans + new_ranges new
  span_count = rw (length-append held.spans (new_spans start new), new_counted new start)

  sets_good_here : good_sets (map (without drops) held.sets ++ new) ≡ true
  sets_good_here = plan_sets_good drops held.sets new g.sets_good fits.none_lost fits.new_good

  -- the value of a plan stands for it, also while its start is open
  pub plan_back : lay_of (value_of (planned held drops new start)) ≡ planned held drops new start
  unfolding planned
  plan_back =
      lay_back (planned held drops new start) (omega (arith, set_count_lem, fits.sets_fit)) (omega (arith, span_count, fits.spans_fit)) (good_short (map (without drops) held.sets ++ new) sets_good_here)

  module _ (starts : StartFits held.spans new start) where
    pub plan_good : good (planned held drops new start) ≡ true
    unfolding planned
    plan_good =
        says_good (planned held drops new start)
        (record {
          low = omega arith;
          high = omega (arith, fits.epoch_left);
          known = g.known;
          sets_few = omega (arith, set_count_lem, fits.sets_fit);
          spans_few = omega (arith, span_count, fits.spans_fit);
          sets_good = sets_good_here;
          first_zero = plan_first held.spans (new_spans start new) g.first_zero;
          spans_good = plan_spans_good held.spans new start g.spans_good g.first_zero starts;
          all_used = omega (arith, used_append held.spans (new_spans start new), new_used new start, set_count_lem, g.all_used);
        })

    pub plan_lawful : lawful held (planned held drops new start) ≡ true
    unfolding lawful planned
    plan_lawful = rw (eq-eqb held.shape held.shape refl, plan_keeps_spans held.spans new start g.first_zero starts, plan_keeps_sets drops held.sets new fits.none_lost, span_count, set_count_lem) (longer new (length held.spans) (length held.sets))

-- the start that is set fits
pub start_fits : (held : Lay) (new : List (List ℕ)) (edge : ℕ) → start_answer held new edge ≡ 0 → StartFits held.spans new (new_start held edge)
unfolding start_answer new_start
start_fits held [] edge e = record { higher = λ h. omega arith; below = λ h. absurd (omega arith) }
start_fits held (us ∷ new) edge e =
    let r = cond_zero (leb limit (new_start held edge)) 9 0 (omega arith) e in
    record { higher = λ h. omega arith; below = λ h. leb-false limit (new_start held edge) r.0 }

-- ---- where a plan's last range starts

last_append : (ss : List Span) (t : Span) → last_start (ss ++ t ∷ []) ≡ t.start
unfolding last_start
last_append [] t = refl
last_append (s ∷ []) t = refl
last_append (s ∷ q ∷ ss) t = last_append (q ∷ ss) t

pub plan_last : (held : Lay) (drops : List ℕ) (new : List (List ℕ)) (start : ℕ) → last_start (planned held drops new start).spans ≡ cond (ltb 0 (length new)) start (last_start held.spans)
unfolding planned
plan_last held drops [] start = ap last_start (append-nil held.spans)
plan_last held drops (us ∷ new) start = last_append held.spans (record { start = start; uses = suc (length new) }) ∙ sym (rw (lt-ltb 0 (suc (length new)) (omega arith)))
