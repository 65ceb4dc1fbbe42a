-- Laws of `planned`, as the code assembles it: what it puts together is the value of the planned layout.
use Prim.Native.Nat.{ℕ, ◌+◌, ◌<◌, ◌≤◌}
use mathlib.Core.Bool.{true, cond}
use mathlib.Core.List.{List, [], ◌∷◌, ◌++◌, map, map-append, append-nil}
use mathlib.Core.Path.{◌≡◌, refl, sym, ap, ap₂, ◌∙◌}
use native.Mathlib.Omega.{arith}
use borrow.Author.Tests.{leb-true, lt-ltb}
use lib.Dec.{ltb, leb}
use lib.ListN.{length, take, set, length-map, length-append}
use lib.Seq.{sets}
use Rattle.std.specs.Int.{from_bool}
use Rattle.num.specs.Limits.{last_epoch}
use Rattle.num.proofs.Tests.{and_both}
use Rattle.layout.specs.declared.Chain.{Chain}
use Rattle.layout.specs.declared.Layout.{Layout}
use Rattle.layout.specs.declared.Wish.{Wish}
use Rattle.layout.specs.Lay.{Span, Lay, set_limit, sets_limit, ranges_limit, good_sets}
use Rattle.layout.specs.Value.{chain_of, padded, no_chain, units_in, no_range, range_of, value_of, lay_of}
use Rattle.layout.specs.Plan.{reorganise_answer, without, thinned, good_chains, new_spans, new_ranges, new_of, planned, plan_answer, good_wish}
use Rattle.layout.proofs.Take.{front_length}
use Rattle.layout.proofs.GoodLay.{Good, good_says}
use Rattle.layout.proofs.SetNumber.{sets_some}
use Rattle.layout.proofs.Padded.{padded_front, padded_mapped, padded_sets}
use Rattle.layout.proofs.ValueOf.{short, good_short, value_of_good}
use Rattle.layout.proofs.GoodChains.{wish_chains}
use Rattle.layout.proofs.ReorganiseAnswer.{PlanFine, checks_fine, reorganise_fine, new_ranges_lem}

-- ---- the sets

thinned_chains : (drops : List ℕ) (ss : List (List ℕ)) → short ss ≡ true → map (thinned drops) (map chain_of ss) ≡ map chain_of (map (without drops) ss)
unfolding short
thinned_chains drops [] h = refl
thinned_chains drops (us ∷ ss) h =
    let p = and_both (leb (length us) set_limit) (short ss) h in
    ap₂ ◌∷◌ (ap (λ vs. chain_of (without drops vs)) (padded_front set_limit 0 us (leb-true _ _ p.0))) (thinned_chains drops ss p.1)

thinned_none : (drops : List ℕ) → thinned drops no_chain ≡ no_chain
unfolding without padded
thinned_none drops = refl

thinned_padded : (drops : List ℕ) (ss : List (List ℕ)) → short ss ≡ true → map (thinned drops) (padded sets_limit no_chain (map chain_of ss)) ≡ padded sets_limit no_chain (map chain_of (map (without drops) ss))
thinned_padded drops ss h = padded_mapped (thinned drops) sets_limit no_chain (map chain_of ss) ∙ ap₂ (padded sets_limit) (thinned_none drops) (thinned_chains drops ss h)

plan_sets : (drops : List ℕ) (ss : List (List ℕ)) (cs : List Chain) → short ss ≡ true → good_chains cs ≡ true → length ss + length cs ≤ sets_limit
    → sets (map (thinned drops) (padded sets_limit no_chain (map chain_of ss))) (length ss) cs ≡ padded sets_limit no_chain (map chain_of (map (without drops) ss ++ map units_in cs))
plan_sets drops ss cs h g fits =
    let xs = map chain_of (map (without drops) ss) in
    let n : length xs ≡ length ss = length-map (map (without drops) ss) chain_of ∙ length-map ss (without drops) in
    ap (λ l. sets l (length ss) cs) (thinned_padded drops ss h)
    ∙ (rw n at (padded_sets sets_limit no_chain xs cs (omega arith)))
    ∙ ap (padded sets_limit no_chain) (ap (λ l. xs ++ l) (wish_chains cs g) ∙ sym (map-append chain_of (map (without drops) ss) (map units_in cs)))

-- ---- the ranges

plan_ranges : (ss : List Span) (n : ℕ) (new : List (List ℕ)) → length new ≡ n → length ss + new_ranges new ≤ ranges_limit
    → cond (ltb 0 n) (set (padded ranges_limit no_range (map range_of ss)) (length ss) (record { start = record { 0 = 0 }; sets = n })) (padded ranges_limit no_range (map range_of ss))
    ≡ padded ranges_limit no_range (map range_of (ss ++ new_spans 0 new))
plan_ranges ss n [] e fits = rw (← e, append-nil ss)
plan_ranges ss n (us ∷ new) e fits =
    let k : length (map range_of ss) ≡ length ss = length-map ss range_of in
    rw (lt-ltb 0 n (omega arith), ← e, map-append range_of ss (new_spans 0 (us ∷ new)))
    (rw k at (padded_sets ranges_limit no_range (map range_of ss) (map range_of (new_spans 0 (us ∷ new))) (omega arith)))

span_count : (n : ℕ) (new : List (List ℕ)) → length new ≡ n → from_bool (ltb 0 n) ≡ length (new_spans 0 new)
span_count n [] e = rw (← e)
span_count n (us ∷ new) e = rw (lt-ltb 0 n (omega arith))

-- ---- the whole

-- what the code puts together of the held layout, the units to drop and the wanted sets
abbrev pub assembled : Layout → List ℕ → Wish → Layout
assembled held drops w = record {
  epoch = record { 0 = held.epoch.0 + 1 };
  shape = held.shape;
  set_count = held.set_count + w.count;
  sets = sets (map (thinned drops) held.sets) held.set_count (take w.count w.sets);
  range_count = held.range_count + from_bool (ltb 0 w.count);
  ranges = cond (ltb 0 w.count) (set held.ranges held.range_count (record { start = record { 0 = 0 }; sets = w.count })) held.ranges;
}

module _ (lay : Lay) (drops : List ℕ) (w : Wish) (g : Good lay) (good_wish_lem : good_wish w ≡ true) (fine : plan_answer lay drops (new_of w) ≡ 0) (room : length w.sets ≡ sets_limit) where
  fits : PlanFine lay drops (good_sets (new_of w)) (new_of w)
  unfolding plan_answer
  fits = checks_fine lay drops (good_sets (new_of w)) (new_of w) fine

  -- a wish of more than the array holds would leave no room
  counted : length (new_of w) ≡ w.count
  counted = omega (arith, front_length units_in w.count w.sets, fits.sets_fit, sets_some lay g)

  assembled_lay : assembled (value_of lay) drops w ≡ value_of (planned lay drops (new_of w) 0)
  unfolding value_of planned
  assembled_lay =
      let cs = take w.count w.sets in
      let k : length cs ≡ w.count = sym (length-map cs units_in) ∙ counted in
      let set_count_lem : length lay.sets + w.count ≡ length (map (without drops) lay.sets ++ new_of w)
      = omega (arith, length-append (map (without drops) lay.sets) (new_of w), length-map lay.sets (without drops), counted) in
      let range_count_lem : length lay.spans + from_bool (ltb 0 w.count) ≡ length (lay.spans ++ new_spans 0 (new_of w))
      = omega (arith, length-append lay.spans (new_spans 0 (new_of w)), span_count w.count (new_of w) counted) in
      let all_sets = plan_sets drops lay.sets cs (good_short lay.sets g.sets_good) good_wish_lem (omega (arith, counted, fits.sets_fit)) in
      let all_ranges = plan_ranges lay.spans w.count (new_of w) counted fits.spans_fit in
      λ i. record {
        epoch = record { 0 = lay.epoch + 1 };
        shape = lay.shape;
        set_count = set_count_lem i;
        sets = all_sets i;
        range_count = range_count_lem i;
        ranges = all_ranges i;
      }

-- where the reorganise is not refused
pub assembled_is : (held : Layout) (drops : List ℕ) (w : Wish) → reorganise_answer held drops w ≡ 0 → length w.sets ≡ sets_limit → assembled held drops w ≡ value_of (planned (lay_of held) drops (new_of w) 0)
assembled_is held drops w fine room =
    let r = reorganise_fine held drops w fine in
    let v = value_of_good held r.held_good in
    ap (λ l. assembled l drops w) v.1 ∙ assembled_lay (lay_of held) drops w (good_says (lay_of held) v.0) r.wish_good r.plan room

-- what is added fits
pub record Fitting (held : Layout) (w : Wish) : Type 0 where
  pub epoch : held.epoch.0 < last_epoch
  pub chains : held.set_count + w.count ≤ sets_limit
  pub spans : held.range_count + from_bool (ltb 0 w.count) ≤ ranges_limit
  pub spare : 0 < w.count → held.range_count < ranges_limit

pub fitting : (held : Layout) (drops : List ℕ) (w : Wish) → reorganise_answer held drops w ≡ 0 → length w.sets ≡ sets_limit → Fitting held w
unfolding value_of lay_of
fitting held drops w fine room =
    let r = reorganise_fine held drops w fine in
    let v = value_of_good held r.held_good in
    let lay = lay_of held in
    let g = good_says lay v.0 in
    let f = fits lay drops w g r.wish_good r.plan room in
    let n = counted lay drops w g r.wish_good r.plan room in
    let s : held.set_count ≡ length lay.sets = ap (λ l. l.set_count) v.1 in
    let q : held.range_count ≡ length lay.spans = ap (λ l. l.range_count) v.1 in
    let m : held.range_count + from_bool (ltb 0 w.count) ≤ ranges_limit = omega (arith, f.spans_fit, new_ranges_lem w.count w.sets (omega arith)) in
    record { epoch = f.epoch_left; chains = omega (arith, f.sets_fit); spans = m; spare = λ h. omega (arith, rw (lt-ltb 0 w.count h) at m) }
