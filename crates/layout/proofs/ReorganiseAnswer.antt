-- Laws of `plan_checks`, `plan_answer`, `reorganise_answer` and `planned_for`: when the plan of a reorganise is not refused.
use Prim.Native.Nat.{ℕ, zero, suc, ◌+◌, ◌<◌, ◌≤◌}
use mathlib.Core.Bool.{Bool, true, false, ◌||◌, not, cond}
use mathlib.Core.List.{List, [], ◌∷◌, map}
use mathlib.Core.Path.{◌≡◌, refl, sym}
use native.Mathlib.Omega.{arith}
use borrow.Author.Tests.{lt-ltb, le-ltb, leb-false, ltb-false, lt-leb, not-false}
use lib.Dec.{ltb, leb}
use lib.ListN.{length, take}
use Rattle.std.specs.Int.{from_bool}
use Rattle.num.specs.Limits.{last_epoch}
use Rattle.num.specs.Checks.{lowest}
use Rattle.num.proofs.Tests.{or_false, cond_zero}
use Rattle.layout.specs.declared.Chain.{Chain}
use Rattle.layout.specs.declared.Layout.{Layout}
use Rattle.layout.specs.declared.Wish.{Wish}
use Rattle.layout.specs.Lay.{Lay, sets_limit, ranges_limit, good_sets}
use Rattle.layout.specs.Value.{units_in, lay_of, good_value, value_of}
use Rattle.layout.specs.Plan.{new_ranges, bad_drops, emptied, plan_checks, plan_answer, good_wish, new_of, reorganise_answer, planned, planned_for}
use Rattle.layout.proofs.GoodChains.{wish_sets}

-- one range more where a set is wanted
pub new_ranges_lem : (n : ℕ) (cs : List Chain) → 0 < length cs → from_bool (ltb 0 n) ≡ new_ranges (map units_in (take n cs))
new_ranges_lem n [] h = absurd (omega arith)
new_ranges_lem zero (c ∷ cs) h = refl
new_ranges_lem (suc n) (c ∷ cs) h = rw (lt-ltb 0 (suc n) (omega arith))

-- ---- a plan that is not refused

pub record PlanFine (held : Lay) (drops : List ℕ) (fine : Bool) (new : List (List ℕ)) : Type 0 where
  pub epoch_left : held.epoch < last_epoch
  pub drops_good : bad_drops drops new ≡ false
  pub new_good : fine ≡ true
  pub none_lost : emptied drops held.sets ≡ false
  pub sets_fit : length held.sets + length new ≤ sets_limit
  pub spans_fit : length held.spans + new_ranges new ≤ ranges_limit

module _ (held : Lay) (drops : List ℕ) (fine : Bool) (new : List (List ℕ)) where
  pub checks_fine : lowest (plan_checks held drops fine new) ≡ 0 → PlanFine held drops fine new
  checks_fine e =
      let spent = leb last_epoch held.epoch in
      let bad = bad_drops drops new || not fine in
      let lost = emptied drops held.sets in
      let many = ltb sets_limit (length held.sets + length new) in
      let full = many || ltb ranges_limit (length held.spans + new_ranges new) in
      let r₁ = cond_zero spent 15 (cond bad 10 (cond lost 13 (cond full 14 0))) (omega arith) e in
      let r₂ = cond_zero bad 10 (cond lost 13 (cond full 14 0)) (omega arith) r₁.1 in
      let r₃ = cond_zero lost 13 (cond full 14 0) (omega arith) r₂.1 in
      let r₄ = cond_zero full 14 0 (omega arith) r₃.1 in
      let b = or_false (bad_drops drops new) (not fine) r₂.0 in
      let f = or_false many (ltb ranges_limit (length held.spans + new_ranges new)) r₄.0 in
      record {
        epoch_left = leb-false _ _ r₁.0;
        drops_good = b.0;
        new_good = not-false fine b.1;
        none_lost = r₃.0;
        sets_fit = ltb-false _ _ f.0;
        spans_fit = ltb-false _ _ f.1;
      }

  pub fine_checks : PlanFine held drops fine new → lowest (plan_checks held drops fine new) ≡ 0
  fine_checks p = rw (lt-leb _ _ p.epoch_left, p.drops_good, p.new_good, p.none_lost, le-ltb _ _ p.sets_fit, le-ltb _ _ p.spans_fit)

-- ---- a reorganise that is not refused

pub record Reorganises (held : Layout) (drops : List ℕ) (w : Wish) : Type 0 where
  pub held_good : good_value held ≡ true
  pub wish_good : good_wish w ≡ true
  pub plan : plan_answer (lay_of held) drops (new_of w) ≡ 0

pub reorganise_fine : (held : Layout) (drops : List ℕ) (w : Wish) → reorganise_answer held drops w ≡ 0 → Reorganises held drops w
unfolding reorganise_answer plan_answer
reorganise_fine held drops w e =
    let r = cond_zero (not (good_value held)) 10 (lowest (plan_checks (lay_of held) drops (good_wish w) (new_of w))) (omega arith) e in
    let p = checks_fine (lay_of held) drops (good_wish w) (new_of w) r.1 in
    let g = wish_sets (take w.count w.sets) p.new_good in
    record {
      held_good = not-false (good_value held) r.0;
      wish_good = p.new_good;
      plan = fine_checks (lay_of held) drops (good_sets (new_of w)) (new_of w)
          (record { epoch_left = p.epoch_left; drops_good = p.drops_good; new_good = g; none_lost = p.none_lost; sets_fit = p.sets_fit; spans_fit = p.spans_fit });
    }

pub fine_reorganise : (held : Layout) (drops : List ℕ) (w : Wish) → Reorganises held drops w → reorganise_answer held drops w ≡ 0
unfolding reorganise_answer plan_answer
fine_reorganise held drops w r =
    let p = checks_fine (lay_of held) drops (good_sets (new_of w)) (new_of w) r.plan in
    rw r.held_good
    (fine_checks (lay_of held) drops (good_wish w) (new_of w)
    (record { epoch_left = p.epoch_left; drops_good = p.drops_good; new_good = r.wish_good; none_lost = p.none_lost; sets_fit = p.sets_fit; spans_fit = p.spans_fit }))

-- ---- what is answered

pub planned_fine : (held : Layout) (drops : List ℕ) (w : Wish) (l : Layout) → reorganise_answer held drops w ≡ 0 → l ≡ value_of (planned (lay_of held) drops (new_of w) 0) → record { answer = 0; layout = l } ≡ planned_for held drops w
unfolding planned_for
planned_fine held drops w l e f = sym (rw (e, f))
