-- Laws of `good_value`: the tests of `is_good` together are the rule.
use Prim.Native.Nat.{ℕ, zero, suc, ◌<◌, ◌≤◌}
use mathlib.Core.Bool.{Bool, true, ◌&&◌}
use mathlib.Core.List.{List, [], ◌∷◌, map}
use mathlib.Core.Path.{◌≡◌, refl, sym, ◌∙◌}
use native.Mathlib.Omega.{arith}
use borrow.Author.Tests.{le-leb, leb-true, eqb-true, eq-eqb}
use lib.Dec.{eqb, leb}
use lib.ListN.{length, get_or, take, drop}
use Rattle.num.specs.Limits.{last_epoch}
use Rattle.num.proofs.Tests.{and_both}
use Rattle.num.proofs.Bools.{and_intro, same_test}
use Rattle.layout.specs.declared.Layout.{Layout}
use Rattle.layout.specs.declared.Range.{Range}
use Rattle.layout.specs.Lay.{good, first_at_zero, good_sets, good_spans, used}
use Rattle.layout.specs.Value.{span_in, lay_of, tidy_chains, blank_ranges, tidy, good_value}
use Rattle.layout.proofs.GoodLay.{nine, Good, good_says, says_good}
use Rattle.layout.proofs.Tidy.{Tidy, tidy_says, says_tidy}
use Rattle.layout.proofs.ValueOf.{sets_counted, spans_counted}

pub first_range : (m : ℕ) (d : Range) (rs : List Range) → 0 < length rs → first_at_zero (map span_in (take m rs)) ≡ (leb 1 m && eqb (get_or rs 0 d).start.0 0)
unfolding first_at_zero
first_range m d [] h = absurd (omega arith)
first_range zero d (r ∷ rs) h = refl
first_range (suc m) d (r ∷ rs) h = rw (le-leb 1 (suc m) (omega arith))

-- the tests in the order in which the code makes them
abbrev pub tests : Layout → Range → Bool
tests l d =
    leb 1 l.epoch.0 && leb l.shape 1 && leb l.set_count 16 && leb 1 l.range_count && leb l.range_count 8 && eqb (get_or l.ranges 0 d).start.0 0
    && (good_sets (lay_of l).sets && tidy_chains l.set_count l.sets) && (good_spans 0 (lay_of l).spans && blank_ranges (drop l.range_count l.ranges))
    && eqb (used (lay_of l).spans) l.set_count

module _ (l : Layout) (d : Range) (room : length l.sets ≡ 16) (spans_room : length l.ranges ≡ 8) where
  first_is : first_at_zero (lay_of l).spans ≡ (leb 1 l.range_count && eqb (get_or l.ranges 0 d).start.0 0)
  unfolding lay_of
  first_is = first_range l.range_count d l.ranges (omega arith)

  enough : l.epoch.0 ≤ last_epoch → tests l d ≡ true → good_value l ≡ true
  unfolding good_value lay_of
  enough fits h =
      let t = nine (leb 1 l.epoch.0) (leb l.shape 1) (leb l.set_count 16) (leb 1 l.range_count) (leb l.range_count 8) (eqb (get_or l.ranges 0 d).start.0 0)
      (good_sets (lay_of l).sets && tidy_chains l.set_count l.sets) (good_spans 0 (lay_of l).spans && blank_ranges (drop l.range_count l.ranges))
      (eqb (used (lay_of l).spans) l.set_count) h in
      let few : l.set_count ≤ 16 = leb-true _ _ t.2 in
      let spans_few : l.range_count ≤ 8 = leb-true _ _ t.4 in
      let sets = and_both (good_sets (lay_of l).sets) (tidy_chains l.set_count l.sets) t.6 in
      let spans = and_both (good_spans 0 (lay_of l).spans) (blank_ranges (drop l.range_count l.ranges)) t.7 in
      let counted : length (lay_of l).sets ≡ l.set_count = sets_counted l (omega arith) in
      let spans_are : length (lay_of l).spans ≡ l.range_count = spans_counted l (omega arith) in
      and_intro (good (lay_of l)) (tidy l)
      (says_good (lay_of l) (record {
        low = leb-true _ _ t.0;
        high = fits;
        known = leb-true _ _ t.1;
        sets_few = rw counted few;
        spans_few = rw spans_are spans_few;
        sets_good = sets.0;
        first_zero = first_is ∙ and_intro (leb 1 l.range_count) (eqb (get_or l.ranges 0 d).start.0 0) t.3 t.5;
        spans_good = spans.0;
        all_used = eqb-true _ _ t.8 ∙ sym counted;
      }))
      (says_tidy l (record { room = room; few = few; chains = sets.1; spans_room = spans_room; spans_few = spans_few; blanks = spans.1 }))

  needed : good_value l ≡ true → tests l d ≡ true
  unfolding good_value lay_of
  needed h =
      let p = and_both (good (lay_of l)) (tidy l) h in
      let g : Good (lay_of l) = good_says (lay_of l) p.0 in
      let t : Tidy l = tidy_says l p.1 in
      let first = and_both (leb 1 l.range_count) (eqb (get_or l.ranges 0 d).start.0 0) (sym first_is ∙ g.first_zero) in
      let counted : length (lay_of l).sets ≡ l.set_count = sets_counted l (omega (arith, t)) in
      rw (le-leb 1 l.epoch.0 g.low, le-leb l.shape 1 g.known, le-leb l.set_count 16 t.few, first.0, le-leb l.range_count 8 t.spans_few, first.1)
      (rw (g.sets_good, t.chains, g.spans_good, t.blanks) (eq-eqb (used (lay_of l).spans) l.set_count (g.all_used ∙ counted)))

  pub decided : l.epoch.0 ≤ last_epoch → tests l d ≡ good_value l
  decided fits = same_test (tests l d) (good_value l) (enough fits) needed
