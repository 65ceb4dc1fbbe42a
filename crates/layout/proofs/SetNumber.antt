-- Laws of `placed`, `set_number` and `set_at`: every position has a good set, and every range uses one.
use Prim.Native.Nat.{ℕ, ◌+◌, ◌-◌, ◌%◌, ◌<◌, ◌≤◌}
use mathlib.Core.Bool.{Bool, true, false, cond}
use mathlib.Core.List.{List, [], ◌∷◌, map}
use mathlib.Core.Path.{◌≡◌}
use native.Mathlib.Nat.{mod-lt}
use native.Mathlib.Omega.{arith}
use lib.Dec.{leb}
use lib.ListN.{length, get_or, length-map}
use Rattle.std.proofs.lemmas.List.{get_or-map}
use Rattle.num.proofs.Tests.{false_true}
use Rattle.layout.specs.declared.Range.{Range}
use Rattle.layout.specs.Lay.{Span, Lay, good_spans, used, first_at_zero, good_set}
use Rattle.layout.specs.Value.{span_in}
use Rattle.layout.specs.Places.{placed, set_number, set_at}
use Rattle.layout.proofs.GoodLay.{Good}
use Rattle.layout.proofs.GoodSets.{set_good}
use Rattle.layout.proofs.GoodSpans.{no_span, is_good_span, span_uses}

-- ---- every position has a set

placed_below : (low : ℕ) (ss : List Span) (before found p n : ℕ) → good_spans low ss ≡ true → found < n → before + used ss ≤ n → placed ss before found p < n
unfolding placed used
placed_below low [] before found p n g h k = h
placed_below low (s ∷ ss) before found p n g h k = placed_below (s.start + 1) ss (before + s.uses) _ p n (is_good_span low s ss g).rest (go (leb s.start p)) (omega arith)
  where
    go : (b : Bool) → cond b (before + (p - s.start) % s.uses) found < n
    go true = omega (arith, mod-lt (p - s.start) (is_good_span low s ss g).some)
    go false = h

used_some : (ss : List Span) → first_at_zero ss ≡ true → good_spans 0 ss ≡ true → 0 < used ss
unfolding used first_at_zero
used_some [] z g = absurd (false_true z)
used_some (s ∷ ss) z g = omega (arith, (is_good_span 0 s ss g).some)

module _ (l : Lay) (g : Good l) where
  pub sets_some : 1 ≤ length l.sets
  sets_some = omega (arith, used_some l.spans g.first_zero g.spans_good, g.all_used)

  pub number_below : (p : ℕ) → set_number l p < length l.sets
  unfolding set_number
  number_below p = placed_below 0 l.spans 0 0 p (length l.sets) g.spans_good sets_some (omega (arith, g.all_used))

  pub set_at_good : (p : ℕ) → good_set (set_at l p) ≡ true
  unfolding set_at
  set_at_good p = set_good l.sets (set_number l p) g.sets_good (number_below p)

-- every range uses a set
pub uses_some : (ranges : List Range) (i : ℕ) (d : Range) → good_spans 0 (map span_in ranges) ≡ true → i < length ranges → 1 ≤ (get_or ranges i d).sets
uses_some ranges i d g h = rw (get_or-map span_in ranges i d no_span h) at (span_uses 0 (map span_in ranges) i g (rw length-map h))
