-- Laws of `good_spans`: the ranges of a good layout, one by one.
use Prim.Native.Nat.{ℕ, zero, suc, ◌+◌, ◌<◌, ◌≤◌}
use mathlib.Core.Bool.{true, ◌&&◌}
use mathlib.Core.List.{List, [], ◌∷◌}
use mathlib.Core.Path.{◌≡◌}
use native.Mathlib.Omega.{arith}
use borrow.Author.Tests.{leb-true, ltb-true}
use lib.Dec.{ltb, leb}
use lib.ListN.{length, get_or}
use Rattle.num.specs.Limits.{limit}
use Rattle.num.proofs.Tests.{and_both}
use Rattle.layout.specs.Lay.{Span, good_spans}

-- the first range of those from `low` on
pub record GoodSpan (low : ℕ) (s : Span) (ss : List Span) : Type 0 where
  pub from : low ≤ s.start
  pub below : s.start < limit
  pub some : 1 ≤ s.uses
  pub rest : good_spans (s.start + 1) ss ≡ true

pub is_good_span : (low : ℕ) (s : Span) (ss : List Span) → good_spans low (s ∷ ss) ≡ true → GoodSpan low s ss
unfolding good_spans
is_good_span low s ss g =
    let r = and_both (leb low s.start && ltb s.start limit && leb 1 s.uses) (good_spans (s.start + 1) ss) g in
    let q = and_both (leb low s.start && ltb s.start limit) (leb 1 s.uses) r.0 in
    let o = and_both (leb low s.start) (ltb s.start limit) q.0 in
    record { from = leb-true _ _ o.0; below = ltb-true _ _ o.1; some = leb-true _ _ q.1; rest = r.1 }

abbrev pub no_span : Span
no_span = record { start = 0; uses = 0 }

-- every range uses a set
pub span_uses : (low : ℕ) (ss : List Span) (k : ℕ) → good_spans low ss ≡ true → k < length ss → 1 ≤ (get_or ss k no_span).uses
span_uses low [] k g h = absurd (omega arith)
span_uses low (s ∷ ss) zero g h = (is_good_span low s ss g).some
span_uses low (s ∷ ss) (suc k) g h = span_uses (s.start + 1) ss k (is_good_span low s ss g).rest (omega arith)
