-- Laws of `started_at`: the start of a plan's new range, and what is answered for any value.
use Prim.Native.Nat.{ℕ, ◌-◌, ◌<◌}
use mathlib.Core.Bool.{true, false, ◌&&◌, cond}
use mathlib.Core.List.{List, map}
use mathlib.Core.Path.{◌≡◌, sym, ap}
use borrow.Author.Tests.{ltb-true}
use lib.Dec.{eqb, ltb, leb}
use lib.ListN.{length, get_or, length-map, get_or-map}
use Rattle.num.specs.declared.Edges.{Edges}
use Rattle.num.specs.Limits.{limit}
use Rattle.num.proofs.Tests.{and_both}
use Rattle.layout.specs.declared.Range.{Range}
use Rattle.layout.specs.declared.Layout.{Layout}
use Rattle.layout.specs.Lay.{Span}
use Rattle.layout.specs.Value.{span_in, no_range, lay_of, blank}
use Rattle.layout.specs.Plan.{start_at, ends_open, open_start, start_set, settle_answer, settled, settled_first, started_at}

-- the start of a range of the layout
pub start_in : (rs : List Range) (k : ℕ) → start_at (map span_in rs) k ≡ (get_or rs k no_range).start.0
start_in rs k = ap (λ (t : Span). t.start) (get_or-map span_in rs k no_range)

pub before_in : (rs : List Range) → start_at (map span_in rs) (length (map span_in rs) - 2) ≡ (get_or rs (length rs - 2) no_range).start.0
before_in rs = rw (length-map rs span_in) (start_in rs (length rs - 2))

-- the layout's last range is open where it is not the first, and starts at 0
pub open_is : (rs : List Range) → ends_open (map span_in rs) ≡ (ltb 1 (length rs) && eqb (get_or rs (length rs - 1) no_range).start.0 0)
unfolding ends_open
open_is rs = rw (length-map rs span_in, start_in rs (length rs - 1))

pub open_many : (ss : List Span) → ends_open ss ≡ true → 1 < length ss
unfolding ends_open
open_many ss e = ltb-true 1 (length ss) (and_both (ltb 1 (length ss)) (eqb (start_at ss (length ss - 1)) 0) e).0

module _ (plan : Layout) (edges : Edges) where
  pub started_same : ends_open (lay_of plan).spans ≡ false → record { answer = 0; layout = plan; first = edges.written } ≡ started_at plan edges
  unfolding started_at settle_answer settled settled_first
  started_same e = sym (rw e)

  -- an open range, its start known
  pub started_open : (start : ℕ) (l : Layout) → ends_open (lay_of plan).spans ≡ true → open_start (lay_of plan).spans edges.edge.0 ≡ start → start_set (length (lay_of plan).spans - 1) start plan ≡ l
      → started_at plan edges ≡ record {
        answer = cond (leb limit start) 9 0;
        layout = cond (eqb (cond (leb limit start) 9 0) 0) l blank;
        first = record { 0 = cond (eqb (cond (leb limit start) 9 0) 0) start 0 };
      }
  unfolding started_at settle_answer settled settled_first
  started_open start l e s b = rw (e, s, b)
