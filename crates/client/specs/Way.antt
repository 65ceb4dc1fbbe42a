-- The way of an operation through the layout that it fetched.
use Rattle.std.specs.Prelude.{ℕ, List, take}
use Rattle.num.specs.declared.Edges.{Edges}
use Rattle.layout.specs.declared.Layout.{Layout}
use Rattle.layout.specs.Value.{lay_of}
use Rattle.layout.specs.Places.{head_of, tail_of, after, units_at, next_unit}
use Rattle.layout.specs.Plan.{StartAnswer, Planned, planned_for, started_at}
use Rattle.client.specs.declared.Change.{Change}
use Rattle.client.specs.declared.Client.{Client}

-- the units of the set of the position under way
abbrev pub units_for : Client → List ℕ
units_for c = units_at c.layout c.position.0

abbrev pub head_for : Client → ℕ
head_for c = head_of (units_for c)

abbrev pub tail_for : Client → ℕ
tail_for c = tail_of (units_for c)

-- the unit after u in it; 0 after the tail
abbrev pub after_for : Client → ℕ → ℕ
after_for c u = after u (units_for c)

-- the next unit of a layout, in rising number; 0 after the last
abbrev pub unit_above : Layout → ℕ → ℕ
unit_above l u = next_unit (lay_of l) u

-- ---- of a reorganise

-- the units to drop
abbrev pub drops_of : Change → List ℕ
drops_of h = take h.count h.drops

-- 15, 10, 13 or 14; or 0 and the new layout, but for its new range's start
abbrev pub plan_for : Client → Planned
plan_for c = planned_for c.layout (drops_of c.change) c.change.wish

-- 9; or 0, the new layout whole, and where the sequencer is started. e are the largest edges
abbrev pub start_for : Client → Edges → StartAnswer
start_for c e = started_at c.plan e
