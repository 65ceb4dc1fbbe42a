-- What a reorganise makes of a layout: units to drop, and new sets if wanted (docs/RULES.md, 8.3).
use Rattle.std.specs.Prelude.{ℕ, ◌+◌, ◌-◌, max, Bool, true, false, ◌&&◌, ◌||◌, not, cond, List, [], ◌∷◌, ◌++◌, map, leb, ltb, eqb, length, get_or, take, set, Result}
use Rattle.num.specs.declared.Edges.{Edges}
use Rattle.num.specs.declared.Position.{Position}
use Rattle.num.specs.declared.refusal.Refusal.{Refusal}
use Rattle.num.specs.Refusals.{answered, given}
use Rattle.num.specs.Limits.{limit, last_epoch}
use Rattle.num.specs.Checks.{Check, lowest, ◌if◌}
use Rattle.layout.specs.declared.Chain.{Chain}
use Rattle.layout.specs.declared.Layout.{Layout}
use Rattle.layout.specs.declared.Wish.{Wish}
use Rattle.layout.specs.declared.plan.Started.{Started}
use Rattle.layout.specs.Lay.{Span, Lay, good_set, good_sets, ◌in?◌, in_sets, sets_limit, ranges_limit, unit_limit}
use Rattle.layout.specs.Value.{no_range, units_in, chain_of, lay_of, value_of, blank, tidy_chain, good_value}

-- us without the units to drop
unfoldable pub without : List ℕ → List ℕ → List ℕ
without drops [] = []
without drops (u ∷ us) = cond (u in? drops) (without drops us) (u ∷ without drops us)

-- a unit to drop is outside 1 to 8, or also named in a new set
unfoldable pub bad_drops : List ℕ → List (List ℕ) → Bool
bad_drops [] new = false
bad_drops (u ∷ us) new = not (leb 1 u && leb u unit_limit) || in_sets u new || bad_drops us new

-- dropping would empty a set
unfoldable pub emptied : List ℕ → List (List ℕ) → Bool
emptied drops [] = false
emptied drops (us ∷ sets) = eqb (length (without drops us)) 0 || emptied drops sets

-- one range more where there are new sets
abbrev pub new_ranges : List (List ℕ) → ℕ
new_ranges [] = 0
new_ranges (us ∷ sets) = 1

-- "Reorganise checks 15, 10, 13, 14 before it seals anything"; `fine`: the new sets are good
abbrev pub plan_checks : Lay → List ℕ → Bool → List (List ℕ) → List Check
plan_checks held drops fine new =
    15 if leb last_epoch held.epoch
    ∷ 10 if (bad_drops drops new || not fine)
    ∷ 13 if emptied drops held.sets
    ∷ 14 if (ltb sets_limit (length held.sets + length new) || ltb ranges_limit (length held.spans + new_ranges new))
    ∷ []

unfoldable pub plan_answer : Lay → List ℕ → List (List ℕ) → ℕ
plan_answer held drops new = lowest (plan_checks held drops (good_sets new) new)

-- the new range, if any, at a start
abbrev pub new_spans : ℕ → List (List ℕ) → List Span
new_spans start [] = []
new_spans start (us ∷ sets) = record { start = start; uses = length (us ∷ sets) } ∷ []

-- the new layout, its new range's start given
unfoldable pub planned : Lay → List ℕ → List (List ℕ) → ℕ → Lay
planned held drops new start = record {
  epoch = held.epoch + 1;
  shape = held.shape;
  sets = map (without drops) held.sets ++ new;
  spans = held.spans ++ new_spans start new;
}

unfoldable pub last_start : List Span → ℕ
last_start [] = 0
last_start (s ∷ []) = s.start
last_start (s ∷ t ∷ ts) = last_start (t ∷ ts)

-- the new range starts at the largest of all edges and the last start plus 1
unfoldable pub new_start : Lay → ℕ → ℕ
new_start held edge = max edge (last_start held.spans + 1)

-- 9: a new range would start at 2^40
unfoldable pub start_answer : Lay → List (List ℕ) → ℕ → ℕ
start_answer held [] edge = 0
start_answer held (us ∷ sets) edge = lowest (9 if leb limit (new_start held edge) ∷ [])

-- where the sequencer is started: the largest written edge, or the new range's start
unfoldable pub first_free : Lay → List (List ℕ) → Edges → ℕ
first_free held [] edges = edges.written.0
first_free held (us ∷ sets) edges = new_start held edges.edge.0

-- ---- for every value: the plan

-- the set without the units to drop
abbrev pub thinned : List ℕ → Chain → Chain
thinned drops c = chain_of (without drops (units_in c))

-- the new sets that are wanted: those past the count are not looked at
abbrev pub new_of : Wish → List (List ℕ)
new_of w = map units_in (take w.count w.sets)

-- each is a good set, and its chain blank past the units
unfoldable pub good_chains : List Chain → Bool
good_chains [] = true
good_chains (c ∷ cs) = good_set (units_in c) && tidy_chain c && good_chains cs

abbrev pub good_wish : Wish → Bool
good_wish w = good_chains (take w.count w.sets)

-- 10 where the held layout is not good, and then the checks in the order of docs/RULES.md, 8.3
unfoldable pub reorganise_answer : Layout → List ℕ → Wish → ℕ
reorganise_answer held drops w = lowest (10 if not (good_value held) ∷ plan_checks (lay_of held) drops (good_wish w) (new_of w))

-- an answer, and the new layout, the start of its new range still open
pub record Planned : Type 0 where
  pub answer : ℕ
  pub layout : Layout

abbrev pub planned_in : Result Layout Refusal → Planned
planned_in r = record { answer = answered r; layout = given blank r }

-- the new layout, the start of its new range still open: 0; none where it is refused
unfoldable pub planned_for : Layout → List ℕ → Wish → Planned
planned_for held drops w = record {
  answer = reorganise_answer held drops w;
  layout = cond (eqb (reorganise_answer held drops w) 0) (value_of (planned (lay_of held) drops (new_of w) 0)) blank;
}

-- ---- for every value: the start of the new range

-- where the range numbered k starts
abbrev pub start_at : List Span → ℕ → ℕ
start_at ss k = (get_or ss k (record { start = 0; uses = 0 })).start

-- the last range is open where it is not the first and its start is 0
unfoldable pub ends_open : List Span → Bool
ends_open ss = ltb 1 (length ss) && eqb (start_at ss (length ss - 1)) 0

-- the open range starts at the largest of all edges and the start before it plus 1
unfoldable pub open_start : List Span → ℕ → ℕ
open_start ss edge = max edge (start_at ss (length ss - 2) + 1)

-- the value with the start of its range numbered k set
unfoldable pub start_set : ℕ → ℕ → Layout → Layout
start_set k start l = record {
  epoch = l.epoch;
  shape = l.shape;
  set_count = l.set_count;
  sets = l.sets;
  range_count = l.range_count;
  ranges = set l.ranges k (record { start = record { 0 = start }; sets = (get_or l.ranges k no_range).sets });
}

-- 9: a new range would start at 2^40
unfoldable pub settle_answer : Layout → ℕ → ℕ
settle_answer plan edge = lowest (9 if (ends_open (lay_of plan).spans && leb limit (open_start (lay_of plan).spans edge)) ∷ [])

-- a plan with no open range stays as it is
unfoldable pub settled : Layout → ℕ → Layout
settled plan edge = cond (ends_open (lay_of plan).spans) (start_set (length (lay_of plan).spans - 1) (open_start (lay_of plan).spans edge) plan) plan

-- where the sequencer is started: the largest written edge, or the new range's start
unfoldable pub settled_first : Layout → Edges → ℕ
settled_first plan edges = cond (ends_open (lay_of plan).spans) (open_start (lay_of plan).spans edges.edge.0) edges.written.0

-- an answer, the new layout, and where the sequencer is started
pub record StartAnswer : Type 0 where
  pub answer : ℕ
  pub layout : Layout
  pub first : Position

abbrev pub not_started : Started
not_started = record { layout = blank; first = record { 0 = 0 } }

abbrev pub started_in : Result Started Refusal → StartAnswer
started_in r = record { answer = answered r; layout = (given not_started r).layout; first = (given not_started r).first }

-- the plan with its start set, and where the sequencer is started; none and 0 where it is refused
unfoldable pub started_at : Layout → Edges → StartAnswer
started_at plan edges = record {
  answer = settle_answer plan edges.edge.0;
  layout = cond (eqb (settle_answer plan edges.edge.0) 0) (settled plan edges.edge.0) blank;
  first = record { 0 = cond (eqb (settle_answer plan edges.edge.0) 0) (settled_first plan edges) 0 };
}
