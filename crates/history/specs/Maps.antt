-- Layouts, as far as safety needs them: a map from positions to sets. A layout's value enters the history only through this file.
-- Rests on Words.
use Rattle.std.specs.Prelude.{◌≤◌, ◌<◌, List}
use Rattle.history.specs.Words.{UnitNo, Pos, Epoch, ◌∈◌, Rising}

-- What a layout says: its epoch, its units, where its last range starts, and the set of each position, from head to tail.
pub record Map : Type 0 where
  pub epoch : Epoch
  pub units : List UnitNo
  pub start : Pos
  pub set : Pos → List UnitNo

-- u is a unit of the layout
abbrev pub Has : Map → UnitNo → Type 0
Has L u = u ∈ L.units

-- u is a unit of p's set
abbrev pub Serves : Map → Pos → UnitNo → Type 0
Serves L p u = u ∈ L.set p

-- What a good layout gives: units rise inside each set, and the units of a set are in the unit section.
pub record Good (L : Map) : Type 0 where
  pub set_rises : (p : Pos) → Rising (L.set p)
  pub set_within : (p : Pos) (u : UnitNo) → Serves L p u → Has L u

-- ---- from a layout to the next

-- p lies in a range that `new` has and `old` has not: it starts above the last old start
pub record Renewed (old new : Map) (p : Pos) : Type 0 where
  pub more : old.start < new.start
  pub from : new.start ≤ p

-- What a lawful successor gives. Where the range is not new, p's set is made of its old set; and of each old set some unit stays in the layout.
-- `source p u` is the unit of the old set whose marks u has at p: u itself, or the unit that a joiner's copy was made of.
-- The sources stay in the layout, and stand in the order of the set.
pub record Successor (old new : Map) : Type 0 where
  pub source : Pos → UnitNo → UnitNo
  pub source_served : (p : Pos) (u : UnitNo) → ¬ Renewed old new p → Serves new p u → Serves old p (source p u)
  pub source_has : (p : Pos) (u : UnitNo) → ¬ Renewed old new p → Serves new p u → Has new (source p u)
  pub source_order : (p : Pos) (u v : UnitNo) → ¬ Renewed old new p → Serves new p u → Serves new p v → u < v → source p u ≤ source p v
  pub kept : Pos → UnitNo
  pub kept_served : (p : Pos) → Serves old p (kept p)
  pub kept_stays : (p : Pos) → Has new (kept p)
