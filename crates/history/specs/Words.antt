-- The words of the log: units, positions, epochs, pages, and units that stand one before the other in a list.
-- Rests on nothing.
use Rattle.std.specs.Prelude.{ℕ, ◌<◌, List, [], ◌∷◌}

abbrev pub UnitNo : Type 0
UnitNo = ℕ

abbrev pub Pos : Type 0
Pos = ℕ

abbrev pub Epoch : Type 0
Epoch = ℕ

-- What is written at a position: junk or data. Junk is no data, and a data page of length 0 is `bytes []`.
pub data Page : Type 0 where
  junk : Page
  bytes : List ℕ → Page

-- what a unit answers to a read that it takes
pub data Answer : Type 0 where
  shows : Page → Answer
  trimmed unwritten : Answer

-- ---- lists of units

-- u is one of us
pub data ◌∈◌ : UnitNo → List UnitNo → Type 0 where
  first : {u : UnitNo} {us : List UnitNo} → u ∈ (u ∷ us)
  next : {u v : UnitNo} {us : List UnitNo} → u ∈ us → u ∈ (v ∷ us)

infix 30 ◌∈◌
-- u stands before v in us
pub data Before (u v : UnitNo) : List UnitNo → Type 0 where
  before_here : {us : List UnitNo} → v ∈ us → Before u v (u ∷ us)
  before_later : {w : UnitNo} {us : List UnitNo} → Before u v us → Before u v (w ∷ us)

-- t is the last of us
pub data Last (t : UnitNo) : List UnitNo → Type 0 where
  last_here : Last t (t ∷ [])
  last_later : {u v : UnitNo} {us : List UnitNo} → Last t (v ∷ us) → Last t (u ∷ v ∷ us)

-- each unit of us is above all that stand before it
pub data Rising : List UnitNo → Type 0 where
  rising_none : Rising []
  rising_more : {u : UnitNo} {us : List UnitNo} → ((v : UnitNo) → v ∈ us → u < v) → Rising us → Rising (u ∷ us)
