-- Units rise in a set and in the unit section, so the order in which a walk meets them is the order of their numbers.
-- Rests on specs/Words.
use mathlib.Core.List.{List, [], ◌∷◌}
use Prim.Native.Nat.{◌≤◌, ◌<◌}
use native.Mathlib.Omega.{arith}
use Rattle.history.specs.Words.{UnitNo, ◌∈◌, Before, Last, Rising}
use Rattle.history.specs.Words.◌∈◌.{first, next}
use Rattle.history.specs.Words.Before.{before_here, before_later}
use Rattle.history.specs.Words.Last.{last_here, last_later}
use Rattle.history.specs.Words.Rising.{rising_none, rising_more}

pub before_in : {u v : UnitNo} {us : List UnitNo} → Before u v us → u ∈ us
before_in (before_here there) = first
before_in (before_later rest) = next (before_in rest)

pub before_behind : {u v : UnitNo} {us : List UnitNo} → Before u v us → v ∈ us
before_behind (before_here there) = next there
before_behind (before_later rest) = next (before_behind rest)

pub before_less : {u v : UnitNo} {us : List UnitNo} → Rising us → Before u v us → u < v
before_less rising_none b = elim b [ ]
before_less {v = v} (rising_more above rising) (before_here there) = above v there
before_less (rising_more above rising) (before_later rest) = before_less rising rest

pub less_before : {u v : UnitNo} {us : List UnitNo} → Rising us → u ∈ us → v ∈ us → u < v → Before u v us
less_before rising_none u_in _ _ = elim u_in [ ]
less_before (rising_more above rising) first first lt = absurd (omega arith)
less_before (rising_more above rising) first (next v_in) lt = before_here v_in
less_before {u = u} (rising_more above rising) (next u_in) first lt = absurd (omega (arith, above u u_in))
less_before (rising_more above rising) (next u_in) (next v_in) lt = before_later (less_before rising u_in v_in lt)

-- nobody stands before the head
pub head_first : {u v : UnitNo} {us : List UnitNo} → Rising (u ∷ us) → ¬ Before v u (u ∷ us)
head_first {u} (rising_more above rising) (before_here there) = omega (arith, above u there)
head_first {u} (rising_more above rising) (before_later rest) = omega (arith, above u (before_behind rest))

-- the tail is of its set, and no unit of the set is above it
pub last_in : {t : UnitNo} {us : List UnitNo} → Last t us → t ∈ us
last_in last_here = first
last_in (last_later rest) = next (last_in rest)

pub last_above : {t u : UnitNo} {us : List UnitNo} → Rising us → Last t us → u ∈ us → u ≤ t
last_above rising last_here first = omega arith
last_above rising last_here (next u_in) = absurd (none_in u_in)
  where
    none_in : {v : UnitNo} → v ∈ [] → ⊥
    none_in = elim [ ]
last_above {t} (rising_more above rising) (last_later rest) first = omega (arith, above t (last_in rest))
last_above (rising_more above rising) (last_later rest) (next u_in) = last_above rising rest u_in
