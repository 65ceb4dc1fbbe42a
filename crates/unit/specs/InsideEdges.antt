-- How far the slots that were written reach: a name for the promise of the function that passes over the stray ones.
use Rattle.std.specs.Prelude.{◌≡◌, ℕ, ◌≤◌, List, drop}
use Rattle.unit.specs.Shape.{Shape}
use Rattle.unit.specs.State.{last_end, written_end}
use Rattle.unit.specs.Memory.{slots_at, count_of}

-- the last of the first n slots is the last one that was written
pub record WrittenUpTo (sh : Shape) (m : List ℕ) (n : ℕ) : Type 0 where
  pub few : n ≤ count_of m
  pub last : last_end (slots_at sh.cap n (drop 24 m)) ≡ written_end (slots_at sh.cap (count_of m) (drop 24 m))
