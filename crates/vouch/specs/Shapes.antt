-- All that the log vouches for, in a yard whose units are of one shape: payload and slot count are those of sh. `proofs/Shapes` proves it once, of the shape of any layout
-- (`vouched`), and cites that for both kinds of yard by name (`small_yard`, `large_yard`).
-- Rests on Demand, LastSentence and Lending.
use Rattle.std.specs.Prelude.{◌≡◌, true, ℕ, ◌≤◌}
use Rattle.layout.specs.declared.Layout.{Layout}
use Rattle.unit.specs.declared.shape.Shape.{Shape}
use Rattle.unit.specs.Memory.{valid}
use Rattle.rule.specs.World.{shape_under, unit_at}
use Rattle.rule.specs.Steps.{step}
use Rattle.vouch.specs.Runs.{Moves, world}
use Rattle.vouch.specs.Demand.{Demand3}
use Rattle.vouch.specs.Lending.{Lends}
use Rattle.vouch.specs.LastSentence.{LastSentence}

pub record Vouched (sh : Shape) (l : Layout) : Type 0 where
  -- whatever moves are made, the yard is of that shape, and so is each of its units: so many slots at most, so many bytes in each
  pub shape_is : (ms : Moves) → shape_under (world l ms).held ≡ sh
  pub units_are : (ms : Moves) (u : ℕ) → 1 ≤ u → u ≤ 8 → valid sh (unit_at (world l ms) u) ≡ true
  -- demand 3 of the yard's rule, and its last sentence
  pub demand_3 : Demand3 step sh.cap l
  pub last_sentence : LastSentence step l
  -- and these runs are those of the public step
  pub lends : (ms : Moves) → Lends l ms
