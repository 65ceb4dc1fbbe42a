-- After any moves: each unit has its number, and at most 32 letters lie in the bag.
-- Rests on specs/Runs and the yard's rules.
use mathlib.Core.Path.{◌≡◌, refl, ap, subst}
use Prim.Native.Nat.{ℕ, ◌+◌, ◌-◌, ◌≤◌}
use native.Mathlib.Omega.{arith}
use lib.ListN.{get_or}
use Rattle.layout.specs.declared.Layout.{Layout}
use Rattle.unit.specs.State.{State}
use Rattle.unit.specs.Unit.{fresh_unit}
use Rattle.rule.specs.World.{unit_at}
use Rattle.rule.specs.Fresh.{fresh_units, fresh_world}
use Rattle.vouch.specs.Runs.{Moves, world, world_by}
use Rattle.vouch.specs.Runs.Moves.{none, ◌▸◌}
use Rattle.vouch.proofs.Coming.{fresh_unit_lem}
use Rattle.rule.proofs.Tidy.{Tidy, step_tidy}

fresh_number_lem : (l : Layout) (u : ℕ) → 1 ≤ u → u ≤ 8 → (unit_at (fresh_world l) u).number ≡ u
unfolding fresh_world
fresh_number_lem l u low high =
    let at : 1 + (u - 1) ≡ u = omega arith in
    ap (λ (s : State). s.number) (subst (λ j. get_or (fresh_units 1 8) (u - 1) (fresh_unit j) ≡ fresh_unit j) at (fresh_unit_lem 8 1 (u - 1)))

fresh_tidy : (l : Layout) → Tidy (fresh_world l)
unfolding fresh_world fresh_units
fresh_tidy l = record { eight = refl; numbers = λ u low high. fresh_number_lem l u low high; few = omega arith }

pub tidy : (l : Layout) (ms : Moves) → Tidy (world l ms)
unfolding world_by
tidy l none = fresh_tidy l
tidy l (ms ▸ m) = step_tidy (world l ms) (tidy l ms) m.does m.job
