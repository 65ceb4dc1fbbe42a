-- Demand 3 over the yard's shape: `vouched` of any good layout of epoch 1, and by name for a yard of small units and for one of large units.
-- Rests on Stated, Closing, Lending and Fitting.
use mathlib.Core.Path.{◌≡◌, ap, subst, ◌∙◌}
use mathlib.Core.Bool.{true}
use Prim.Native.Nat.{ℕ}
use Rattle.layout.specs.declared.Layout.{Layout}
use Rattle.layout.specs.Value.{good_value}
use Rattle.unit.specs.declared.shape.Shape.{Shape}
use Rattle.unit.specs.Shape.{small, large, shape_for}
use Rattle.unit.specs.Memory.{valid}
use Rattle.unit.proofs.Shapes.{small_known, large_known}
use Rattle.rule.specs.World.{shape_under, unit_at}
use Rattle.vouch.specs.Runs.{world}
use Rattle.vouch.specs.Shapes.{Vouched}
use Rattle.vouch.proofs.Coming.{come}
use Rattle.vouch.proofs.Fitting.{shape_kept}
use Rattle.vouch.proofs.Stated as stated
use Rattle.vouch.proofs.Closing as closing
use Rattle.vouch.proofs.Lending as lending

-- ---- any yard

-- WHATEVER THE SHAPE OF ITS UNITS, A YARD MEETS DEMAND 3
pub vouched : (l : Layout) → good_value l ≡ true → l.epoch.0 ≡ 1 → Vouched (shape_under l) l
vouched l good first = record {
  shape_is = λ ms. ap shape_for (shape_kept l ms);
  units_are = λ ms u low high. subst (λ (code : ℕ). valid (shape_for code) (unit_at (world l ms) u) ≡ true) (shape_kept l ms) ((come l good first ms).good.machines.units u low high).stays_valid;
  demand_3 = stated.demand_3 l good first;
  last_sentence = closing.last_sentence l good first;
  lends = lending.lends l good first;
}

-- ---- and the two kinds

-- small: 128 slots of at most 32 bytes
pub small_yard : (l : Layout) → good_value l ≡ true → l.epoch.0 ≡ 1 → l.shape ≡ 0 → Vouched small l
small_yard l good first is = subst (λ (sh : Shape). Vouched sh l) (ap shape_for is ∙ small_known) (vouched l good first)

-- large: 64 slots of at most 80 bytes
pub large_yard : (l : Layout) → good_value l ≡ true → l.epoch.0 ≡ 1 → l.shape ≡ 1 → Vouched large l
large_yard l good first is = subst (λ (sh : Shape). Vouched sh l) (ap shape_for is ∙ large_known) (vouched l good first)
