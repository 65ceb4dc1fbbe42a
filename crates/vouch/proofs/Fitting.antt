-- The yard keeps its layout's shape, and what an append asks for fits into a unit of it.
-- Rests on the rule's Shaping and on Begun.
use mathlib.Core.Path.{◌≡◌, refl, ap, subst, ◌∙◌}
use mathlib.Core.Bool.{false}
use Prim.Native.Nat.{ℕ, ◌≤◌}
use borrow.Author.Tests.{ltb-false}
use lib.Dec.{ltb}
use Rattle.num.proofs.Tests.{or_false}
use Rattle.layout.specs.declared.Layout.{Layout}
use Rattle.unit.specs.Shape.{shape_for}
use Rattle.client.specs.declared.Work.TheVariants.{Append}
use Rattle.client.specs.declared.state.Job.{Job}
use Rattle.rule.specs.declared.Step.{Step}
use Rattle.rule.specs.World.{shape_under}
use Rattle.rule.specs.Steps.{step}
use Rattle.rule.specs.Fresh.{fresh_world}
use Rattle.rule.proofs.Shaping.{begin_short, step_shape}
use Rattle.vouch.specs.Runs.{Move, Moves, world, world_by}
use Rattle.vouch.specs.Runs.Moves.{none, ◌▸◌}
use Rattle.vouch.specs.Operations.{Begins, UnderWay, Ends}
use Rattle.vouch.specs.Operations.UnderWay.{begun, still}
use Rattle.vouch.specs.Operations.Ends.{later, at_once}
use Rattle.vouch.proofs.Begun.{begin_number_lem}

pub shape_kept : (l : Layout) (ms : Moves) → (world l ms).held.shape ≡ l.shape
unfolding world_by fresh_world
shape_kept l none = refl
shape_kept l (ms ▸ m) = step_shape (world l ms) m.does m.job ∙ shape_kept l ms

module _ (l : Layout) where
  pub begins_fit : {ms : Moves} {m : Move} {c : ℕ} {j : Job} → Begins step l ms m c j → j.work ≡ Append → j.len ≤ (shape_under l).cap
  begins_fit {ms} {m} {c} {j} b is =
      let w = world l ms in
      let cap = (shape_under w.held).cap in
      let fine = subst (λ (s : Step). (step w s m.job).answer ≡ 0) b.does_begin b.not_refused in
      let fits : m.job.len ≤ cap = begin_short w c m.job (ap (λ (k : Job). k.work) b.job_is ∙ is) (begin_number_lem w c m.job fine) in
      subst (λ (code : ℕ). j.len ≤ (shape_for code).cap) (shape_kept l ms) (subst (λ (k : Job). k.len ≤ cap) b.job_is fits)

  under_fit : {c : ℕ} {j : Job} {ms : Moves} → UnderWay step l c j ms → j.work ≡ Append → j.len ≤ (shape_under l).cap
  under_fit (begun b not_ended) is = begins_fit b is
  under_fit (still way leaves) is = under_fit way is

  pub ends_fit : {ms : Moves} {m : Move} {c : ℕ} {j : Job} → Ends step l ms m c j → j.work ≡ Append → j.len ≤ (shape_under l).cap
  ends_fit (later way who) is = under_fit way is
  ends_fit (at_once b who) is = begins_fit b is
