-- What a unit does with a seal: where its answer is fine the event may come, and what it tells is its edge.
-- Rests on UnitIs, Untouched, Edges and the unit's laws.
use mathlib.Core.Path.{◌≡◌, refl, sym, subst, ◌∙◌}
use borrow.Author.Tests.{le-leb}
use Prim.Native.Nat.{◌≤◌}
use native.Mathlib.Omega.{arith}
use Rattle.num.specs.declared.Edges.{Edges}
use Rattle.num.specs.Limits.{last_epoch}
use Rattle.unit.specs.declared.shape.Shape.{Shape}
use Rattle.unit.specs.State.{State}
use Rattle.unit.specs.Unit.{Request, says, after}
use Rattle.unit.specs.Unit.{Request as request}
use Rattle.unit.proofs.Answers.{by_answer, sealable, after_refused}
use Rattle.unit.proofs.Lasting.{lasts, seal_edges}
use Rattle.unit.proofs.Shown.{untouched}
use Rattle.rule.specs.Serve.{edged}
use Rattle.history.specs.Words.{UnitNo, Epoch}
use Rattle.history.specs.History.{History, held}
use Rattle.history.specs.History.Event.{seal}
use Rattle.history.specs.History.History.{◌▹◌}
use Rattle.history.specs.Edges.{EdgeAt}
use Rattle.history.specs.Safety.{Answers}
use Rattle.history.proofs.Units.{seal_touches, answers_on, edge_on, sealed_now}
use Rattle.history.proofs.Edges.{edge_at_now}
use Rattle.vouch.proofs.UnitIs.{answer_of, UnitIs, SealDone}
use Rattle.vouch.proofs.UnitIs.SealDone.{did_seal, no_seal}
use Rattle.vouch.proofs.Untouched.{edge_is}

module _ {sh : Shape} {h : History} {u : UnitNo} {M : State} (is : UnitIs sh h u M) (n : Epoch) (in_force : n ≤ (held h).epoch) (few : n ≤ last_epoch) where
  abbrev asked_seal : Request
  asked_seal = request.seal (record { 0 = n })

  sealed_is_now : says sh M asked_seal ≡ 0 → UnitIs sh (h ▹ seal u n) u (after sh M asked_seal)
  sealed_is_now z =
      let l = lasts sh M is.stays_valid asked_seal (le-leb n last_epoch few) in
      record {
        stays_valid = l.is_valid;
        sealed_is = l.sealed z ∙ sym (sealed_now h u n);
        shown_is = λ p. subst (λ s. Answers (h ▹ seal u n) u p (answer_of s)) (sym (untouched sh M asked_seal p refl)) (answers_on seal_touches (is.shown_is p));
      }

  pub seal_does : SealDone sh h u n (after sh M asked_seal) (edged sh M (record { 0 = n }))
  unfolding edged
  seal_does =
      by_answer (λ r. SealDone sh h u n (after sh M asked_seal) r) (says sh M asked_seal)
      (λ z. did_seal (record { rises = omega (arith, sealable sh M _ z, is.sealed_is); in_force = in_force }) (sealed_is_now z)
      (subst (λ (g : Edges). EdgeAt (h ▹ seal u n) u n g.edge.0) (sym (seal_edges sh M _ z).0) (edge_at_now (edge_on (λ p from. seal_touches) (edge_is is)))))
      (λ k. no_seal k (subst (λ N. UnitIs sh h u N) (sym (after_refused sh M asked_seal k)) is))
