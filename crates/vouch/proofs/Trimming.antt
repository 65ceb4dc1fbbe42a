-- What a unit does with a trim and with a prune: where its answer is fine the event may come, also where it changes nothing (a position that is trimmed already,
-- a floor that stands higher), and what it covers is trimmed afterwards, written before or not.
-- Rests on UnitIs, Writing and the unit's laws.
use mathlib.Core.Bool.{true}
use mathlib.Core.Path.{◌≡◌, refl, sym, ap, subst, ◌∙◌}
use Prim.Native.Nat.{ℕ}
use native.Mathlib.Omega.{arith}
use borrow.Author.Tests.{le-ltb, ne_eqb}
use Rattle.unit.specs.declared.shape.Shape.{Shape}
use Rattle.unit.specs.Kinds.{is_gone}
use Rattle.unit.specs.State.{Content, State}
use Rattle.unit.specs.Unit.{Request, says, after}
use Rattle.unit.specs.Unit.{Request as request}
use Rattle.unit.proofs.Answers.{by_answer, trimmable, prunable, after_refused}
use Rattle.unit.proofs.Lasting.{lasts}
use Rattle.unit.proofs.Shown.{shown, untouched, trim_here, prune_here}
use Rattle.rule.specs.Serve.{saying}
use Rattle.history.specs.Words.{UnitNo, Epoch}
use Rattle.history.specs.Words.Answer.{trimmed}
use Rattle.history.specs.History.{History}
use Rattle.history.specs.History.Stretch.{only, up_to}
use Rattle.history.specs.History.Mark.{gone}
use Rattle.history.specs.Events.{Walked, MayMark}
use Rattle.history.proofs.Stretches.{of_only, not_only, up_to_covers, not_up_to}
use Rattle.vouch.proofs.UnitIs.{answer_of, UnitIs, MarkDone}
use Rattle.vouch.proofs.UnitIs.MarkDone.{did_mark, no_mark}
use Rattle.vouch.proofs.Writing.{marked_is, takes_of}

pub gone_answers : (s : Content) → is_gone s.kind ≡ true → answer_of s ≡ trimmed
unfolding answer_of
gone_answers s g = rw g

-- ---- trim

module _ {sh : Shape} {h : History} {u : UnitNo} {M : State} {e : Epoch} (is : UnitIs sh h u M) (p : ℕ) (walked : Walked h u e (only p) gone) where
  abbrev asked_trim : Request
  asked_trim = request.trim (record { 0 = e }) (record { 0 = p })

  may_trim : says sh M asked_trim ≡ 0 → MayMark h u e (only p) gone
  may_trim z = record {
    walked = walked;
    takes = takes_of is walked.laid walked.has walked.epoch_is (trimmable sh M _ _ z).unsealed;
    free = λ q there. tt;
  }

  pub trim_does : MarkDone sh h u e (only p) gone (after sh M asked_trim) (saying (says sh M asked_trim))
  trim_does =
      let l = lasts sh M is.stays_valid asked_trim refl in
      by_answer (λ r. MarkDone sh h u e (only p) gone (after sh M asked_trim) r) (says sh M asked_trim)
      (λ z. did_mark (may_trim z) (marked_is is (may_trim z) (l.is_valid, l.sealed z)
      (of_only (λ q. answer_of (shown (after sh M asked_trim) q) ≡ trimmed) (gone_answers _ (trim_here sh M _ _ is.stays_valid z)))
      (λ q out. untouched sh M asked_trim q (ne_eqb p q (not_only out)))))
      (λ n. no_mark n (subst (λ N. UnitIs sh h u N) (sym (after_refused sh M asked_trim n)) is))

-- ---- prune

module _ {sh : Shape} {h : History} {u : UnitNo} {M : State} {e : Epoch} (is : UnitIs sh h u M) (q : ℕ) (walked : Walked h u e (up_to q) gone) where
  abbrev asked_prune : Request
  asked_prune = request.prune (record { 0 = e }) (record { 0 = q })

  may_prune : says sh M asked_prune ≡ 0 → MayMark h u e (up_to q) gone
  may_prune z = record {
    walked = walked;
    takes = takes_of is walked.laid walked.has walked.epoch_is (prunable sh M _ _ z).unsealed;
    free = λ p there. tt;
  }

  pub prune_does : MarkDone sh h u e (up_to q) gone (after sh M asked_prune) (saying (says sh M asked_prune))
  prune_does =
      let l = lasts sh M is.stays_valid asked_prune refl in
      by_answer (λ r. MarkDone sh h u e (up_to q) gone (after sh M asked_prune) r) (says sh M asked_prune)
      (λ z. did_mark (may_prune z) (marked_is is (may_prune z) (l.is_valid, l.sealed z)
      (λ p there. gone_answers _ (prune_here sh M _ _ p z (up_to_covers there)))
      (λ p out. untouched sh M asked_prune p (le-ltb p q (omega (arith, not_up_to out))))))
      (λ n. no_mark n (subst (λ N. UnitIs sh h u N) (sym (after_refused sh M asked_prune n)) is))
