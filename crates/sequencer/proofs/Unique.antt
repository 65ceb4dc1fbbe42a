-- No second answer meets a promise (that the rules' own answer meets it is `served` of proofs/Laws).
use Rattle.std.proofs.Common.{◌≡◌, Option, None, Some, Result, Ok, Err, refl, sym, ap, ◌∙◌}
use Rattle.num.specs.declared.Position.{Position}
use Rattle.num.specs.declared.refusal.Refusal.{Refusal}
use Rattle.num.proofs.Refusals.{number_above, number_once}
use Rattle.sequencer.specs.Rules.{Told, At, Number, fresh, number_of, position_of, Served, tells_of, told, told_as, fine, placed}
use Rattle.sequencer.specs.declared.Sequencer.{Sequencer}
use Rattle.sequencer.specs.declared.Asked.{Asked}
use Rattle.sequencer.specs.declared.Step.{Step}

-- an answer is known by its number and its position
told_by_lem : (t : Told) → t ≡ tells_of (number_of t) (position_of t)
told_by_lem (At p) = refl
told_by_lem (Number n) = refl

-- and what is returned, by what it tells
as_token : (p q : Result Position Refusal) → told_as (λ x. At x) p ≡ told_as (λ x. At x) q → p ≡ q
as_token (Ok x) (Ok y) e = ap Ok cc
as_token (Ok x) (Err r) e = cc
as_token (Err r) (Ok y) e = cc
as_token (Err r) (Err s) e = ap Err (number_once r s cc)

as_step : (p q : Result (Option Position) Refusal) → told_as placed p ≡ told_as placed q → p ≡ q
as_step (Ok None) (Ok None) e = refl
as_step (Ok None) (Ok (Some y)) e = cc
as_step (Ok (Some x)) (Ok None) e = cc
as_step (Ok (Some x)) (Ok (Some y)) e = ap (λ p. Ok (Some p)) cc
as_step (Ok None) (Err r) e = absurd (number_above r (sym cc))
as_step (Ok (Some x)) (Err r) e = cc
as_step (Err r) (Ok None) e = absurd (number_above r cc)
as_step (Err r) (Ok (Some x)) e = cc
as_step (Err r) (Err s) e = ap Err (number_once r s cc)

as_start : (p q : Result (Unit {0}) Refusal) → told_as (λ _. fine) p ≡ told_as (λ _. fine) q → p ≡ q
as_start (Ok x) (Ok y) e = refl
as_start (Ok x) (Err r) e = absurd (number_above r (sym cc))
as_start (Err r) (Ok y) e = absurd (number_above r cc)
as_start (Err r) (Err s) e = ap Err (number_once r s cc)

module _ {s : Sequencer} {asked : Asked} where
  pub told_is : {t : Told} {n : Sequencer} → Served s asked t n → t ≡ told s asked
  unfolding told
  told_is {t} k = told_by_lem t ∙ rw (k.number_is, k.position_is)

  -- forget
  pub one_answer : {t u : Told} {n m : Sequencer} → Served s asked t n → Served s asked u m → (t ≡ u) × (n ≡ m)
  one_answer k l = (told_is k ∙ sym (told_is l), k.after_is ∙ sym l.after_is)

  pub one_token : {p q : Result Position Refusal} {n m : Sequencer} → Served s asked (told_as (λ x. At x) p) n → Served s asked (told_as (λ x. At x) q) m → (p ≡ q) × (n ≡ m)
  one_token {p} {q} k l = (as_token p q (one_answer k l).0, (one_answer k l).1)

  pub one_start : {p q : Result (Unit {0}) Refusal} {n m : Sequencer} → Served s asked (told_as (λ _. fine) p) n → Served s asked (told_as (λ _. fine) q) m → (p ≡ q) × (n ≡ m)
  one_start {p} {q} k l = (as_start p q (one_answer k l).0, (one_answer k l).1)

  -- stepped
  pub one_step : {r q : Step} → Served s asked (told_as placed r.told) r.after → Served s asked (told_as placed q.told) q.after → r ≡ q
  one_step {r} {q} k l = λ i. record { told = as_step r.told q.told (one_answer k l).0 i; after = (one_answer k l).1 i }

pub one_fresh : {r q : Sequencer} → r ≡ fresh → q ≡ fresh → r ≡ q
one_fresh e f = e ∙ sym f
