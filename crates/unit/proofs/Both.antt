-- ONCE OVER PAYLOAD AND SLOT COUNT, THEN CITED FOR BOTH SHAPES: the public functions obey the rules of the unit that the memory holds.
use Rattle.std.proofs.Common.{◌≡◌, ℕ, ◌≤◌, true, List, length, sym, ap, ◌∙◌, subst}
use Rattle.num.specs.declared.Epoch.{Epoch}
use Rattle.num.specs.declared.Position.{Position}
use Rattle.unit.specs.Shape.{Shape, small, large, shape_of, unit_limit}
use Rattle.unit.specs.State.{State}
use Rattle.unit.specs.Unit.{Request, Report, fresh_unit, says, after, report, in_time}
use Rattle.unit.specs.Unit.Request.{read}
use Rattle.unit.specs.Rules.{answer, memory, reported, start}
use Rattle.unit.specs.Promises.{IsFresh, IsAnswered}
use Rattle.unit.specs.Holding.{Holds, Located, Obeys}
use Rattle.unit.proofs.Shapes.{Known, Sized, known_sized, known_code, small_known, large_known, names_shape}
use Rattle.unit.proofs.Keeping.{fresh_valid}
use Rattle.unit.proofs.Freshness.{fresh_fine, fresh_made}
use Rattle.unit.proofs.Payload.{shown}
use Rattle.unit.proofs.Holding.{encode_holds, says_held, report_held, after_held}

module _ (sh : Shape) (known : Known sh) where
  fits : Sized sh
  fits = known_sized sh known

  module _ {m : List ℕ} {u : State} (h : Holds sh m u) where
    -- what is promised of the shape that the memory names is promised of this one
    of_this : (P : Shape → Type 0) → P (shape_of m) → P sh
    of_this P = subst P (names_shape sh m known h.is_good)

    answered : {left : List ℕ} {r : Request} {n : ℕ} → in_time r ≡ true → IsAnswered m r n left → (n ≡ says sh u r) × Holds sh left (after sh u r)
    answered {left} {r} {n} t w = (
      of_this (λ (s : Shape). n ≡ answer s m r) w.answer_is ∙ says_held h r,
      subst (λ (now : List ℕ). Holds sh now (after sh u r)) (sym (of_this (λ (s : Shape). left ≡ memory s m r) w.memory_is)) (after_held h r fits.room t),
    )

    reports : (r : Request) → reported (shape_of m) m r ≡ report sh u r
    reports r = ap (λ (s : Shape). reported s m r) (names_shape sh m known h.is_good) ∙ report_held h r

    shows : (e : Epoch) (p : Position) → Located sh m u e p (start (shape_of m) m e p) (length (report sh u (read e p)).page.payload)
    shows e p =
        let s = shown sh m e p in
        let same = report_held h (read e p) in
        subst (λ (x : Shape). Located sh m u e p (start x m e p) (length (report sh u (read e p)).page.payload)) (sym (names_shape sh m known h.is_good))
        (subst (λ (t : Report). Located sh m u e p (start sh m e p) (length t.page.payload)) same (record { within = s.within; part = rw (← same) s.part; short = s.short }))

  makes : {m left : List ℕ} {number n : ℕ} → length m ≡ 6168 → 1 ≤ number → number ≤ unit_limit → IsFresh m number sh.code n left
      → (n ≡ 0) × Holds sh left (fresh_unit number)
  makes {m} {left} {number} {n} long low high f =
      let z = fresh_fine m number sh.code (rw known (long ∙ sym fits.whole)) (known_code sh known) low high in (
        f.answer_is ∙ z,
        subst (λ (now : List ℕ). Holds sh now (fresh_unit number)) (sym (f.memory_is ∙ fresh_made m number sh.code z ∙ rw known))
            (encode_holds sh fits.room (fresh_unit number) (fresh_valid sh number low high)),
      )

  pub obeys : Obeys sh
  obeys = record {
    whole = fits.whole;
    named = λ m g. names_shape sh m known g;
    fresh = makes;
    answers = λ h. answered h;
    reports = λ r h. reports h r;
    shows = λ e p h. shows h e p;
  }

pub small_obeys : Obeys small
small_obeys = obeys small small_known

pub large_obeys : Obeys large
large_obeys = obeys large large_known
