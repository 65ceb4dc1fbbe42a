-- How an answer meets its promise: that of a memory that is not good, of one whose unit refuses, and of one whose unit does not. m: the memory before; held: what it was found to be.
use Rattle.std.proofs.Common.{◌≡◌, ℕ, true, false, List, Result, IsErrAnd, refl, sym, ◌∙◌, subst}
use Rattle.num.specs.declared.refusal.Refusal.{Refusal}
use Rattle.num.specs.declared.refusal.Refusal.TheVariants.{Memory}
use Rattle.num.specs.Refusals.{number, answered}
use Rattle.num.proofs.Refusals.{number_above, handed_on}
use Rattle.unit.specs.Shape.{Shape, shape_of}
use Rattle.unit.specs.Memory.{good, decode, encode}
use Rattle.unit.specs.Unit.{Request, becomes, reports, silent, says}
use Rattle.unit.specs.Rules.{answer, memory, reported}
use Rattle.unit.specs.Promises.{IsAnswered}
use Rattle.unit.proofs.Answers.{bad_answer, good_answer, memory_kept, memory_done, reported_none, reported_done, one_not_zero}

module _ (m : List ℕ) (r : Request) where
  kept : (n : ℕ) → answer (shape_of m) m r ≡ n → (n ≡ 0 → ⊥) → IsAnswered m r n m
  kept n e h = record { answer_is = sym e; memory_is = sym (memory_kept (shape_of m) m r (λ z. h (sym e ∙ z))) }

  -- x: what `?` hands on of the refusal e
  pub bad_asked : {A : Type 0} (x : Result A Refusal) (e : Refusal) → IsErrAnd x (λ f. f ≡ e) → (e ≡ Memory) × (good (shape_of m) m ≡ false) → IsAnswered m r (answered x) m
  bad_asked x e i h = rw (handed_on e x i, h.0) (kept 1 (bad_answer (shape_of m) m r h.1) (one_not_zero refl))

  module _ (sh : Shape) (named : sh ≡ shape_of m) (g : good sh m ≡ true) where
    here : (n : ℕ) → n ≡ says sh (decode sh m) r → n ≡ answer (shape_of m) m r
    here n e = subst (λ (s : Shape). n ≡ answer s m r) named (e ∙ sym (good_answer sh m r g))

    pub refused_asked : {A : Type 0} (x : Result A Refusal) (e : Refusal) → IsErrAnd x (λ f. f ≡ e) → number e ≡ says sh (decode sh m) r → IsAnswered m r (answered x) m
    refused_asked x e i h = rw (handed_on e x i) (kept (number e) (sym (here (number e) h)) (number_above e))

    pub done_asked : (left : List ℕ) → 0 ≡ says sh (decode sh m) r → left ≡ encode sh (becomes (decode sh m) r) → IsAnswered m r 0 left
    done_asked left h e =
        let z = here 0 h in
        record { answer_is = z; memory_is = e ∙ subst (λ (s : Shape). encode s (becomes (decode s m) r) ≡ memory (shape_of m) m r) (sym named) (sym (memory_done (shape_of m) m r (sym z))) }

    -- and what is reported then
    pub told_asked : {left : List ℕ} → IsAnswered m r 0 left → reported (shape_of m) m r ≡ reports (decode sh m) r
    told_asked a = subst (λ (s : Shape). reported (shape_of m) m r ≡ reports (decode s m) r) (sym named) (reported_done (shape_of m) m r (sym a.answer_is))

  pub silent_asked : {A : Type 0} (x : Result A Refusal) (e : Refusal) → IsErrAnd x (λ f. f ≡ e) → (left : List ℕ) → IsAnswered m r (answered x) left → reported (shape_of m) m r ≡ silent
  silent_asked x e i left a = reported_none (shape_of m) m r (λ z. number_above e (sym (handed_on e x i) ∙ a.answer_is ∙ z))
