use Rattle.std.proofs.Common.{◌≡◌, ℕ, ◌+◌, List, length, Result, Ok, Err, IsErrAnd, sym, refl, ap, ◌∙◌, arith}
use Rattle.num.specs.declared.Epoch.{Epoch}
use Rattle.num.specs.declared.Position.{Position}
use Rattle.num.specs.declared.refusal.Refusal.{Refusal}
use Rattle.num.specs.Refusals.{answered}
use Rattle.num.proofs.Refusals.{number_above}
use Rattle.unit.specs.declared.read.Seen.{Seen}
use Rattle.unit.specs.Kinds.{held_code}
use Rattle.unit.specs.Shape.{shape_of}
use Rattle.unit.specs.Unit.{Report}
use Rattle.unit.specs.Unit.Request.{read}
use Rattle.unit.specs.Promises.{IsAnswered, Reads}
use Rattle.unit.proofs.Places.{Stands}
use Rattle.unit.proofs.Answers.{good_answer}
use Rattle.unit.proofs.Encoding.{unchanged}
use Rattle.unit.proofs.Payload.{stands_length, start_none, start_shown, read_stands}
use Rattle.unit.proofs.Asked.{bad_asked, refused_asked, done_asked, told_asked, silent_asked}
use Rattle.unit.proofs.read.read.Goals as goal

-- a refusal shows nothing
refusal : (m : List ℕ) (e : Epoch) (p : Position) (x : Result Seen Refusal) (r : Refusal) → IsErrAnd x (λ f. f ≡ r) → IsAnswered m (read e p) (answered x) m → Reads m e p x
refusal m e p (Ok s) r i a = absurd i
refusal m e p (Err f) r i a =
    let none = silent_asked m (read e p) {A = Seen} (Err f) f refl m a in
    record {
      answered = a;
      kind_is = sym (ap (λ (t : Report). t.page.kind) none);
      start_is = sym (start_none (shape_of m) m e p (λ z. number_above f (a.answer_is ∙ z)));
      length_is = sym (ap (λ (t : Report). length t.page.payload) none);
    }

pub returns-in_err-good : goal.returns-in_err-good
returns-in_err-good c =
    let i = c.from_residual.ensures.1 in
    refusal _ _ _ _ _ i (bad_asked _ _ _ _ i c.in_err-good.ensures)

pub returns-in_err-kind : goal.returns-in_err-kind
returns-in_err-kind c =
    let g = c.in_ok-good.good in
    let i = c.from_residual-in_err-kind.ensures.1 in
    rw (← c.in_ok-good.ensures) (refusal _ _ _ _ _ i (refused_asked _ _ g.shape g.named g.is_good _ _ i c.in_err-kind.ensures.answer))

pub overflow_add-result : goal.overflow_add-result
overflow_add-result c =
    let g = c.in_ok-good.good in
    let fine = good_answer _ _ _ g.is_good ∙ sym c.in_ok-kind.ensures.answer in
    let stands : Stands g.shape g.mem.now c.args.p.0 c.find-found.result.at = rw c.find-found.ensures.0 (read_stands _ _ _ _ fine) in
    omega (arith, stands, g.whole)

pub overflow_add-found : goal.overflow_add-found
overflow_add-found c =
    let g = c.in_ok-good.good in
    let fine = good_answer _ _ _ g.is_good ∙ sym c.in_ok-kind.ensures.answer in
    let stands : Stands g.shape g.mem.now c.args.p.0 c.find-found.result.at = rw c.find-found.ensures.0 (read_stands _ _ _ _ fine) in
    omega (arith, stands, g.whole)

pub bounds-mem-found : goal.bounds-mem-found
bounds-mem-found c =
    let g = c.in_ok-good.good in
    let fine = good_answer _ _ _ g.is_good ∙ sym c.in_ok-kind.ensures.answer in
    let stands : Stands g.shape g.mem.now c.args.p.0 c.find-found.result.at = rw c.find-found.ensures.0 (read_stands _ _ _ _ fine) in
    rw (← c.in_ok-good.ensures) (omega (arith, stands))

pub returns : goal.returns
returns c =
    let g = c.in_ok-good.good in
    let n = c.in_ok-kind.ensures.answer in
    let fine = good_answer _ _ _ g.is_good ∙ sym n in
    let stands : Stands g.shape g.mem.now c.args.p.0 c.find-found.result.at = rw c.find-found.ensures.0 (read_stands _ _ _ _ fine) in
    let a = done_asked _ (read c.args.epoch c.args.p) g.shape g.named g.is_good _ n (unchanged _ _ (rw c.in_ok-good.ensures c.type_inv.mem) g.is_good refl) in
    let told = told_asked _ _ g.shape g.named g.is_good a in
    rw (← c.in_ok-good.ensures) (record {
      answered = a;
      kind_is = sym (ap held_code c.in_ok-kind.ensures.kind) ∙ c.find-found.ensures.1 ∙ sym (ap (λ (t : Report). t.page.kind) told);
      start_is = rw (← g.named) (ap (λ (n : ℕ). n + 16) c.find-found.ensures.0 ∙ sym (start_shown _ _ _ _ fine));
      length_is = c.from.ensures ∙ rw (← c.in_ok-good.ensures) (stands_length stands) ∙ ap (λ (t : Report). length t.page.payload) (sym told);
    })
