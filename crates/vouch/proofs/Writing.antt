-- What a unit does with a write: where its answer is fine the event may come and the unit holds the page; where it refuses, it is as it was,
-- and "written" at a unit that is not the first of its set says that it has that very page.
-- Rests on UnitIs, the unit's laws, and law C.
use mathlib.Core.Path.{◌≡◌, refl, sym, ap, subst, ◌∙◌}
use mathlib.Core.Bool.{true, false}
use mathlib.Core.List.{List}
use Prim.Native.Nat.{ℕ, ◌<◌}
use native.Mathlib.Omega.{arith}
use borrow.Author.Tests.{ne_eqb}
use Rattle.unit.specs.declared.shape.Shape.{Shape}
use Rattle.unit.specs.Memory.{valid}
use Rattle.unit.specs.Kinds.{no_kind, is_gone}
use Rattle.unit.specs.State.{Content, State, content}
use Rattle.unit.specs.Unit.{Request, says, after}
use Rattle.unit.specs.Unit.{Request as request}
use Rattle.unit.proofs.Questions.{page_some, page_stays, none_stays}
use Rattle.unit.proofs.Answers.{writable, after_refused}
use Rattle.unit.proofs.Lasting.{lasts}
use Rattle.unit.proofs.Shown.{shown, untouched, write_here, write_free}
use Rattle.unit.proofs.Marks.{WriteTells, write_tells}
use Rattle.unit.proofs.Marks.WriteTells.{write_position, write_page, write_sealed, write_trimmed, write_written, write_full, write_fine}
use Rattle.rule.specs.Serve.{saying}
use Rattle.history.specs.Words.{UnitNo, Pos, Epoch, Page, Before}
use Rattle.history.specs.Words.Answer.{shows, unwritten}
use Rattle.history.specs.Maps.{Map, Has}
use Rattle.history.specs.History.{Stretch, Covers, History, Laid, Mark, Marked, MarkedBy, Unmarked, sealed}
use Rattle.history.specs.History.Stretch.{only}
use Rattle.history.specs.History.Covers.{covers_only}
use Rattle.history.specs.History.Event.{mark}
use Rattle.history.specs.History.History.{◌▹◌}
use Rattle.history.specs.History.Mark.{page}
use Rattle.history.specs.Events.{Takes, Walked, MayMark, Run}
use Rattle.history.specs.Safety.{Answers}
use Rattle.history.specs.Safety.Answers.{has_page}
use Rattle.vouch.proofs.Carried.{page_with}
use Rattle.history.proofs.Order.{before_in, before_behind, before_less}
use Rattle.history.proofs.Stretches.{of_only, not_only, covered}
use Rattle.history.proofs.Epochs.{laid_good}
use Rattle.history.proofs.Marks.{marked_to}
use Rattle.history.proofs.Chain.{written_same}
use Rattle.history.proofs.Units.{mark_touches, answers_on, shown_as, mark_shows}
use Rattle.vouch.proofs.UnitIs.{answer_of, UnitIs, WriteDone}
use Rattle.vouch.proofs.UnitIs.WriteDone.{did_write, was_written_lem, no_write}
use Rattle.vouch.proofs.Untouched.{not_marked}

-- ---- what a slot shows

pub empty_answers : (s : Content) → s.kind ≡ no_kind → answer_of s ≡ unwritten
unfolding answer_of
empty_answers s k = rw (k, none_stays)

pub page_answers : (s : Content) → ¬ (s.kind ≡ no_kind) → is_gone s.kind ≡ false → answer_of s ≡ shows (page_with s.kind s.payload)
unfolding answer_of
page_answers s k g = rw (g, ne_eqb s.kind no_kind k)

-- ---- the unit after it took a mark

-- it shows the mark where that is, and elsewhere what it showed before
pub marked_is : {sh : Shape} {h : History} {u : UnitNo} {M N : State} {e : Epoch} {ps : Stretch} {m : Mark} → UnitIs sh h u M → MayMark h u e ps m → (valid sh N ≡ true) × (N.sealed ≡ M.sealed) →
    ((p : Pos) → Covers ps p → answer_of (shown N p) ≡ shown_as m) → ((p : Pos) → ¬ Covers ps p → shown N p ≡ shown M p) → UnitIs sh (h ▹ mark u e ps m) u N
unfolding sealed
marked_is {h = h} {u} {M} {N} {e} {ps} {m} is may lasts there elsewhere = record {
  stays_valid = lasts.0;
  sealed_is = lasts.1 ∙ is.sealed_is;
  shown_is = λ p. go p (covered ps p);
}
  where
    go : (p : Pos) → Dec (Covers ps p) → Answers (h ▹ mark u e ps m) u p (answer_of (shown N p))
    go p (yes at) = subst (λ r. Answers (h ▹ mark u e ps m) u p r) (sym (there p at)) (mark_shows m (may.free p at) at)
    go p (no out) =
        subst (λ s. Answers (h ▹ mark u e ps m) u p (answer_of s)) (sym (elsewhere p out)) (answers_on (λ t. out (mark_touches t).1) (is.shown_is p))

-- ---- write

-- a unit that is not sealed at the request's epoch takes it
pub takes_of : {sh : Shape} {h : History} {u : UnitNo} {M : State} {L : Map} {e : Epoch} → UnitIs sh h u M → Laid h L → Has L u → L.epoch ≡ e → M.sealed < e → Takes h u L
takes_of is laid has at lt = record { laid = laid; has = has; unsealed = omega (arith, is.sealed_is) }

module _ {sh : Shape} {h : History} {u : UnitNo} {M : State} {e : Epoch} (run : Run h) (is : UnitIs sh h u M) (p kind : ℕ) (payload : List ℕ)
    (walked : Walked h u e (only p) (page (page_with kind payload))) where
  abbrev asked_for : Request
  asked_for = request.write (record { 0 = e }) (record { 0 = p }) (content kind payload)

  -- "written": by law C, what it has is what the units before it have
  same_page : {Y : Page} → M.sealed < e → Answers h u p (shows Y) → (v : UnitNo) → Before v u (walked.by.set p) → MarkedBy h u p (page (page_with kind payload)) e
  same_page lt (has_page {a = a} mk still) v before =
      let takes = takes_of is walked.laid walked.has walked.epoch_is lt in
      let theirs = (walked.above p covers_only v before).marked in
      let same = written_same run takes (before_in before) (before_behind before) (before_less ((laid_good run walked.laid).set_rises p) before) theirs mk in
      record { epoch = a; by = omega (arith, marked_to run mk, is.sealed_is); marked = subst (λ Z. Marked h u p (page Z) a) (sym same) mk }

  -- fine: the position was neither written nor trimmed
  may_write : says sh M asked_for ≡ 0 → MayMark h u e (only p) (page (page_with kind payload))
  may_write z = record {
    walked = walked;
    takes = takes_of is walked.laid walked.has walked.epoch_is (writable sh M _ _ _ z).unsealed;
    free = of_only (λ q. Unmarked h u q) (not_marked (subst (λ r. Answers h u p r) (empty_answers (shown M p) (write_free sh M _ _ _ z)) (is.shown_is p)));
  }

  written_is : says sh M asked_for ≡ 0 → UnitIs sh (h ▹ mark u e (only p) (page (page_with kind payload))) u (after sh M asked_for)
  written_is z =
      let a_page = (writable sh M _ _ _ z).takes.page in
      let l = lasts sh M is.stays_valid asked_for refl in
      marked_is is (may_write z) (l.is_valid, l.sealed z)
      (of_only (λ q. answer_of (shown (after sh M asked_for) q) ≡ shows (page_with kind payload))
      (ap answer_of (write_here sh M _ _ _ z is.stays_valid) ∙ page_answers (content kind payload) (page_some kind a_page) (page_stays kind a_page)))
      (λ q out. untouched sh M asked_for q (ne_eqb p q (not_only out)))

  pub write_does : WriteDone sh h u walked.by p (page_with kind payload) e (after sh M asked_for) (saying (says sh M asked_for))
  write_does = go (says sh M asked_for) refl (write_tells sh M _ _ _)
    where
      still : {n : ℕ} → says sh M asked_for ≡ n → ¬ (n ≡ 0) → UnitIs sh h u (after sh M asked_for)
      still s ne = subst (λ N. UnitIs sh h u N) (sym (after_refused sh M asked_for (λ z. ne (sym s ∙ z)))) is

      go : (n : ℕ) → says sh M asked_for ≡ n → WriteTells sh M (record { 0 = e }) (record { 0 = p }) (content kind payload) n → WriteDone sh h u walked.by p (page_with kind payload) e (after sh M asked_for) (saying n)
      go n s (write_position a) = no_write {n = 2} (λ z. omega arith) (λ z. omega arith) (still s (λ z. omega arith))
      go n s (write_page a) = no_write {n = 3} (λ z. omega arith) (λ z. omega arith) (still s (λ z. omega arith))
      go n s (write_sealed a) = no_write {n = 4} (λ z. omega arith) (λ z. omega arith) (still s (λ z. omega arith))
      go n s (write_trimmed lt a) = no_write {n = 5} (λ z. omega arith) (λ z. omega arith) (still s (λ z. omega arith))
      go n s (write_written lt a b) =
          was_written_lem (same_page lt (subst (λ r. Answers h u p r) (page_answers (shown M p) a b) (is.shown_is p))) (still s (λ z. omega arith))
      go n s (write_full lt a b) = no_write {n = 8} (λ z. omega arith) (λ z. omega arith) (still s (λ z. omega arith))
      go n s (write_fine lt a) = did_write (may_write s) (written_is s)
