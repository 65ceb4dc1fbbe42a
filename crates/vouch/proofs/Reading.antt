-- What a unit answers to a read: the page that it has at the position and no other, and junk never as data. Nothing happens to it.
-- Rests on UnitIs, Writing and the unit's laws.
use mathlib.Core.Path.{◌≡◌, refl, sym, ap, subst, ◌∙◌}
use mathlib.Core.Bool.{Bool, true, false, cond}
use Prim.Native.Nat.{ℕ, ◌≤◌}
use native.Mathlib.Omega.{arith}
use native.Mathlib.Nat.{le_trans}
use borrow.Author.Tests.{ltb-true, ltb-false, le-leb}
use lib.Dec.{eqb, ltb}
use lib.ListN.{length}
use Rattle.num.proofs.Tests.{false_true}
use Rattle.layout.specs.Value.{blank}
use Rattle.layout.proofs.Padded.{padded_front}
use Rattle.unit.specs.declared.shape.Shape.{Shape}
use Rattle.num.specs.declared.Epoch.{Epoch as EpochValue}
use Rattle.num.specs.declared.Position.{Position}
use Rattle.unit.specs.Kinds.{no_kind, is_gone}
use Rattle.unit.specs.State.{Content, State, content_of, lookup}
use Rattle.unit.specs.Memory.{valid}
use Rattle.unit.specs.Unit.{says, report}
use Rattle.unit.specs.Unit.{Request as request}
use Rattle.unit.proofs.Decoding.{stays_valid}
use Rattle.unit.proofs.Lookup.{held}
use Rattle.unit.proofs.Shown.{shown, shown_below, shown_slot}
use Rattle.unit.proofs.Marks.{ReadTells, read_tells, read_shown}
use Rattle.unit.proofs.Marks.ReadTells.{read_position as tells_position, read_sealed as tells_sealed, read_trimmed as tells_trimmed, read_unwritten as tells_unwritten, read_page as tells_page}
use Rattle.client.specs.declared.Reply.TheVariants.{Shown, Refused}
use Rattle.client.specs.declared.Response.{Response}
use Rattle.client.specs.Message.{page_limit}
use Rattle.rule.specs.Serve.{bare, kind_of, bytes_of}
use Rattle.rule.specs.Serve.{page_of as slot_page, page_shown as reading}
use Rattle.history.specs.Words.{UnitNo}
use Rattle.history.specs.Words.Answer.{shows, trimmed, unwritten}
use Rattle.history.specs.Maps.{Map, Has}
use Rattle.history.specs.History.{History, Laid}
use Rattle.history.specs.Safety.{Answers}
use Rattle.vouch.proofs.Carried.{page_with, carried}
use Rattle.vouch.proofs.UnitIs.{answer_of, UnitIs, ReadDone}
use Rattle.vouch.proofs.UnitIs.ReadDone.{read_page, read_trimmed, read_unwritten, no_read}
use Rattle.vouch.proofs.Writing.{empty_answers, page_answers, takes_of}
use Rattle.vouch.proofs.Trimming.{gone_answers}

-- a letter bears the very page of a slot
carried_slot : (s : Content) → length s.payload ≤ page_limit → carried (slot_page s) ≡ page_with s.kind s.payload
unfolding kind_of bytes_of slot_page
carried_slot s few = rw (le-leb (length s.payload) page_limit few, padded_front page_limit 0 s.payload few)

-- what a unit shows as a page is no longer than its shape's payload
shown_short : (sh : Shape) (M : State) (p : ℕ) → valid sh M ≡ true → ¬ ((shown M p).kind ≡ no_kind) → is_gone (shown M p).kind ≡ false → length (shown M p).payload ≤ sh.cap
shown_short sh M p v some_kind not_gone = go (ltb p M.floor) refl
  where
    kept : (s : Content) → s ≡ content_of (lookup p M.slots) → ¬ (s.kind ≡ no_kind) → length s.payload ≤ sh.cap
    kept s e k = rw e (held sh.cap M.floor p M.slots (stays_valid sh M v).slots (rw e at k)).fields.fits

    go : (b : Bool) → ltb p M.floor ≡ b → length (shown M p).payload ≤ sh.cap
    go true l = absurd (false_true (sym not_gone ∙ shown_below M p (ltb-true p M.floor l)))
    go false l = kept (shown M p) (shown_slot M p (ltb-false p M.floor l)) some_kind

-- the answer where the unit's number is n, and what it shows s
abbrev told : ℕ → Content → Response
told n s = cond (eqb n 0) (record { reply = Shown; page = slot_page s; layout = blank }) (bare (Refused n))

module _ {sh : Shape} {h : History} {u : UnitNo} {M : State} (is : UnitIs sh h u M) (p : ℕ) where
  -- what a unit shows, in the words of the history
  is_gone_lem : is_gone (shown M p).kind ≡ true → Answers h u p trimmed
  is_gone_lem a = subst (λ r. Answers h u p r) (gone_answers (shown M p) a) (is.shown_is p)

  is_empty : (shown M p).kind ≡ no_kind → Answers h u p unwritten
  is_empty a = subst (λ r. Answers h u p r) (empty_answers (shown M p) a) (is.shown_is p)

  is_page_lem : sh.cap ≤ page_limit → (s : Content) → s ≡ shown M p → ¬ ((shown M p).kind ≡ no_kind) → is_gone (shown M p).kind ≡ false → Answers h u p (shows (carried (slot_page s)))
  is_page_lem fits s same a b =
      let page_is = page_answers (shown M p) a b ∙ ap shows (sym (carried_slot (shown M p) (le_trans (shown_short sh M p is.stays_valid a b) fits))) in
      subst (λ t. Answers h u p (shows (carried (slot_page t)))) (sym same) (subst (λ r. Answers h u p r) page_is (is.shown_is p))

module _ {sh : Shape} {h : History} {u : UnitNo} {M : State} {L : Map} {e : EpochValue} (fits : sh.cap ≤ page_limit) (is : UnitIs sh h u M) (laid : Laid h L) (has : Has L u) (at : L.epoch ≡ e.0) (p : Position) where
  read_told : (n : ℕ) (s : Content) → (n ≡ 0 → s ≡ shown M p.0) → ReadTells M e p n → ReadDone h u L p.0 (told n s)
  read_told n s same (tells_position a) = no_read {n = 2} (λ z. omega arith) (λ z. omega arith) (λ z. omega arith)
  read_told n s same (tells_sealed a) = no_read {n = 4} (λ z. omega arith) (λ z. omega arith) (λ z. omega arith)
  read_told n s same (tells_trimmed lt a) = read_trimmed (takes_of is laid has at lt) (is_gone_lem is p.0 a)
  read_told n s same (tells_unwritten lt a) = read_unwritten (takes_of is laid has at lt) (is_empty is p.0 a)
  read_told n s same (tells_page lt a b) = read_page (takes_of is laid has at lt) (is_page_lem is p.0 fits s (same refl) a b)

  pub read_does : ReadDone h u L p.0 (reading sh M e p)
  unfolding reading
  read_does = read_told (says sh M (request.read e p)) (report sh M (request.read e p)).page (read_shown sh M e p) (read_tells sh M e p)
