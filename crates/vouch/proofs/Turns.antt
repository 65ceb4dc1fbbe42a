-- What comes of a client's turn: it rests, what it sends vouches for what it must, or its outcome does.
-- Rests on Meaning.
use mathlib.Core.Path.{◌≡◌, refl}
use mathlib.Core.Bool.{true}
use Prim.Native.Nat.{ℕ}
use native.Mathlib.Omega.{arith}
use Rattle.num.specs.declared.Position.{Position}
use Rattle.num.specs.declared.Request.{Request}
use Rattle.client.specs.declared.Page.{Page as PageValue}
use Rattle.client.specs.declared.Query.{Query}
use Rattle.client.specs.declared.Work.{Work}
use Rattle.client.specs.declared.Work.TheVariants as work
use Rattle.client.specs.declared.Stage.{Stage}
use Rattle.client.specs.declared.Stage.TheVariants.{Idle, Fetching, Working}
use Rattle.client.specs.declared.Client.{Client}
use Rattle.client.specs.declared.Outcome.{Outcome}
use Rattle.client.specs.Message.{no_page}
use Rattle.client.specs.Client.{busy}
use Rattle.client.specs.Turn.{Turn, outcome_of, rests, over, ends, numbered, sent, sends, otherwise}
use Rattle.client.proofs.Turns.{sends_cases, otherwise_cases}
use Rattle.history.specs.Words.{Answer}
use Rattle.history.specs.History.{History}
use Rattle.vouch.proofs.Fields.{Returns}
use Rattle.vouch.proofs.Fields.Returns.{returns_page, returns_trimmed, returns_unwritten}
use Rattle.vouch.proofs.Meaning.{AskOk, StageOk, WaitsFor, OutcomeOk}

-- c is the client before its turn
pub data TurnOk (h : History) (c : Client) : Turn → Type 0 where
  rests_ok : TurnOk h c (rests c)
  sent_ok : (d : Client) (q : Query) → d.life ≡ c.life → d.used ≡ c.used → busy d.stage ≡ true → StageOk h d d.stage →
      WaitsFor d q.ask q.page q.layout → AskOk h q.ask q.page q.layout → TurnOk h c (sent d q)
  over_ok : (d : Client) (n : ℕ) (g : PageValue) → d.life ≡ c.life → d.used ≡ c.used → OutcomeOk h c.work c.page (outcome_of d n g) → TurnOk h c (over d n g)

-- ---- outcomes that say nothing of a page

no_return : {o : Outcome} {r : Answer} → ¬ (o.number ≡ 0) → ¬ (o.number ≡ 5) → ¬ (o.number ≡ 7) → ¬ Returns o r
no_return a b c (returns_page e) = a e
no_return a b c (returns_trimmed e) = b e
no_return a b c (returns_unwritten e) = c e

-- with a number that is none of 0, 5, 7
pub quiet_ok : {h : History} {w : Work} {x : PageValue} (c : Client) (n : ℕ) → ¬ (n ≡ 0) → ¬ (n ≡ 5) → ¬ (n ≡ 7) → OutcomeOk h w x (outcome_of c n no_page)
quiet_ok c n n0 n5 n7 = record { append_done = λ is done. absurd (n0 done); was_read = λ is returns. absurd (no_return n0 n5 n7 returns) }

-- an append's, with a number that is not 0
pub append_quiet : {h : History} {w : Work} {x : PageValue} (c : Client) (n : ℕ) → w ≡ work.Append → ¬ (n ≡ 0) → OutcomeOk h w x (outcome_of c n no_page)
append_quiet {w = w} c n for_append n0 = record { append_done = λ is done. absurd (n0 done); was_read = λ is returns. absurd (append_not_read for_append is) }
  where
    append_not_read : {p : Position} → w ≡ work.Append → w ≡ work.Read p → ⊥
    append_not_read a b = let z : ◌≡◌ {A = ℕ} 0 1 = cc in omega arith

-- another work's, with any number
pub data Other : Work → Type 0 where
  is_fill : {w : Work} {p : Position} → w ≡ work.Fill p → Other w
  is_trim : {w : Work} {p : Position} → w ≡ work.Trim p → Other w
  is_prune : {w : Work} {p : Position} → w ≡ work.Prune p → Other w
  is_reorganise : {w : Work} → w ≡ work.Reorganise → Other w

other_not_append : {w : Work} → Other w → ¬ (w ≡ work.Append)
other_not_append (is_fill a) b = let z : ◌≡◌ {A = ℕ} 0 1 = cc in omega arith
other_not_append (is_trim a) b = let z : ◌≡◌ {A = ℕ} 0 1 = cc in omega arith
other_not_append (is_prune a) b = let z : ◌≡◌ {A = ℕ} 0 1 = cc in omega arith
other_not_append (is_reorganise a) b = let z : ◌≡◌ {A = ℕ} 0 1 = cc in omega arith

other_not_read : {w : Work} {p : Position} → Other w → ¬ (w ≡ work.Read p)
other_not_read (is_fill a) b = let z : ◌≡◌ {A = ℕ} 0 1 = cc in omega arith
other_not_read (is_trim a) b = let z : ◌≡◌ {A = ℕ} 0 1 = cc in omega arith
other_not_read (is_prune a) b = let z : ◌≡◌ {A = ℕ} 0 1 = cc in omega arith
other_not_read (is_reorganise a) b = let z : ◌≡◌ {A = ℕ} 0 1 = cc in omega arith

pub other_quiet : {h : History} {w : Work} {x : PageValue} {o : Outcome} → Other w → OutcomeOk h w x o
other_quiet other = record { append_done = λ is done. absurd (other_not_append other is); was_read = λ is returns. absurd (other_not_read other is) }

-- ---- turns

module _ {h : History} {c : Client} where
  pub ends_ok : (d : Client) (n : ℕ) → d.life ≡ c.life → d.used ≡ c.used → OutcomeOk h c.work c.page (outcome_of d n no_page) → TurnOk h c (ends d n)
  ends_ok d n same used ok = over_ok d n no_page same used ok

  -- with no number left to send it ends with 19, and an end with 19 says nothing
  pub sends_ok : (d : Client) (q : Query) → d.life ≡ c.life → d.used ≡ c.used → busy d.stage ≡ true → StageOk h d d.stage →
      WaitsFor d q.ask q.page q.layout → AskOk h q.ask q.page q.layout → TurnOk h c (sends d q)
  sends_ok d q same used waiting stage waits asks =
      sends_cases (TurnOk h c) d q (λ spent. ends_ok d 19 same used (quiet_ok d 19 (omega arith) (omega arith) (omega arith))) (λ left. sent_ok d q same used waiting stage waits asks)

  pub otherwise_ok : (n : ℕ) → (¬ (n ≡ 0) → OutcomeOk h c.work c.page (outcome_of c n no_page)) → TurnOk h c (otherwise c n)
  otherwise_ok n ok = otherwise_cases (TurnOk h c) c n (λ none. rests_ok) (λ not_fine. ends_ok c n refl refl (ok not_fine))

-- the numbers that a client has used do not matter to what it vouches for
pub stage_numbered : (h : History) (c : Client) (n : Request) (st : Stage) → StageOk h c st → StageOk h (numbered c n) st
stage_numbered h c n Idle ok = ok
stage_numbered h c n Fetching ok = ok
stage_numbered h c n (Working s) ok = ok
