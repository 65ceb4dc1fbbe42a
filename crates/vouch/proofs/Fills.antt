-- Fill: junk, or what the head holds, from head to tail.
-- Rests on Turns, Walking and Appends.
use mathlib.Core.Path.{◌≡◌, refl, sym, subst, ◌∙◌}
use Prim.Native.Nat.{ℕ}
use native.Mathlib.Omega.{arith}
use Rattle.layout.specs.Value.{lay_of}
use Rattle.client.specs.declared.Page.{Page as PageValue}
use Rattle.layout.specs.Places.{set_at, head_of}
use Rattle.client.specs.declared.Reply.TheVariants.{Fine, Shown, Refused}
use Rattle.client.specs.declared.Phase.TheVariants.{Filling, Looking}
use Rattle.client.specs.declared.Client.{Client}
use Rattle.client.specs.Message.{plain, bearing}
use Rattle.client.specs.declared.UnitAsk.TheVariants as unit_ask
use Rattle.client.specs.declared.Ask.TheVariants as ask
use Rattle.client.specs.Client.{in_phase, carrying}
use Rattle.client.specs.Way.{head_for, after_for}
use Rattle.client.proofs.Turns.{filled_cases, unfilled_cases, look_cases}
use Rattle.history.specs.Words.{UnitNo, Pos, Epoch, Page}
use Rattle.history.specs.Words.Answer.{shows}
use Rattle.history.specs.Maps.{Map}
use Rattle.history.specs.History.{History, MarkedBy}
use Rattle.history.specs.History.Mark.{page}
use Rattle.history.specs.Events.{Takes, Run}
use Rattle.history.specs.Safety.{Answers}
use Rattle.history.specs.Safety.Answers.{has_page}
use Rattle.vouch.proofs.Carried.{carried}
use Rattle.history.proofs.Moments.{run_part, by_on}
use Rattle.history.proofs.Marks.{marked_to, mark_asked}
use Rattle.vouch.proofs.Walks.{head_least}
use Rattle.client.specs.Fill.{fills, looks, fills_on, on_filled, on_looked}
use Rattle.vouch.proofs.Meaning.{Saw, WrittenBefore, Walking, FillingOk, LookingOk}
use Rattle.vouch.proofs.Meaning.AskOk.{write_ok, look_ok}
use Rattle.vouch.proofs.Meaning.Waits.{waits_fill, waits_look}
use Rattle.vouch.proofs.Turns.{TurnOk, other_quiet, ends_ok, sends_ok, otherwise_ok}
use Rattle.vouch.proofs.Turns.TurnOk.{rests_ok}
use Rattle.vouch.proofs.Turns.Other.{is_fill}
use Rattle.vouch.proofs.Walking.{is_good_lem, walk_next, written_there, walk_vouches, look_vouches}
use Rattle.vouch.proofs.Appends.{head_is, after_is}

-- a unit that shows X has taken X, in this epoch or before
pub shown_mark : {h : History} {L : Map} {u : UnitNo} {p : Pos} {X : Page} → Run h → Takes h u L → Answers h u p (shows X) → MarkedBy h u p (page X) L.epoch
shown_mark run takes (has_page {a = a} mk still) = record { epoch = a; by = omega (arith, marked_to run mk, takes.unsealed); marked = mk }

pub saw_mark : {h : History} {u : UnitNo} {e : Epoch} {p : Pos} {X : Page} → Run h → Saw h u e p (shows X) → MarkedBy h u p (page X) e
saw_mark {h} {u} {e} {p} {X} run saw =
    let mk = by_on saw.past (shown_mark (run_part saw.past run) saw.takes saw.answers) in
    subst (λ a. MarkedBy h u p (page X) a) saw.epoch_is mk

-- b is the client before its turn, c the client that goes on: it may carry another page
module _ {h : History} (run : Run h) (b c : Client) (life : c.life ≡ b.life) (used : c.used ≡ b.used) (works : c.work ≡ b.work) where
  pub fills_ok : (u : ℕ) → FillingOk h c.work c.layout c.position.0 (carried c.page) u → TurnOk h b (fills c u)
  fills_ok u ok =
      sends_ok (in_phase c (Filling u)) (bearing (ask.Unit u (unit_ask.Write c.layout.epoch c.position)) c.page) life used refl ok waits_fill
      (write_ok (walk_vouches ok.walk ok.asked))

  -- u has the page
  pub filled : (u : ℕ) → FillingOk h c.work c.layout c.position.0 (carried c.page) u →
      MarkedBy h u c.position.0 (page (carried c.page)) c.layout.epoch.0 → TurnOk h b (fills_on c u)
  filled u ok mk =
      let same = after_is c u ok.walk.fetched.is_good_lem ok.walk.low in
      filled_cases (TurnOk h b) c u (λ none. ends_ok c 0 life used (other_quiet (is_fill (sym works ∙ ok.is_fill)))) (λ some. fills_ok (after_for c u) (record {
        filled = ok.filled;
        is_fill = ok.is_fill;
        walk = subst (λ v. Walking h c.layout c.position.0 v (page (carried c.page))) (sym same) (walk_next ok.walk mk (λ z. some (same ∙ z)));
        asked = ok.asked;
      }))

module _ {h : History} (run : Run h) (c : Client) (u : ℕ) where
  looks_ok : LookingOk h c.work c.layout c.position.0 u → TurnOk h c (looks c u)
  looks_ok ok = sends_ok (in_phase c (Looking u)) (plain (ask.Unit u (unit_ask.Read c.layout.epoch c.position))) refl refl refl ok waits_look (look_ok (look_vouches ok.fetched ok.serves))

  module _ (ok : FillingOk h c.work c.layout c.position.0 (carried c.page) u) where
    pub fill_fine : MarkedBy h u c.position.0 (page (carried c.page)) c.layout.epoch.0 → TurnOk h c (on_filled c u Fine)
    fill_fine mk = filled run c c refl refl refl u ok mk

    pub fill_refused : (k : ℕ) → (k ≡ 6 → WrittenBefore h u c.layout.epoch.0 c.position.0 (carried c.page)) → TurnOk h c (on_filled c u (Refused k))
    fill_refused k six =
        unfilled_cases (TurnOk h c) c u k look
        (λ is_six later. filled run c c refl refl refl u ok (written_there run ok.walk (six is_six) (λ z. later (z ∙ sym same))))
        (λ none. rests_ok)
        (λ not_fine. ends_ok c k refl refl (other_quiet (is_fill ok.is_fill)))
      where
        same : head_for c ≡ head_of (set_at (lay_of c.layout) c.position.0)
        same = head_is c ok.walk.fetched.is_good_lem ok.walk.low

        look : k ≡ 6 → u ≡ head_for c → TurnOk h c (looks c u)
        look is_six head =
            let is_u : u ≡ head_of (set_at (lay_of c.layout) c.position.0) = head ∙ same in
            looks_ok (record {
              filled = ok.filled;
              is_fill = ok.is_fill;
              fetched = ok.walk.fetched;
              low = ok.walk.low;
              serves = ok.walk.serves;
              is_head = λ v serves. omega (arith, is_u, head_least (lay_of c.layout) (is_good_lem ok.walk.fetched) c.position.0 serves);
            })

  module _ (ok : LookingOk h c.work c.layout c.position.0 u) where
    -- it saw the head's page, and carries it on
    pub look_shown : (x : PageValue) → Saw h u c.layout.epoch.0 c.position.0 (shows (carried x)) → TurnOk h c (on_looked c u Shown x)
    look_shown x saw = look_cases (TurnOk h c) c u x (λ fits. carries) (λ misfit. rests_ok)
      where
        carries : TurnOk h c (fills_on (carrying c x) u)
        carries =
            let mk = saw_mark run saw in
            filled run c (carrying c x) refl refl refl u (record {
              filled = ok.filled;
              is_fill = ok.is_fill;
              walk = record {
                fetched = ok.fetched;
                low = ok.low;
                serves = ok.serves;
                behind = λ v serves lt. absurd (omega (arith, ok.is_head v serves));
              };
              asked = mark_asked run mk.marked;
            }) mk

    pub look_refused : (k : ℕ) (x : PageValue) → TurnOk h c (on_looked c u (Refused k) x)
    look_refused k x = otherwise_ok k (λ not_fine. other_quiet (is_fill ok.is_fill))
