-- Append and fill: whatever the client does next on an answer, it vouches for it.
-- Rests on Turns and Walking.
use mathlib.Core.Path.{◌≡◌, refl, sym, ap, subst, ◌∙◌}
use mathlib.Core.Bool.{true}
use Prim.Native.Nat.{ℕ, ◌+◌, ◌<◌}
use native.Mathlib.Omega.{arith}
use Rattle.num.specs.Limits.{limit}
use Rattle.num.specs.declared.Position.{Position}
use Rattle.layout.specs.Value.{lay_of, good_value}
use Rattle.layout.specs.Places.{set_at, head_of, tail_of, after}
use Rattle.client.specs.declared.Reply.{Reply}
use Rattle.client.specs.declared.Reply.TheVariants.{Held, Given, Fine, Shown, Edged, Refused}
use Rattle.client.specs.declared.Phase.TheVariants.{Drawing, Writing}
use Rattle.client.specs.declared.Client.{Client}
use Rattle.client.specs.Message.{no_page, plain, bearing}
use Rattle.client.specs.declared.UnitAsk.TheVariants as unit_ask
use Rattle.client.specs.declared.Ask.TheVariants as ask
use Rattle.client.specs.Client.{in_phase, at_position}
use Rattle.client.specs.Turn.{outcome_of, otherwise}
use Rattle.client.specs.Way.{head_for, tail_for, after_for}
use Rattle.client.proofs.Turns.{token_cases, written_cases, unwritten_cases}
use Rattle.history.specs.History.{History, MarkedBy}
use Rattle.history.specs.History.Mark.{page}
use Rattle.history.specs.History.MarkNoted.{by_append}
use Rattle.history.specs.Events.{Run}
use Rattle.vouch.proofs.Layouts.{map_of}
use Rattle.vouch.proofs.Carried.{carried}
use Rattle.vouch.proofs.Walks.{units_at_lem}
use Rattle.client.specs.Append.{draws, writes, on_token, writes_on, not_written, on_written}
use Rattle.vouch.proofs.Meaning.{WrittenBefore, Walking, DrawingOk, WritingOk, OutcomeOk}
use Rattle.vouch.proofs.Meaning.AskOk.{token_ok, write_ok}
use Rattle.vouch.proofs.Meaning.Waits.{waits_token, waits_write}
use Rattle.vouch.proofs.Turns.{TurnOk, append_quiet, ends_ok, sends_ok, otherwise_ok}
use Rattle.vouch.proofs.Turns.TurnOk.{rests_ok}
use Rattle.vouch.proofs.Walking.{is_good_lem, walk_start, walk_next, walk_done, written_there, walk_vouches}

-- ---- the way of a client that has fetched a layout

pub head_is : (c : Client) → good_value c.layout ≡ true → c.position.0 < limit → head_for c ≡ head_of (set_at (lay_of c.layout) c.position.0)
head_is c good low = ap head_of (units_at_lem c.layout c.position.0 good low)

pub tail_is : (c : Client) → good_value c.layout ≡ true → c.position.0 < limit → tail_for c ≡ tail_of (set_at (lay_of c.layout) c.position.0)
tail_is c good low = ap tail_of (units_at_lem c.layout c.position.0 good low)

pub after_is : (c : Client) (u : ℕ) → good_value c.layout ≡ true → c.position.0 < limit → after_for c u ≡ after u (set_at (lay_of c.layout) c.position.0)
after_is c u good low = ap (λ us. after u us) (units_at_lem c.layout c.position.0 good low)

-- ---- append. b is the client before its turn

module _ {h : History} (run : Run h) (b c : Client) (life : c.life ≡ b.life) (used : c.used ≡ b.used) where
  pub draws_ok : (n : ℕ) → DrawingOk h c.work c.layout (carried c.page) → TurnOk h b (draws c n)
  draws_ok n ok = sends_ok (in_phase c (Drawing n)) (plain (ask.Token c.layout.epoch)) life used refl ok waits_token token_ok

  pub writes_ok : (u n : ℕ) → WritingOk h c.work c.layout c.position.0 (carried c.page) u → TurnOk h b (writes c u n)
  writes_ok u n ok =
      sends_ok (in_phase c (Writing u n)) (bearing (ask.Unit u (unit_ask.Write c.layout.epoch c.position)) c.page) life used refl ok waits_write
      (write_ok (walk_vouches ok.walk (by_append ok.asked)))

module _ {h : History} (run : Run h) (c : Client) where
  pub token_next : (n : ℕ) (a : Reply) → DrawingOk h c.work c.layout (carried c.page) → TurnOk h c (on_token c n a)
  token_next n a ok = go a
    where
      other : (k : ℕ) → TurnOk h c (otherwise c k)
      other k = otherwise_ok k (λ not_fine. append_quiet c k ok.for_append not_fine)

      at : (p : Position) → p.0 < limit → TurnOk h c (writes (at_position c p) (head_for (at_position c p)) n)
      at p low =
          let start = walk_start (page (carried c.page)) ok.fetched low in
          writes_ok run c (at_position c p) refl refl (head_for (at_position c p)) n (record {
            for_append = ok.for_append;
            walk = subst (λ u. Walking h c.layout p.0 u (page (carried c.page))) (sym (head_is (at_position c p) ok.fetched.is_good_lem low)) start;
            asked = ok.asked;
          })

      go : (a : Reply) → TurnOk h c (on_token c n a)
      go Held = other 0
      go (Given p) = token_cases (TurnOk h c) c n p (at p) (λ past. rests_ok)
      go Fine = other 0
      go Shown = other 0
      go (Edged p) = other 0
      go (Refused k) = other k

  module _ (u n : ℕ) (ok : WritingOk h c.work c.layout c.position.0 (carried c.page) u) where
    wrote : MarkedBy h u c.position.0 (page (carried c.page)) c.layout.epoch.0 → TurnOk h c (writes_on c u n)
    wrote mk = written_cases (TurnOk h c) c u n (λ none. ends_ok c 0 refl refl (done (sym same ∙ none))) more
      where
        same : after_for c u ≡ after u (set_at (lay_of c.layout) c.position.0)
        same = after_is c u ok.walk.fetched.is_good_lem ok.walk.low

        done : after u (set_at (lay_of c.layout) c.position.0) ≡ 0 → OutcomeOk h c.work c.page (outcome_of c 0 no_page)
        done none = record {
          append_done = λ is fine. record { by = map_of (lay_of c.layout); settled = walk_done ok.walk mk none; asked = ok.asked };
          was_read = λ is returns. absurd (let both = sym ok.for_append ∙ is in let z : ◌≡◌ {A = ℕ} 0 1 = cc in omega arith);
        }

        more : ¬ (after_for c u ≡ 0) → TurnOk h c (writes c (after_for c u) n)
        more some = writes_ok run c c refl refl (after_for c u) n (record {
          for_append = ok.for_append;
          walk = subst (λ v. Walking h c.layout c.position.0 v (page (carried c.page))) (sym same) (walk_next ok.walk mk (λ z. some (same ∙ z)));
          asked = ok.asked;
        })

    not_written_lem : (k : ℕ) → (k ≡ 6 → WrittenBefore h u c.layout.epoch.0 c.position.0 (carried c.page)) → TurnOk h c (not_written c u n k)
    not_written_lem k six =
        unwritten_cases (TurnOk h c) c u n k
        (λ head taken left. draws_ok run c c refl refl (n + 1) (record { for_append = ok.for_append; fetched = ok.walk.fetched; asked = ok.asked }))
        (λ later is_six. wrote (written_there run ok.walk (six is_six) (λ z. later (z ∙ sym (head_is c ok.walk.fetched.is_good_lem ok.walk.low)))))
        (λ none. rests_ok)
        (λ not_fine. ends_ok c k refl refl (append_quiet c k ok.for_append not_fine))

    pub write_fine : MarkedBy h u c.position.0 (page (carried c.page)) c.layout.epoch.0 → TurnOk h c (on_written c u n Fine)
    write_fine mk = wrote mk

    pub write_refused_lem : (k : ℕ) → (k ≡ 6 → WrittenBefore h u c.layout.epoch.0 c.position.0 (carried c.page)) → TurnOk h c (on_written c u n (Refused k))
    write_refused_lem k six = not_written_lem k six
