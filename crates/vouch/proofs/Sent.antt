-- How many requests an operation sends, over every run of the yard's rule (specs/Sent).
-- Rests on Sending, Posting and Operations.
use mathlib.Core.Path.{◌≡◌, refl, sym, ap, subst, ◌∙◌}
use mathlib.Core.Bool.{Bool, true, false, ◌&&◌}
use Prim.Native.Nat.{ℕ, suc, ◌+◌, ◌-◌, ◌≤◌, ◌<◌}
use native.Mathlib.Omega.{arith}
use borrow.Author.Tests.{le-ltb, lt-ltb}
use lib.Dec.{eqb, ltb}
use lib.ListN.{length}
use Rattle.num.specs.declared.Request.{Request}
use Rattle.num.proofs.Tests.{false_true, and_false}
use Rattle.layout.specs.declared.Layout.{Layout}
use Rattle.layout.specs.Value.{good_value}
use Rattle.client.specs.declared.Response.{Response}
use Rattle.client.specs.declared.Work.TheVariants.{Append}
use Rattle.client.specs.declared.Client.{Client}
use Rattle.client.specs.declared.Outcome.{Outcome}
use Rattle.client.specs.declared.state.Job.{Job}
use Rattle.client.specs.Client.{busy}
use Rattle.client.specs.Turn.{Turn, numbered, next, sent_so_far}
use Rattle.client.specs.Way.{units_for}
use Rattle.client.specs.Begin.{with_job}
use Rattle.client.specs.Take.{answered}
use Rattle.rule.specs.declared.Step.{Step}
use Rattle.rule.specs.declared.Step.TheVariants.{Begin, Restart}
use Rattle.rule.specs.World.{World, is_client, client_at}
use Rattle.rule.specs.Steps.{Done, step}
use Rattle.rule.proofs.Lists.{client_range}
use Rattle.vouch.specs.Runs.{Move, Moves, result, world, world_by}
use Rattle.vouch.specs.Runs.Moves.{◌▸◌}
use Rattle.vouch.specs.Operations.{Begins, UnderWay, Ends}
use Rattle.vouch.specs.Operations.UnderWay.{begun, still}
use Rattle.vouch.specs.Operations.Ends.{later, at_once}
use Rattle.vouch.specs.Sent.{one, requests_of, is_taken, at_head, brings, puts, fails, counted, counted_in, Sent}
use Rattle.vouch.proofs.Coming.{come}
use Rattle.vouch.proofs.Bag.{own_sent, none_sent}
use Rattle.vouch.proofs.Steady.{Steady, answered_steady}
use Rattle.vouch.proofs.Steady.Steady.{rests_so, sent_so, over_so}
use Rattle.vouch.proofs.Operations.{looks, under_agrees, begins_so, not_at_once}
use Rattle.vouch.proofs.Sending.{At, Goes, at_most, append_goes}
use Rattle.vouch.proofs.Posting.{Makes, Comes, begin_puts, step_comes}
use Rattle.vouch.proofs.Posting.Comes.{aside, begins_one, takes_one, gives_up_lem, restarts_it}

-- what client x has sent of an operation, k requests in all, and what it has lost of an append, f heads
pub record Tally (x : Client) (j : Job) (k f : ℕ) : Type 0 where
  pub used_is : x.used.0 ≡ x.begun.0 + k
  pub stands : j.work ≡ Append → At (units_for x) x.stage k f

-- it has rested
rest_tally : (x y : Client) (j : Job) (k f : ℕ) (put failed : Bool) → y ≡ x → put ≡ false → (j.work ≡ Append → failed ≡ false) → Tally x j k f → Tally y j (k + one put) (f + one failed)
rest_tally x y j k f put failed same quiet well t =
    let more : k ≡ k + one put = omega (arith, ap one quiet) in
    subst (λ (z : Client). Tally z j (k + one put) (f + one failed)) (sym same) (record {
      used_is = omega (arith, t.used_is, more);
      stands = λ append.
          let lost : f ≡ f + one failed = omega (arith, ap one (well append)) in
          subst (λ n. At (units_for x) x.stage n (f + one failed)) more (subst (λ n. At (units_for x) x.stage k n) lost (t.stands append));
    })

-- how an operation ends that has the tally: what its outcome says was sent
pub record Told (o : Outcome) (j : Job) (k f : ℕ) (put failed : Bool) : Type 0 where
  pub sent_is : o.sent ≡ k + one put
  pub most : j.work ≡ Append → o.sent ≤ 20
  pub heads : j.work ≡ Append → f + one failed ≡ 8 → o.sent ≡ 17
  pub heads_most : j.work ≡ Append → f + one failed ≤ 8

module _ (x : Client) (j : Job) (k f : ℕ) (t : Tally x j k f) where
  told : (o : Outcome) (d : Client) (put failed : Bool) → o.sent ≡ sent_so_far d → d.used ≡ x.used → d.begun ≡ x.begun → put ≡ false →
      (j.work ≡ Append → f + one failed ≡ 8 → k ≡ 17) → Told o j k f put failed
  told o d put failed says used begun_same quiet eight =
      let is : o.sent ≡ k = omega (arith, says, ap (λ (n : Request). n.0) used, ap (λ (n : Request). n.0) begun_same, t.used_is) in
      record {
        sent_is = omega (arith, is, ap one quiet);
        most = λ append. omega (arith, is, (bound append).0);
        heads = λ append all. is ∙ eight append all;
        heads_most = λ append. omega (arith, (bound append).1, one_most failed);
      }
    where
      bound : j.work ≡ Append → (k ≤ 20) × (f ≤ 7)
      bound append = at_most (units_for x) x.stage k f (t.stands append)

      one_most : (b : Bool) → one b ≤ 1
      one_most true = omega arith
      one_most false = omega arith

module _ (l : Layout) (good : good_value l ≡ true) (first : l.epoch.0 ≡ 1) where
  -- ---- one move

  module _ (ms : Moves) (m : Move) (c : ℕ) (low : 1 ≤ c) (high : c ≤ 4) where
    abbrev w : World
    w = world l ms

    abbrev x : Client
    x = client_at w c

    abbrev d : Done
    d = result w m

    abbrev four : length w.clients ≡ 4
    four = (come l good first ms).good.clients_long

    abbrev put : Bool
    put = ltb (requests_of c w.letters) (requests_of c d.world.letters)

    abbrev failed : Bool
    failed = eqb d.answer 0 && brings w c m.does

    -- none was put
    no_more : requests_of c d.world.letters ≤ requests_of c w.letters → put ≡ false
    no_more few = le-ltb (requests_of c w.letters) (requests_of c d.world.letters) few

    one_more : requests_of c d.world.letters ≡ requests_of c w.letters + 1 → put ≡ true
    one_more is = lt-ltb (requests_of c w.letters) (requests_of c d.world.letters) (omega (arith, is))

    steady : (r : Response) → Steady x (busy x.stage) (answered x.stage x r)
    steady r = answered_steady x x.stage r (looks l good first ms c low high)

    abbrev Makes_it : Turn → Type 0
    Makes_it t = Makes w four c low high t d

    module _ (j : Job) (k f : ℕ) (tally : Tally x j k f) (append_is : j.work ≡ Append → x.work ≡ Append) (working : busy x.stage ≡ true) where
      abbrev On : Type 0
      On = Tally (client_at d.world c) j (k + one put) (f + one failed)

      low_heads : j.work ≡ Append → f ≤ 7
      low_heads append = (at_most (units_for x) x.stage k f (tally.stands append)).1

      -- what the append's turn comes to
      goes : (r : Response) → failed ≡ (is_taken r.reply && at_head x x.stage) → j.work ≡ Append → Goes k f failed (answered x.stage x r)
      goes r is append = subst (λ b. Goes k f b (answered x.stage x r)) (sym is) (append_goes x k f x.stage r (append_is append) (tally.stands append))

      -- ---- it goes on

      took_on : (b : Bool) (t : Turn) → Makes_it t → (j.work ≡ Append → Goes k f failed t) → ¬ (d.who ≡ c) → Steady x b t → On
      took_on b t makes so not_ended rests_so =
          rest_tally x _ j k f put failed makes.client_is (no_more (omega (arith, makes.requests_are, none_sent c))) so tally
      took_on b t makes so not_ended (sent_so y q was waits like) =
          let now : put ≡ true = one_more (makes.requests_are ∙ ap (λ n. requests_of c w.letters + n) (own_sent c y.life (next y) q)) in
          let more : suc k ≡ k + one put = omega (arith, ap one now) in
          subst (λ (z : Client). Tally z j (k + one put) (f + one failed)) (sym makes.client_is) (record {
            used_is = omega (arith, more, tally.used_is, ap (λ (n : Request). n.0) like.used_same, ap (λ (n : Request). n.0) like.begun_same);
            stands = λ append. subst (λ n. At (units_for y) y.stage n (f + one failed)) more (so append);
          })
      took_on b t makes so not_ended (over_so y n g was life used begun_same) = absurd (not_ended makes.who_is)

      goes_on_lem : ¬ (d.who ≡ c) → (m.does ≡ Restart c → ¬ (d.answer ≡ 0)) → Comes w four c low high m.does d → On
      goes_on_lem not_ended not_restarted (aside who same few quiet) = rest_tally x _ j k f put failed same (no_more few) (λ append. quiet) tally
      goes_on_lem not_ended not_restarted (begins_one idle) = absurd (false_true (sym idle ∙ working))
      goes_on_lem not_ended not_restarted (takes_one r makes is) = took_on (busy x.stage) (answered x.stage x r) makes (goes r is) not_ended (steady r)
      goes_on_lem not_ended not_restarted (gives_up_lem makes quiet) = absurd (not_ended makes.who_is)
      goes_on_lem not_ended not_restarted (restarts_it does fine who) = absurd (not_restarted does fine)

      -- ---- it ends

      abbrev Over : Type 0
      Over = Told d.outcome j k f put failed

      nobody : {A : Type 0} → d.who ≡ 0 → d.who ≡ c → A
      nobody none who = absurd (omega (arith, none, who, low))

      took_last : (b : Bool) (t : Turn) → Makes_it t → (j.work ≡ Append → Goes k f failed t) → d.who ≡ c → Steady x b t → Over
      took_last b t makes so who rests_so = nobody makes.who_is who
      took_last b t makes so who (sent_so y q was waits like) = nobody makes.who_is who
      took_last b t makes so who (over_so y n g was life used begun_same) =
          told x j k f tally d.outcome y put failed (ap (λ (o : Outcome). o.sent) makes.outcome_is) used begun_same (no_more (omega (arith, makes.requests_are, none_sent c))) so

      ends_so : d.who ≡ c → Comes w four c low high m.does d → Over
      ends_so who (aside other same few quiet) = absurd (other who)
      ends_so who (begins_one idle) = absurd (false_true (sym idle ∙ working))
      ends_so who (takes_one r makes is) = took_last (busy x.stage) (answered x.stage x r) makes (goes r is) who (steady r)
      ends_so who (gives_up_lem makes quiet) =
          told x j k f tally d.outcome x put failed (ap (λ (o : Outcome). o.sent) makes.outcome_is) refl refl (no_more (omega (arith, makes.requests_are, none_sent c)))
          (λ append eight. absurd (omega (arith, eight, low_heads append, ap one quiet)))
      ends_so who (restarts_it does fine other) = absurd (other who)

  -- ---- all of them

  begin_tally : {ms : Moves} {m : Move} {c : ℕ} {j : Job} (b : Begins step l ms m c j) → Tally (client_at (result (world l ms) m).world c) j (one (puts step l c ms m)) (one (fails step l c ms m))
  unfolding world_by
  begin_tally {ms} {m} {c} {j} b =
      let w = world l ms in
      let x = client_at w c in
      let now = begins_so l good first b in
      let range = client_range c now.of_client in
      let four = (come l good first ms).good.clients_long in
      let fine : (step w (Begin c) m.job).answer ≡ 0 = subst (λ (s : Step). (step w s m.job).answer ≡ 0) b.does_begin b.not_refused in
      let client : client_at (result w m).world c ≡ numbered (with_job x m.job) (next x) = ap (λ (s : Step). client_at (step w s m.job).world c) b.does_begin ∙ now.client_is in
      let more = ap (λ (s : Step). requests_of c (step w s m.job).world.letters) b.does_begin ∙ begin_puts w four c range.0 range.1 m.job fine in
      let put = one_more ms m c range.0 range.1 more in
      let well : fails step l c ms m ≡ false = ap (λ (s : Step). eqb (result w m).answer 0 && brings w c s) b.does_begin ∙ and_false (eqb (result w m).answer 0) in
      subst (λ (z : Client). Tally z j (one (puts step l c ms m)) (one (fails step l c ms m))) (sym client) (record {
        used_is = omega (arith, ap one put);
        stands = λ append. (ap one put, ap one well);
      })

  tally_of : {c : ℕ} {j : Job} {ms : Moves} (way : UnderWay step l c j ms) → Tally (client_at (world l ms) c) j (counted step l (puts step l c) way) (counted step l (fails step l c) way)
  unfolding world_by counted
  tally_of (begun b not_ended) = begin_tally b
  tally_of {c = c} {j} (still {ms = ms} {m} way leaves) =
      let was = under_agrees l good first way in
      let range = client_range c was.of_client in
      goes_on_lem ms m c range.0 range.1 j _ _ (tally_of way) (λ append. was.agrees.work_is ∙ append) was.agrees.has_one leaves.not_ended leaves.not_restarted
      (step_comes (world l ms) (come l good first ms).good.clients_long c range.0 range.1 m.does m.job)

  told_of_lem : {ms : Moves} (m : Move) {c : ℕ} {j : Job} (way : UnderWay step l c j ms) → (result (world l ms) m).who ≡ c →
      Told (result (world l ms) m).outcome j (counted step l (puts step l c) way) (counted step l (fails step l c) way) (puts step l c ms m) (fails step l c ms m)
  unfolding world_by
  told_of_lem {ms} m {c} {j} way who =
      let was = under_agrees l good first way in
      let range = client_range c was.of_client in
      ends_so ms m c range.0 range.1 j _ _ (tally_of way) (λ append. was.agrees.work_is ∙ append) was.agrees.has_one who
      (step_comes (world l ms) (come l good first ms).good.clients_long c range.0 range.1 m.does m.job)

  pub sent : Sent step l
  unfolding counted_in
  sent = record { sent_is = sent_is; append_most = append_most; eight_heads_lem = eight_heads_lem; heads_most = heads_most }
    where
      -- no operation ends with the move that begins it
      never : {A : Type 0} {ms : Moves} {m : Move} {c : ℕ} {j : Job} → Begins step l ms m c j → (result (world l ms) m).who ≡ c → A
      never {ms = ms} {m} {c} b who = absurd (not_at_once l good first b who)

      sent_is : {ms : Moves} {m : Move} {c : ℕ} {j : Job} (e : Ends step l ms m c j) → (result (world l ms) m).outcome.sent ≡ counted_in step l (puts step l c) e
      sent_is {m = m} (later way who) = (told_of_lem m way who).sent_is
      sent_is (at_once b who) = never b who

      append_most : {ms : Moves} {m : Move} {c : ℕ} {j : Job} → Ends step l ms m c j → j.work ≡ Append → (result (world l ms) m).outcome.sent ≤ 20
      append_most {m = m} (later way who) append = (told_of_lem m way who).most append
      append_most (at_once b who) append = never b who

      eight_heads_lem : {ms : Moves} {m : Move} {c : ℕ} {j : Job} (e : Ends step l ms m c j) → j.work ≡ Append → counted_in step l (fails step l c) e ≡ 8 → (result (world l ms) m).outcome.sent ≡ 17
      eight_heads_lem {m = m} (later way who) append eight = (told_of_lem m way who).heads append eight
      eight_heads_lem (at_once b who) append eight = never b who

      heads_most : {ms : Moves} {m : Move} {c : ℕ} {j : Job} (e : Ends step l ms m c j) → j.work ≡ Append → counted_in step l (fails step l c) e ≤ 8
      heads_most {m = m} (later way who) append = (told_of_lem m way who).heads_most append
      heads_most (at_once b who) append = never b who
