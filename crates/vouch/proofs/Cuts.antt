-- Trim, prune and read.
-- Rests on Turns, Walking and Appends.
use mathlib.Core.Path.{◌≡◌, refl, sym, subst, ◌∙◌}
use Prim.Native.Nat.{ℕ, ◌≤◌, ◌<◌}
use native.Mathlib.Omega.{arith}
use native.Mathlib.Decide.{dec_lt}
use Rattle.num.specs.declared.Position.{Position}
use Rattle.layout.specs.Value.{lay_of}
use Rattle.client.specs.declared.Page.{Page as PageValue}
use Rattle.client.specs.declared.Reply.TheVariants.{Fine, Shown, Refused}
use Rattle.client.specs.declared.Work.TheVariants as work
use Rattle.client.specs.declared.Phase.TheVariants.{Reading, Trimming, Pruning}
use Rattle.client.specs.declared.Client.{Client}
use Rattle.client.specs.Message.{no_page, plain}
use Rattle.client.specs.declared.UnitAsk.TheVariants as unit_ask
use Rattle.client.specs.declared.Ask.TheVariants as ask
use Rattle.client.specs.Client.{in_phase}
use Rattle.client.specs.Turn.{outcome_of}
use Rattle.client.specs.Way.{after_for, unit_above}
use Rattle.client.proofs.Turns.{page_cases, trimmed_cases, pruned_cases}
use Rattle.history.specs.Words.{UnitNo, Pos, Answer}
use Rattle.history.specs.Words.Answer.{shows}
use Rattle.history.specs.Maps.{Has}
use Rattle.history.specs.History.{History, Noted, MarkedBy}
use Rattle.history.specs.History.Note.{prune_to}
use Rattle.history.specs.History.MarkNoted.{by_trim}
use Rattle.history.specs.History.Mark.{page, gone}
use Rattle.history.specs.Events.{Takes, Run}
use Rattle.vouch.proofs.Layouts.{map_of}
use Rattle.vouch.proofs.Carried.{carried}
use Rattle.vouch.proofs.Walks.{next_has, next_next}
use Rattle.client.specs.Trim.{trims, on_trimmed, prunes, prunes_on, on_pruned}
use Rattle.client.specs.Read.{reads, on_read}
use Rattle.history.specs.Words.Answer.{trimmed, unwritten}
use Rattle.vouch.proofs.Fields.{Returns}
use Rattle.vouch.proofs.Fields.Returns.{returns_page, returns_trimmed, returns_unwritten}
use Rattle.history.proofs.Order.{last_in}
use Rattle.history.proofs.Moments.{laid_on}
use Rattle.history.proofs.Epochs.{laid_one}
use Rattle.vouch.proofs.Meaning.{Saw, Fetched, Walking, TrimmingOk, PruningOk, ReadingOk, WasRead, OutcomeOk}
use Rattle.vouch.proofs.Meaning.AskOk.{look_ok, trim_ok, prune_ok}
use Rattle.vouch.proofs.Meaning.Waits.{waits_read, waits_trim, waits_prune}
use Rattle.vouch.proofs.Turns.{TurnOk, other_quiet, quiet_ok, ends_ok, sends_ok, otherwise_ok}
use Rattle.vouch.proofs.Turns.TurnOk.{rests_ok, over_ok}
use Rattle.vouch.proofs.Turns.Other.{is_trim, is_prune}
use Rattle.vouch.proofs.GoodMap.{epoch_of_lem}
use Rattle.vouch.proofs.Walking.{is_good_lem, walk_next, walk_vouches, look_vouches, prune_vouches}
use Rattle.vouch.proofs.Appends.{after_is}

-- ---- trim

module _ {h : History} (run : Run h) (b c : Client) (life : c.life ≡ b.life) (used : c.used ≡ b.used) (works : c.work ≡ b.work) where
  pub trims_ok : (u : ℕ) → TrimmingOk h c.work c.layout c.position.0 u → TurnOk h b (trims c u)
  trims_ok u ok = sends_ok (in_phase c (Trimming u)) (plain (ask.Unit u (unit_ask.Trim c.layout.epoch c.position))) life used refl ok waits_trim (trim_ok (walk_vouches ok.walk (by_trim ok.asked)))

  -- ---- prune

  pub prunes_ok : (u : ℕ) → PruningOk h c.work c.layout c.position.0 u → TurnOk h b (prunes c u)
  prunes_ok u ok =
      sends_ok (in_phase c (Pruning u)) (plain (ask.Unit u (unit_ask.Prune c.layout.epoch c.position))) life used refl ok waits_prune
      (prune_ok (prune_vouches ok.fetched ok.has ok.behind ok.asked))

  -- all units up to u have pruned
  pub pruned : (u : ℕ) (q : Position) → c.work ≡ work.Prune q → Fetched h c.layout → Noted h (prune_to c.position.0) →
      ((v : UnitNo) → Has (map_of (lay_of c.layout)) v → v ≤ u → (p : Pos) → p < c.position.0 → MarkedBy h v p gone c.layout.epoch.0) → TurnOk h b (prunes_on c u)
  pruned u q is fetched asked upto =
      pruned_cases (TurnOk h b) c u (λ none. ends_ok c 0 life used (other_quiet (is_prune (sym works ∙ is)))) (λ some. prunes_ok (unit_above c.layout u) (record {
        pruned_there = q;
        is_prune = is;
        fetched = fetched;
        has = next_has (lay_of c.layout) u some;
        behind = λ v has lt. upto v has (next_next (lay_of c.layout) u has lt);
        asked = asked;
      }))

  -- ---- read

  pub reads_ok : (u : ℕ) → ReadingOk h c.work c.layout c.position u → TurnOk h b (reads c u)
  reads_ok u ok =
      sends_ok (in_phase c (Reading u)) (plain (ask.Unit u (unit_ask.Read c.layout.epoch c.position))) life used refl ok waits_read
      (look_ok (look_vouches ok.fetched (last_in ok.is_tail)))

module _ {h : History} (run : Run h) (c : Client) (u : ℕ) where
  module _ (ok : TrimmingOk h c.work c.layout c.position.0 u) where
    pub trim_fine : MarkedBy h u c.position.0 gone c.layout.epoch.0 → TurnOk h c (on_trimmed c u Fine)
    trim_fine mk =
        let same = after_is c u ok.walk.fetched.is_good_lem ok.walk.low in
        trimmed_cases (TurnOk h c) c u (λ none. ends_ok c 0 refl refl (other_quiet (is_trim ok.is_trim))) (λ some. trims_ok run c c refl refl refl (after_for c u) (record {
          trimmed_there = ok.trimmed_there;
          is_trim = ok.is_trim;
          walk = subst (λ v. Walking h c.layout c.position.0 v gone) (sym same) (walk_next ok.walk mk (λ z. some (same ∙ z)));
          asked = ok.asked;
        }))

    pub trim_refused : (k : ℕ) → TurnOk h c (on_trimmed c u (Refused k))
    trim_refused k = otherwise_ok k (λ not_fine. other_quiet (is_trim ok.is_trim))

  module _ (ok : PruningOk h c.work c.layout c.position.0 u) where
    pub prune_fine : ((p : Pos) → p < c.position.0 → MarkedBy h u p gone c.layout.epoch.0) → TurnOk h c (on_pruned c u Fine)
    prune_fine mks = pruned run c c refl refl refl u ok.pruned_there ok.is_prune ok.fetched ok.asked (λ v has le p below. go v has le p below (dec_lt v u))
      where
        go : (v : UnitNo) → Has (map_of (lay_of c.layout)) v → v ≤ u → (p : Pos) → p < c.position.0 → Dec (v < u) → MarkedBy h v p gone c.layout.epoch.0
        go v has le p below (yes lt) = ok.behind v has lt p below
        go v has le p below (no ge) = let same : u ≡ v = omega arith in subst (λ w. MarkedBy h w p gone c.layout.epoch.0) same (mks p below)

    pub prune_refused : (k : ℕ) → TurnOk h c (on_pruned c u (Refused k))
    prune_refused k = otherwise_ok k (λ not_fine. other_quiet (is_prune ok.is_prune))

  module _ (ok : ReadingOk h c.work c.layout c.position u) where
    -- what the tail answered is what the read returns
    read_there : {r : Answer} → Saw h u c.layout.epoch.0 c.position.0 r → WasRead h c.position.0 c.layout.epoch.0 r
    read_there {r} saw =
        let same : saw.by ≡ map_of (lay_of c.layout)
        = laid_one run (laid_on saw.past saw.takes.laid) ok.fetched.laid (omega (arith, saw.epoch_is, epoch_of_lem c.layout)) in
        record {
          moment = saw.moment;
          past = saw.past;
          by = map_of (lay_of c.layout);
          epoch_is = epoch_of_lem c.layout;
          read = record { tail = u; is_tail = ok.is_tail; takes = subst (λ L. Takes saw.moment u L) same saw.takes; answers = saw.answers };
        }

    returned : {r : Answer} (n : ℕ) (x : PageValue) → Saw h u c.layout.epoch.0 c.position.0 r → ((s : Answer) → Returns (outcome_of c n x) s → s ≡ r) → OutcomeOk h c.work c.page (outcome_of c n x)
    returned {r} n x saw only = record {
      append_done = λ is done. absurd (let both = sym ok.is_read ∙ is in let z : ◌≡◌ {A = ℕ} 0 1 = cc in omega arith);
      was_read = λ {p} {r = s} is returns.
          let same : c.position ≡ p = cc (ok.is_read, is) in
          let there = subst (λ t. WasRead h c.position.0 c.layout.epoch.0 t) (sym (only s returns)) (read_there saw) in
          subst (λ (q : Position). WasRead h q.0 c.layout.epoch.0 s) same there;
    }

    pub read_shown : (x : PageValue) → Saw h u c.layout.epoch.0 c.position.0 (shows (carried x)) → TurnOk h c (on_read c Shown x)
    read_shown x saw = page_cases (TurnOk h c) c x (λ fits. over_ok c 0 x refl refl (returned 0 x saw only)) (λ misfit. rests_ok)
      where
        only : (s : Answer) → Returns (outcome_of c 0 x) s → s ≡ shows (carried x)
        only s (returns_page e) = refl
        only s (returns_trimmed e) = absurd (omega (arith, e))
        only s (returns_unwritten e) = absurd (omega (arith, e))

    pub read_gone : (x : PageValue) → Saw h u c.layout.epoch.0 c.position.0 trimmed → TurnOk h c (on_read c (Refused 5) x)
    read_gone x saw = otherwise_ok 5 (λ not_fine. returned 5 no_page saw only)
      where
        only : (s : Answer) → Returns (outcome_of c 5 no_page) s → s ≡ trimmed
        only s (returns_page e) = absurd (omega (arith, e))
        only s (returns_trimmed e) = refl
        only s (returns_unwritten e) = absurd (omega (arith, e))

    pub read_none : (x : PageValue) → Saw h u c.layout.epoch.0 c.position.0 unwritten → TurnOk h c (on_read c (Refused 7) x)
    read_none x saw = otherwise_ok 7 (λ not_fine. returned 7 no_page saw only)
      where
        only : (s : Answer) → Returns (outcome_of c 7 no_page) s → s ≡ unwritten
        only s (returns_page e) = absurd (omega (arith, e))
        only s (returns_trimmed e) = absurd (omega (arith, e))
        only s (returns_unwritten e) = refl

    pub read_refused : (k : ℕ) (x : PageValue) → ¬ (k ≡ 0) → ¬ (k ≡ 5) → ¬ (k ≡ 7) → TurnOk h c (on_read c (Refused k) x)
    read_refused k x k0 k5 k7 = otherwise_ok k (λ not_fine. quiet_ok c k k0 k5 k7)
