-- After any moves, the page of an append that is done is answerable again: demand 3's last sentence over runs of the yard.
-- Rests on LastSentence and on demand 3 (Stated).
use mathlib.Core.Path.{◌≡◌, refl, sym, ap, subst, ◌∙◌}
use mathlib.Core.Bool.{true, false}
use mathlib.Core.List.{List, [], ◌∷◌}
use Prim.Native.Nat.{ℕ, ◌<◌}
use native.Mathlib.Omega.{arith}
use lib.ListN.{length}
use Rattle.num.specs.Limits.{limit}
use Rattle.num.specs.declared.Position.{Position}
use Rattle.layout.specs.declared.Layout.{Layout}
use Rattle.layout.specs.Value.{good_value, blank}
use Rattle.client.specs.declared.Ask.{Ask}
use Rattle.client.specs.declared.UnitAsk.TheVariants as unit_ask
use Rattle.client.specs.declared.Page.{Page}
use Rattle.client.specs.declared.Ask.TheVariants as ask
use Rattle.client.specs.Message.{no_page, plain}
use Rattle.client.specs.declared.Work.TheVariants.{Read}
use Rattle.client.specs.declared.state.Job.{Job}
use Rattle.client.specs.declared.Outcome.{Outcome}
use Rattle.client.specs.Client.{busy, job_of}
use Rattle.rule.specs.World.{World, client_at, letter_at}
use Rattle.rule.specs.Serve.{serve}
use Rattle.rule.specs.Steps.{Done, request, answer_to, step}
use Rattle.history.specs.Words.{Answer}
use Rattle.vouch.specs.Runs.{Move, Moves, ◌≼◌, Stepping, result, result_by, world, world_by}
use Rattle.vouch.specs.Runs.Moves.{◌▸◌}
use Rattle.vouch.specs.Runs.◌≼◌.{all_of, part_of}
use Rattle.vouch.specs.Operations.{Asked}
use Rattle.vouch.specs.Demand.{AppendDone, CutAsked, Rightly, OrSealed}
use Rattle.vouch.specs.Demand.CutAsked.{by_trim, by_prune}
use Rattle.vouch.specs.Demand.Rightly.{that_page, trim_asked}
use Rattle.vouch.specs.Demand.OrSealed.{not_sealed, was_sealed}
use Rattle.vouch.specs.LastSentence.{Goes, begin, deliver, exchanges, reorganising, new_layout, Conditions, DropsStopped, Answering, ◌▸▸◌, Again}
use Rattle.vouch.specs.LastSentence.Goes.{ends, goes}
use Rattle.vouch.specs.LastSentence.Answering.{page, trimmed, unwritten}
use Rattle.vouch.proofs.Fields.{Returns, ReadEnds, Reaches, InForce}
use Rattle.vouch.proofs.Fields.Returns.{returns_page, returns_trimmed, returns_unwritten}
use Rattle.vouch.proofs.Together.{within_trans}
use Rattle.vouch.proofs.Reaching.{reaches_out}
use Rattle.vouch.proofs.Stated.{read_stated, demand_3}
use Rattle.vouch.proofs.Forward.{Sound, offered_good}
use Rattle.vouch.proofs.Reread.{tail}
use Rattle.vouch.proofs.LastSentence.{job, W, ready_again, read, epoch_is, tells, reorganised, last_sentence}

-- ---- more moves

pub goes_world : {f : Stepping} (l : Layout) (ms : Moves) {list : List Move} {d : Done} {w : World} → world_by f l ms ≡ w → Goes f w list d → world_by f l (ms ▸▸ list) ≡ d.world
unfolding world_by ◌▸▸◌
goes_world {f} l ms is (ends {m = m} a) = ap (λ z. (result_by f z m).world) is
goes_world {f} l ms is (goes {m = m} a b rest) = goes_world l (ms ▸ m) (ap (λ z. (result_by f z m).world) is) rest

within_more : (list : List Move) {ms₁ ms : Moves} → ms₁ ≼ ms → ms₁ ≼ (ms ▸▸ list)
unfolding ◌▸▸◌
within_more [] part = part
within_more (m ∷ list) part = within_more list (part_of part)

asked_more : {l : Layout} {ms ms' : Moves} {k : Job} → ms ≼ ms' → Asked step l ms k → Asked step l ms' k
asked_more part a = record { before = a.before; move = a.move; within = within_trans a.within part; client = a.client; begins = a.begins }

cut_more : {l : Layout} {ms ms' : Moves} {p : ℕ} → ms ≼ ms' → CutAsked step l ms p → CutAsked step l ms' p
cut_more part (by_trim a is at) = by_trim (asked_more part a) is at
cut_more part (by_prune a is lt) = by_prune (asked_more part a) is lt

rightly_more : {l : Layout} {ms ms' : Moves} {p : ℕ} {X : Page} {o : Outcome} → ms ≼ ms' → Rightly step l ms p X o → Rightly step l ms' p X o
rightly_more part (that_page n is) = that_page n is
rightly_more part (trim_asked n c) = trim_asked n (cut_more part c)

-- a page, trimmed or unwritten is not sealed
not_four : {n : ℕ} → Answering n → ¬ (n ≡ 4)
not_four page e = omega (arith, e)
not_four trimmed e = omega (arith, e)
not_four unwritten e = omega (arith, e)

unsealed : {l : Layout} {ms : Moves} {p : ℕ} {X : Page} {o : Outcome} → OrSealed step l ms p X o → Answering o.number → Rightly step l ms p X o
unsealed (not_sealed r) answers = r
unsealed (was_sealed n) answers = absurd (not_four answers n)

-- ---- what an outcome returns

record Says (o : Outcome) : Type 0 where
  returned : Answer
  returns : Returns o returned

says : (o : Outcome) {n : ℕ} → o.number ≡ n → Answering n → Says o
says o e page = record { returned = _; returns = returns_page e }
says o e trimmed = record { returned = _; returns = returns_trimmed e }
says o e unwritten = record { returned = _; returns = returns_unwritten e }

-- ---- the read, among the moves

module _ (l : Layout) (good : good_value l ≡ true) (first : l.epoch.0 ≡ 1) (ms : Moves) (c : ℕ) (sound : Sound (world l ms)) (may : Conditions (world l ms) c) (j : Job) (drops : DropsStopped (world l ms) j) (p : Position) (below : p.0 < limit) where
  abbrev w : World
  w = world l ms

  abbrev after_it : World
  after_it = W w c sound may j drops

  abbrev ms₂ : Moves
  ms₂ = ms ▸▸ reorganising w c (job w c sound may j drops)

  reached : world l ms₂ ≡ after_it
  unfolding last_sentence reorganised
  reached = goes_world l ms refl (last_sentence w c sound may j drops p below).reorganised.goes

  abbrev b : Move
  b = begin c (job_of (Read p))

  abbrev d : Move
  d = deliver (length after_it.letters)

  -- before the request reaches the tail, and before the answer is taken
  abbrev ms₁ : Moves
  ms₁ = ms₂ ▸ b ▸ d ▸ d

  abbrev ms₃ : Moves
  ms₃ = ms₁ ▸ d

  at₁ : world l ms₁ ≡ (read w c sound may j drops p below).asked
  unfolding world_by
  at₁ = ap (λ (z : World). (result (result (result z b).world d).world d).world) reached ∙ (read w c sound may j drops p below).leads

  at₃ : world l ms₃ ≡ (result (read w c sound may j drops p below).asked d).world
  unfolding world_by
  at₃ = ap (λ (z : World). (result z d).world) at₁

  last_is : result (world l ms₃) d ≡ (read w c sound may j drops p below).done
  last_is = ap (λ (z : World). result z d) at₃ ∙ (read w c sound may j drops p below).last_is

  abbrev o : Outcome
  o = (read w c sound may j drops p below).done.outcome

  abbrev e : ℕ
  e = (new_layout w).epoch

  reads_end : (s : Says o) → ReadEnds l ms₃ d p.0 e s.returned
  reads_end s = record {
    client = c;
    position = p;
    ends = record {
      of_client = may.of_client;
      was_busy = ap (λ (z : World). busy (client_at z c).stage) at₃ ∙ (read w c sound may j drops p below).is_busy;
      work_is = ap (λ (z : World). (client_at z c).work) at₃ ∙ (read w c sound may j drops p below).work_is;
      who_is = ap (λ (x : Done). x.who) last_is ∙ (read w c sound may j drops p below).who;
    };
    position_is = refl;
    epoch_is = ap (λ (x : Done). x.outcome.epoch.0) last_is ∙ (tells w c sound may j drops p below).epoch_is;
    returns = subst (λ (x : Done). Returns x.outcome s.returned) (sym last_is) s.returns;
  }

  abbrev tail_there : ℕ
  tail_there = tail after_it c (ready_again w c sound may j drops) p below (offered_good w c sound may)

  abbrev ask_there : Ask
  ask_there = ask.Unit tail_there (unit_ask.Read after_it.held.epoch p)

  reaches : Reaches l ms₁ d ms₃ d p.0 e
  reaches = record {
    earlier = all_of;
    request = request (read w c sound may j drops p below).stamp_is (plain ask_there);
    delivers = record {
      place = length after_it.letters;
      keep = false;
      keep_answer = true;
      is_delivery = refl;
      letter_is = ap (λ (z : World). letter_at z (length after_it.letters)) at₁ ∙ (read w c sound may j drops p below).letter_is;
      not_refused = ap (λ (z : World). (result z d).answer) at₁ ∙ (read w c sound may j drops p below).brought;
    };
    unit = tail_there;
    epoch = after_it.held.epoch;
    position = p;
    asks = refl;
    epoch_is = epoch_is w c sound may j drops p below;
    position_is = refl;
    takes = record {
      place = length after_it.letters;
      keep = false;
      keep_answer = true;
      is_delivery = refl;
      letter_is =
          ap (λ (z : World). letter_at z (length after_it.letters)) at₃ ∙ ((read w c sound may j drops p below).answer_is
          ∙ ap (λ (z : World). answer_to (read w c sound may j drops p below).stamp_is (serve z ask_there no_page blank).response) (sym at₁));
      not_refused = ap (λ (x : Done). x.answer) last_is ∙ (read w c sound may j drops p below).fine_done;
    };
  }

  in_force : InForce l ms₁ e
  in_force = ap (λ (z : World). z.held.epoch.0) at₁ ∙ (ap (λ (k : Layout). k.epoch.0) (read w c sound may j drops p below).held_is ∙ epoch_is w c sound may j drops p below)

  -- by demand 3 of the reads of these moves
  pub again : {ms₀ : Moves} {m₀ : Move} {X : Page} → AppendDone step l ms₀ m₀ p.0 X → (ms₀ ▸ m₀) ≼ ms → Again step l ms c (job w c sound may j drops) p X
  unfolding last_sentence reorganised ◌▸▸◌ exchanges reaches
  again {X = X} append before =
      let s = says o refl (tells w c sound may j drops p below).answers in
      let ended : OrSealed step l ms₁ p.0 X (result (world l ms₃) d).outcome
      = (demand_3 l good first).after_done append (part_of (part_of (part_of (within_more (reorganising w c (job w c sound may j drops)) before)))) (reaches_out l reaches refl) in_force
      (read_stated l good first (reads_end s)) in
      record {
        answerable = last_sentence w c sound may j drops p below;
        rightly = rightly_more (part_of (part_of all_of))
            (unsealed (subst (λ (x : Done). OrSealed step l ms₁ p.0 X x.outcome) last_is ended) (tells w c sound may j drops p below).answers);
      }
