-- A begin: what the operation asks for is an event, and its client then vouches for its work.
-- Rests on Turning.
use mathlib.Core.Path.{◌≡◌, refl, sym, ap, subst}
use mathlib.Core.Bool.{Bool, true, false, not, cond}
use mathlib.Core.List.{List, [], ◌∷◌, ◌++◌}
use Prim.Native.Nat.{ℕ, zero, suc, ◌≤◌}
use native.Mathlib.Omega.{arith}
use lib.Dec.{eqb, leb}
use lib.ListN.{length, take}
use borrow.Author.Tests.{eqb-true, leb-false, le-leb, not-false}
use Rattle.num.specs.Limits.{limit}
use Rattle.num.specs.Checks.{lowest, ◌if◌}
use Rattle.num.proofs.Tests.{cond_zero}
use Rattle.layout.specs.declared.Layout.{Layout}
use Rattle.layout.specs.Value.{padded}
use Rattle.client.specs.declared.Ask.TheVariants as ask
use Rattle.client.specs.declared.Work.{Work}
use Rattle.client.specs.declared.Work.TheVariants as work
use Rattle.client.specs.declared.state.Job.{Job}
use Rattle.client.specs.declared.Client.{Client}
use Rattle.client.specs.Message.{page_limit, plain}
use Rattle.client.specs.Job.{past, too_long, too_many_drops, job_checks, position_for, page_for, data_page}
use Rattle.client.specs.Begin.{ready_checks, with_job, begin_turn}
use Rattle.client.proofs.Turns.{begin_cases}
use Rattle.rule.specs.declared.Step.TheVariants.{Begin}
use Rattle.rule.specs.World.{World, is_client, client_at, letter_limit}
use Rattle.rule.specs.Serve.{kind_of, bytes_of}
use Rattle.rule.specs.Steps.{refused, turned, begin_number, begins, step}
use Rattle.rule.proofs.Lists.{client_range}
use Rattle.rule.proofs.Tidy.{begin_fine}
use Rattle.history.specs.Words.Page.{bytes}
use Rattle.history.specs.History.{Note, History, ◌⊑◌, Noted, held}
use Rattle.history.specs.History.Note.{append, fill_at, trim_at, prune_to}
use Rattle.history.specs.History.Event.{ask as asking}
use Rattle.history.specs.History.History.{◌▹◌}
use Rattle.history.specs.History.◌⊑◌.{here, later}
use Rattle.history.specs.History.Noted.{noted_now, noted_before}
use Rattle.history.specs.History.MarkNoted.{by_fill}
use Rattle.history.specs.Events.Run.{run_step}
use Rattle.vouch.proofs.Carried.{page_with, carried}
use Rattle.vouch.specs.Runs.{Move, Moves, world}
use Rattle.vouch.proofs.Fields.{Wants, Asked}
use Rattle.vouch.specs.Runs.Moves.{◌▸◌}
use Rattle.vouch.specs.Runs.◌≼◌.{all_of}
use Rattle.vouch.proofs.Fields.Wants.{wants_append, wants_fill, wants_trim, wants_prune}
use Rattle.history.proofs.Moments.{part_trans}
use Rattle.vouch.proofs.Untouched.{ask_is}
use Rattle.vouch.proofs.Meaning.{WorkOk}
use Rattle.vouch.proofs.Meaning.AskOk.{fetch_ok}
use Rattle.vouch.proofs.Meaning.Waits.{waits_fetch}
use Rattle.vouch.proofs.Turns.{TurnOk, sends_ok}
use Rattle.vouch.proofs.Turns.TurnOk.{rests_ok}
use Rattle.vouch.proofs.Together.{Good, Next, Or, letters_on, stages_on}
use Rattle.vouch.proofs.Together.Or.{either, other}
use Rattle.vouch.proofs.Turning.{refused_ok, turned_ok}

-- ---- the page of an append: its first len bytes, as data (`data_bytes` is a result, which specs/Runs names)

take_padded : (n m : ℕ) (xs : List ℕ) → n ≤ m → n ≤ length xs → take n (padded m 0 (take n xs)) ≡ take n xs
unfolding padded
take_padded zero m xs fits long = refl
take_padded (suc n) zero xs fits long = absurd (omega arith)
take_padded (suc n) (suc m) [] fits long = absurd (omega arith)
take_padded (suc n) (suc m) (x ∷ xs) fits long = ap (λ ys. x ∷ ys) (take_padded n m xs (omega arith) (omega arith))

pub data_bytes : (n : ℕ) (xs : List ℕ) → n ≤ page_limit → n ≤ length xs → bytes_of (data_page n xs) ≡ take n xs
unfolding bytes_of
data_bytes n xs fits long = rw (le-leb n page_limit fits) (take_padded n page_limit xs fits long)

-- it is no junk
pub data_carried : (n : ℕ) (xs : List ℕ) → carried (data_page n xs) ≡ bytes (bytes_of (data_page n xs))
unfolding kind_of
data_carried n xs = go (leb n page_limit)
  where
    go : (b : Bool) → page_with (cond b 1 0) (bytes_of (data_page n xs)) ≡ bytes (bytes_of (data_page n xs))
    go true = refl
    go false = refl

-- ---- an event `ask`

asked_good : {l : Layout} {ms : Moves} {h : History} {w : World} (n : Note) → Good l ms h w → Good l ms (h ▹ asking n) w
unfolding held
asked_good {l} {h = h} {w} n good =
    let run = run_step {ev = asking n} good.machines.run tt in
    record {
      machines = record {
        run = run;
        held_is = good.machines.held_is;
        held_good = good.machines.held_good;
        sequencer_low = good.machines.sequencer_low;
        units_long = good.machines.units_long;
        units = λ u low high. ask_is (good.machines.units u low high);
      };
      clients_long = good.clients_long;
      stages = stages_on run (later here) w good.stages;
      letters = letters_on l all_of run (later here) good.letters;
    }

-- what a job asks for is noted, and its work vouched for
record Begun (l : Layout) (ms : Moves) (h : History) (w : World) (j : Job) (u : Work) : Type 0 where
  now : History
  part : h ⊑ now
  good : Good l ms now w
  works : WorkOk now u (position_for u) (page_for u j.len j.bytes)
  notes : (n : Note) → Noted now n → Or (Noted h n) (Wants j n)

note_wants : {h : History} {n k : Note} {j : Job} → Wants j n → Noted (h ▹ asking n) k → Or (Noted h k) (Wants j k)
note_wants wants noted_now = other wants
note_wants wants (noted_before noted) = either noted

begun : (l : Layout) (ms : Moves) {h : History} {w : World} (j : Job) (u : Work) → Good l ms h w → j.work ≡ u → past u ≡ false → Begun l ms h w j u
unfolding kind_of
begun l ms {h} j work.Append good is low = record {
  now = h ▹ asking (append (bytes (bytes_of (data_page j.len j.bytes))));
  part = later here;
  good = asked_good (append (bytes (bytes_of (data_page j.len j.bytes)))) good;
  works = subst (λ X. Noted (h ▹ asking (append (bytes (bytes_of (data_page j.len j.bytes))))) (append X)) (sym (data_carried j.len j.bytes)) noted_now;
  notes = λ n. note_wants (wants_append is);
}
begun l ms {h} j (work.Read p) good is low =
    record { now = h; part = here; good = good; works = (refl, leb-false limit p.0 low); notes = λ n. either }
begun l ms {h} j (work.Fill p) good is low = record {
  now = h ▹ asking (fill_at p.0);
  part = later here;
  good = asked_good (fill_at p.0) good;
  works = (by_fill noted_now, leb-false limit p.0 low);
  notes = λ n. note_wants (wants_fill is);
}
begun l ms {h} j (work.Trim p) good is low = record {
  now = h ▹ asking (trim_at p.0);
  part = later here;
  good = asked_good (trim_at p.0) good;
  works = (noted_now, leb-false limit p.0 low);
  notes = λ n. note_wants (wants_trim is);
}
begun l ms {h} j (work.Prune p) good is low = record {
  now = h ▹ asking (prune_to p.0);
  part = later here;
  good = asked_good (prune_to p.0) good;
  works = noted_now;
  notes = λ n. note_wants (wants_prune is);
}
begun l ms {h} j work.Reorganise good is low = record { now = h; part = here; good = good; works = tt; notes = λ n. either }

-- ---- the begin

begin_turn_lem : {h : History} (c : Client) (j : Job) (shape : ℕ) → WorkOk h j.work (position_for j.work) (page_for j.work j.len j.bytes) → TurnOk h c (begin_turn c j shape)
begin_turn_lem {h} c j shape works = begin_cases (TurnOk h c) c j shape (λ fine. sends_ok (with_job c j) (plain ask.Fetch) refl refl refl works waits_fetch fetch_ok) (λ refused. rests_ok)

-- the yard's checks and the job's let it through
record Ready (w : World) (c : ℕ) (j : Job) : Type 0 where
  of_client : is_client c ≡ true
  near : past j.work ≡ false

ready : (w : World) (c : ℕ) (j : Job) → begin_number w c j ≡ 0 → Ready w c j
unfolding begin_number
ready w c j e =
    let called = cond_zero (not (is_client c)) 17 (lowest (ready_checks (client_at w c) ++ (16 if leb letter_limit (length w.letters) ∷ job_checks j w.held.shape))) (omega arith) e in
    let asked = cond_zero (past j.work) 2 (cond (too_long j.work j.len w.held.shape) 3 (cond (too_many_drops j.work j.change.count) 10 0)) (omega arith) (begin_fine w c j e).1 in
    record { of_client = not-false (is_client c) called.0; near = asked.0 }

or_then : {A B C : Type 0} → Or A B → (B → C) → Or A C
or_then (either a) f = either a
or_then (other b) f = other (f b)

module _ (l : Layout) (ms : Moves) (c : ℕ) (j : Job) {h : History} (good : Good l ms h (world l ms)) where
  abbrev m : Move
  m = record { does = Begin c; job = j }

  asks : eqb (begin_number (world l ms) c j) 0 ≡ true → (n : Note) → Wants j n → Asked l (ms ▸ m) n
  unfolding step begins turned
  asks e n wants =
      let w = world l ms in
      record {
        before = ms;
        move = m;
        within = all_of;
        client = c;
        begins = refl;
        not_refused = ap (λ (b : Bool). (cond b (turned w w.letters c (begin_turn (client_at w c) j w.held.shape)) (refused w (begin_number w c j))).answer) e;
        wants = wants;
      }

  fine : eqb (begin_number (world l ms) c j) 0 ≡ true → Next l ms m h (world l ms) (turned (world l ms) (world l ms).letters c (begin_turn (client_at (world l ms) c) j (world l ms).held.shape))
  fine e =
      let w = world l ms in
      let ok = ready w c j (eqb-true (begin_number w c j) 0 e) in
      let range = client_range c ok.of_client in
      let b = begun l ms j j.work good refl ok.near in
      let next = turned_ok l ms m b.good c range.0 range.1 ok.of_client w.letters b.good.letters (begin_turn (client_at w c) j w.held.shape) (begin_turn_lem (client_at w c) j w.held.shape b.works) in
      record {
        now = next.now;
        part = part_trans b.part next.part;
        good = next.good;
        asked = λ n noted. join n (b.notes n) (next.asked n noted) (λ wants. asks e n wants);
        outcome_ok = next.outcome_ok;
      }
    where
      join : {A B D E : Type 0} (n : Note) → (A → Or B D) → Or A E → (D → E) → Or B E
      join n f (either a) g = or_then (f a) g
      join n f (other e) g = other e

  pub begin_ok : Next l ms m h (world l ms) (begins (world l ms) c j)
  unfolding begins
  begin_ok = go (eqb (begin_number (world l ms) c j) 0) refl
    where
      w : World
      w = world l ms

      go : (b : Bool) → eqb (begin_number w c j) 0 ≡ b → Next l ms m h w (cond b (turned w w.letters c (begin_turn (client_at w c) j w.held.shape)) (refused w (begin_number w c j)))
      go true e = fine e
      go false e = refused_ok l ms m good (begin_number w c j)
