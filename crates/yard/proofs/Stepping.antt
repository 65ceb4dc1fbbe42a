-- The moves that each step decides do what its rule says.
use Prim.Native.Nat.{ℕ, ◌+◌, ◌-◌, ◌<◌, ◌≤◌}
use mathlib.Core.Bool.{Bool, true, false, not, cond}
use mathlib.Core.List.{List, [], ◌∷◌, ◌++◌, append-nil}
use mathlib.Core.Path.{◌≡◌, refl, sym, ap, ◌∙◌}
use native.Mathlib.Omega.{arith}
use borrow.Author.Tests.{lt-ltb, le-ltb, leb-false, eq-eqb, ne_eqb}
use lib.Dec.{eqb, leb}
use lib.ListN.{length, get_or}
use Rattle.num.specs.Checks.{Check, lowest, ◌if◌}
use Rattle.num.proofs.Tests.{false_true, cond_zero}
use Rattle.std.specs.Prelude.{Result, Err}
use Rattle.num.specs.declared.refusal.Refusal.{Refusal}
use Rattle.num.specs.Refusals.{number as number_of}
use Rattle.unit.specs.State.{State}
use Rattle.sequencer.specs.declared.Sequencer.{Sequencer}
use Rattle.sequencer.specs.declared.Asked.TheVariants as asked
use Rattle.sequencer.specs.Rules.{after}
use Rattle.client.specs.declared.Query.{Query}
use Rattle.client.specs.declared.Client.{Client}
use Rattle.client.specs.declared.state.Job.{Job}
use Rattle.client.specs.Turn.{Act, Rests, Sends, Ends, Turn}
use Rattle.client.specs.Client.{fresh, last_number, busy}
use Rattle.client.specs.Job.{job_checks}
use Rattle.client.specs.Begin.{ready_checks, ready_answer, begin_answer, begin_turn, give_up, restart_answer, restarted}
use Rattle.client.proofs.Turns.{give_up_cases}
use Rattle.rule.specs.declared.Letter.{Letter}
use Rattle.rule.specs.declared.Yard.{Yard}
use Rattle.rule.specs.World.{is_client, running}
use Rattle.rule.specs.Steps.{Done, refused, fine, keeping, without, posted, turned, begin_number, begins, drops, stops, restart_number, restarts, gives_up, forgets}
use Rattle.yard.specs.declared.moves.Core.{Core}
use Rattle.yard.specs.declared.moves.Moves.{Moves as Decision}
use Rattle.yard.specs.InsideMoves.{moves_in, world_with, posting, done_of, Moved, quiet, refusing, with_client_in, with_stopped_in, sends, letter_of, turning}

-- a refusal that `?` passes on
pub passed_on : (k : Core) {r : Result Decision Refusal} {e : Refusal} → (x : Refusal) × (r ≡ Err x) × (x ≡ e) → moves_in k r ≡ refusing k.yard k.sequencer (number_of e)
passed_on k is = rw (is.1, is.2)

-- a step that no operation ends with, and that leaves the letters
pub moved_quiet : {rule : List Letter → List State → Done} {n i : ℕ} (y : Yard) (s : Sequencer) (k : ℕ) → y.count ≡ n
    → ((ls : List Letter) (us : List State) → length ls ≡ n → rule ls us ≡ refused (world_with y s ls us) k) → Moved rule n i (quiet y s true k)
moved_quiet y s k q h = record {
  done_is = λ ls us e. h ls us e ∙ ap (λ (l : List Letter). refused (world_with y s l us) k) (sym (append-nil ls));
  count_is = q;
  there = λ z. absurd (false_true (sym z));
  room = λ l. omega arith;
}

-- of a table with one row
pub lowest_one : (k : ℕ) (b : Bool) (n : ℕ) → (k ≡ 0 → ⊥) → k ≡ cond b n 0 → k ≡ n
lowest_one k true n z e = e
lowest_one k false n z e = absurd (z e)

-- ---- a client's turn

pub sent_is : (c life : ℕ) (a : Act) (q : Query) → posted c life a q ≡ posting (sends a) (letter_of c life a q)
sent_is c life Rests q = refl
sent_is c life (Sends n) q = refl
sent_is c life Ends q = refl

pub turned_is : (y : Yard) (s : Sequencer) (ls : List Letter) (us : List State) (keep : Bool) (i c : ℕ) (t : Turn)
    → turned (world_with y s ls us) (keeping keep i ls) c t ≡ done_of ls i (turning y s keep c t) us
unfolding turned
turned_is y s ls us keep i c t = rw (sent_is c t.client.life t.act t.query)

-- ---- begin

ready_then : (a b : Bool) (rest : List Check) → lowest (18 if a ∷ 19 if b ∷ rest) ≡ cond (not (eqb (lowest (18 if a ∷ 19 if b ∷ [])) 0)) (lowest (18 if a ∷ 19 if b ∷ [])) (lowest rest)
ready_then true b rest = refl
ready_then false true rest = refl
ready_then false false rest = refl

pub ready_first : (c : Client) (rest : List Check) → lowest (ready_checks c ++ rest) ≡ cond (not (eqb (ready_answer c) 0)) (ready_answer c) (lowest rest)
ready_first c rest = ready_then (busy c.stage) (leb last_number c.used.0) rest

module _ (y : Yard) (s : Sequencer) (c : ℕ) where
  abbrev pub known : Client
  known = get_or y.clients (c - 1) fresh

  module _ (j : Job) where
    abbrev pub number : ℕ
    number = lowest (ready_checks known ++ (16 if leb 32 y.count ∷ job_checks j y.held.shape))

    pub begins_nobody : is_client c ≡ false → Moved (λ ls us. begins (world_with y s ls us) c j) y.count 0 (refusing y s 17)
    unfolding begins begin_number
    begins_nobody q = moved_quiet y s 17 refl (λ ls us e. rw q)

    number_is : number ≡ cond (not (eqb (ready_answer known) 0)) (ready_answer known) (cond (leb 32 y.count) 16 (lowest (job_checks j y.held.shape)))
    number_is = ready_first known (16 if leb 32 y.count ∷ job_checks j y.held.shape)

    -- the client is not ready, the bag is full, or what is asked is not to be had
    pub unready : {k : ℕ} → (k ≡ 0 → ⊥) → k ≡ ready_answer known → k ≡ number
    unready {k} z e = rw (number_is, ne_eqb (ready_answer known) 0 (λ t. z (e ∙ t))) e

    pub crowded : {k : ℕ} → (k ≡ 0 → ⊥) → ready_answer known ≡ 0 → k ≡ cond (leb 32 y.count) 16 0 → k ≡ number
    crowded {k} z r e = rw (number_is, r) (go (leb 32 y.count) e)
      where
        go : (b : Bool) → k ≡ cond b 16 0 → k ≡ cond b 16 (lowest (job_checks j y.held.shape))
        go true f = f
        go false f = absurd (z f)

    pub unasked : {k : ℕ} → ready_answer known ≡ 0 → ◌≡◌ {A = ℕ} (cond (leb 32 y.count) 16 0) 0 → k ≡ begin_answer known j y.held.shape → k ≡ number
    unasked {k} r b e = rw (number_is, r, (cond_zero (leb 32 y.count) 16 0 (omega arith) b).0) (rw r at (e ∙ ready_first known (job_checks j y.held.shape)))

    module _ (q : is_client c ≡ true) where
      pub begins_refused : {k : ℕ} → (k ≡ 0 → ⊥) → k ≡ number → Moved (λ ls us. begins (world_with y s ls us) c j) y.count 0 (refusing y s k)
      unfolding begins begin_number
      begins_refused {k} z n = rw n (moved_quiet y s number refl (λ ls us e. rw (q, e, ne_eqb number 0 (λ t. z (n ∙ t)))))

      full_not : number ≡ 0 → y.count < 32
      full_not z =
          let (a, u) = cond_zero (busy known.stage) 18 _ (omega arith) z in
          let (b, v) = cond_zero (leb last_number known.used.0) 19 _ (omega arith) u in
          let (d, w) = cond_zero (leb 32 y.count) 16 _ (omega arith) v in
          leb-false 32 y.count d

      one_more : (b : Bool) (n : ℕ) → n < 32 → n + cond b 1 0 ≤ 32
      one_more true n h = omega arith
      one_more false n h = omega arith

      pub begins_turned : number ≡ 0 → Moved (λ ls us. begins (world_with y s ls us) c j) y.count 0 (turning y s true c (begin_turn known j y.held.shape))
      unfolding begins begin_number
      begins_turned z = record {
        done_is = λ ls us e. rw (q, e, eq-eqb number 0 z) (turned_is y s ls us true 0 c (begin_turn known j y.held.shape));
        count_is = refl;
        there = λ t. absurd (false_true (sym t));
        room = λ l. one_more (sends (begin_turn known j y.held.shape).act) y.count (full_not z);
      }

  -- ---- restart, give up

  pub restarts_nobody : is_client c ≡ false → Moved (λ ls us. restarts (world_with y s ls us) c) y.count 0 (refusing y s 17)
  unfolding restarts restart_number
  restarts_nobody q = moved_quiet y s 17 refl (λ ls us e. rw q)

  pub gives_up_nobody : is_client c ≡ false → Moved (λ ls us. gives_up (world_with y s ls us) c) y.count 0 (refusing y s 17)
  unfolding gives_up
  gives_up_nobody q = moved_quiet y s 17 refl (λ ls us e. rw q)

  module _ (q : is_client c ≡ true) where
    pub restarts_spent : {k : ℕ} → (k ≡ 0 → ⊥) → k ≡ restart_answer known → Moved (λ ls us. restarts (world_with y s ls us) c) y.count 0 (refusing y s k)
    unfolding restarts restart_number
    restarts_spent {k} z e = let n : k ≡ 19 = lowest_one k _ 19 z e in rw n (moved_quiet y s 19 refl (λ ls us f. rw (q, ne_eqb (restart_answer known) 0 (λ t. z (e ∙ t)))))

    pub restarts_fine : restart_answer known ≡ 0 → Moved (λ ls us. restarts (world_with y s ls us) c) y.count 0 (quiet (with_client_in y c (restarted known)) s true 0)
    unfolding restarts restart_number
    restarts_fine z = moved_quiet (with_client_in y c (restarted known)) s 0 refl (λ ls us e. rw (q, eq-eqb (restart_answer known) 0 z))

    -- one who gives up sends nothing
    silent : (x : Client) → sends (give_up x).act ≡ false
    silent x = give_up_cases (λ t. sends t.act ≡ false) x (λ working. refl) (λ resting. refl)

    pub gives_up_turned : Moved (λ ls us. gives_up (world_with y s ls us) c) y.count 0 (turning y s true c (give_up known))
    unfolding gives_up
    gives_up_turned = record {
      done_is = λ ls us e. rw q (turned_is y s ls us true 0 c (give_up known));
      count_is = refl;
      there = λ t. absurd (false_true (sym t));
      room = λ l. rw (silent known) (omega arith);
    }

-- ---- drop, stop, forget

module _ (y : Yard) (s : Sequencer) where
  pub drops_nobody : (i : ℕ) → y.count ≤ i → Moved (λ ls us. drops (world_with y s ls us) i) y.count i (refusing y s 17)
  unfolding drops
  drops_nobody i h = moved_quiet y s 17 refl (λ ls us e. rw (e, le-ltb i y.count h))

  pub drops_fine : (i : ℕ) → i < y.count → Moved (λ ls us. drops (world_with y s ls us) i) y.count i (quiet y s false 0)
  unfolding drops
  drops_fine i h = record {
    done_is = λ ls us e. rw (e, lt-ltb i y.count h) (ap (λ (l : List Letter). fine (world_with y s l us)) (sym (append-nil (without i ls))));
    count_is = refl;
    there = λ t. h;
    room = λ l. omega arith;
  }

  pub stops_nobody : (u : ℕ) → running y.stopped u ≡ false → Moved (λ ls us. stops (world_with y s ls us) u) y.count 0 (refusing y s 17)
  unfolding stops
  stops_nobody u q = moved_quiet y s 17 refl (λ ls us e. rw q)

  pub stops_fine : (u : ℕ) → running y.stopped u ≡ true → Moved (λ ls us. stops (world_with y s ls us) u) y.count 0 (quiet (with_stopped_in y u) s true 0)
  unfolding stops
  stops_fine u q = moved_quiet (with_stopped_in y u) s 0 refl (λ ls us e. rw q)

  pub forgets_fine : Moved (λ ls us. forgets (world_with y s ls us)) y.count 0 (quiet y (after s asked.Forget) true 0)
  unfolding forgets
  forgets_fine = moved_quiet y (after s asked.Forget) 0 refl (λ ls us e. refl)
