-- What is lent in a run of the code is `lent` of its moves (`ran_lent`), so that demand 3 is of the code: `of_code`, with no hypothesis but the promises of `fresh` and `step`.
-- Rests on Shapes.
use mathlib.Core.Path.{◌≡◌, refl, sym, ap, subst, ◌∙◌}
use mathlib.Core.Bool.{Bool, true, false, not, cond, ◌&&◌}
use mathlib.Core.List.{List, [], ◌∷◌}
use Prim.Native.Nat.{ℕ}
use native.Mathlib.Omega.{arith}
use borrow.Author.Tests.{eq-eqb, eqb-true, not-false}
use lib.Dec.{eqb}
use lib.ListN.{length, replicate, length-replicate}
use Rattle.num.specs.declared.Position.{Position}
use Rattle.num.proofs.Tests.{cond_zero, and_both}
use Rattle.layout.specs.declared.Layout.{Layout}
use Rattle.layout.specs.Value.{good_value}
use Rattle.unit.specs.declared.shape.Shape.{Shape}
use Rattle.unit.specs.Shape.{small, large, shape_for}
use Rattle.unit.proofs.Shapes.{small_known, large_known}
use Rattle.sequencer.specs.declared.Sequencer.{Sequencer}
use Rattle.sequencer.specs.Rules.{fresh}
use Rattle.client.specs.declared.Page.{Page}
use Rattle.client.specs.declared.state.Job.{Job}
use Rattle.rule.specs.declared.Letter.{Letter}
use Rattle.rule.specs.Stepped.{Stepped}
use Rattle.rule.specs.declared.Step.{Step}
use Rattle.rule.specs.World.{World, shape_under, blank_letter}
use Rattle.rule.specs.Steps.{Done, step}
use Rattle.rule.specs.Lent.{Lent, lent_number, seen, done, unlent, steps}
use Rattle.rule.specs.Fresh.{fresh_lent, makes, fresh_number_of, fresh_number}
use Rattle.vouch.specs.Runs.{Move, Moves, world_by, result, world}
use Rattle.vouch.specs.Runs.Moves.{none, ◌▸◌}
use Rattle.vouch.specs.Lending.{lent, stepped}
use Rattle.vouch.specs.LastSentence.{Goes, Conditions, DropsStopped, Again, reorganising, reading, ◌▸▸◌}
use Rattle.vouch.specs.LastSentence.Goes.{ends, goes}
use Rattle.vouch.specs.Shapes.{Vouched}
use Rattle.vouch.specs.CodeRuns.{Making, Call, Ran, Calls, Tells, AllTell, Ended, Comes, AgainCalled, OfCode}
use Rattle.vouch.specs.CodeRuns.Ran.{made, went}
use Rattle.vouch.specs.CodeRuns.Calls.{no_more, then}
use Rattle.vouch.specs.CodeRuns.AllTell.{none_yet, one_more}
use Rattle.vouch.specs.CodeRuns.Ended.{at_last, later}
use Rattle.vouch.proofs.Shapes as shapes

-- ---- what a call leaves

same_lent : (b b' : Lent) → b'.yard ≡ b.yard → b'.sequencer ≡ b.sequencer → b'.table ≡ b.table → b'.memories ≡ b.memories → b' ≡ b
same_lent b b' ey es et em = λ i. record { yard = ey i; sequencer = es i; table = et i; memories = em i }

-- a step hands back the yard that it leaves
same_yard : (b : Lent) (s : Step) (j : Job) → (steps b s j).stepped.yard ≡ (steps b s j).lent.yard
unfolding steps done unlent
same_yard b s j = go (eqb (lent_number b) 0)
  where
    go : (z : Bool) → (cond z (done b (step (seen b) s j)) (unlent b (lent_number b))).stepped.yard ≡ (cond z (done b (step (seen b) s j)) (unlent b (lent_number b))).lent.yard
    go true = refl
    go false = refl

call_leaves : {b b' : Lent} {m : Move} {r : Stepped} → Call b m r b' → b' ≡ (steps b m.does m.job).lent
call_leaves {b} {b'} {m} {r} k =
    let is = k.promise in
    same_lent (steps b m.does m.job).lent b' (k.yard_is ∙ ap (λ (x : Stepped). x.yard) is.result_is ∙ same_yard b m.does m.job)
    is.sequencer_is is.table_is is.memories_is

makes_fresh : (l : Layout) (s : Sequencer) (t : List Letter) (m : List ℕ) → fresh_number l t m ≡ 0 → makes l s t m ≡ fresh_lent l
unfolding makes
makes_fresh l s t m e = rw (eq-eqb (fresh_number l t m) 0 e)

module _ {l : Layout} where
  zero_number : {b : Lent} (k : Making l b) → fresh_number l k.table k.memories ≡ 0
  zero_number k = sym k.promise.answer_is ∙ k.fine

  making_leaves : {b : Lent} → Making l b → b ≡ fresh_lent l
  making_leaves {b} k =
      let is = k.promise in
      same_lent (makes l k.sequencer k.table k.memories) b (k.yard_is ∙ is.yard_is) is.sequencer_is is.table_is is.memories_is
      ∙ makes_fresh l k.sequencer k.table k.memories (zero_number k)

  pub ran_lent : {ms : Moves} {rs : List Stepped} {b : Lent} → Ran l ms rs b → b ≡ lent l ms
  unfolding lent
  ran_lent (made k) = making_leaves k
  ran_lent (went {m = m} ran k) = call_leaves k ∙ ap (λ (x : Lent). (steps x m.does m.job).lent) (ran_lent ran)

-- ---- `fresh` answers 0 only to a good layout of epoch 1

record First (l : Layout) : Type 0 where
  good : good_value l ≡ true
  epoch : l.epoch.0 ≡ 1

first_of : (l : Layout) (t : List Letter) (m : List ℕ) → fresh_number l t m ≡ 0 → First l
unfolding fresh_number fresh_number_of
first_of l t m e =
    let a = cond_zero (not (eqb (length m) 49344)) 1 _ (omega arith) e in
    let b = cond_zero (not (good_value l && eqb l.epoch.0 1)) 10 _ (omega arith) a.1 in
    let both = and_both (good_value l) (eqb l.epoch.0 1) (not-false (good_value l && eqb l.epoch.0 1) b.0) in
    record { good = both.0; epoch = eqb-true l.epoch.0 1 both.1 }

ran_first : {l : Layout} {ms : Moves} {rs : List Stepped} {b : Lent} → Ran l ms rs b → First l
ran_first {l} (made k) = first_of l k.table k.memories (zero_number k)
ran_first (went ran k) = ran_first ran

-- ---- what the calls tell

ran_vouched : {l : Layout} {ms : Moves} {rs : List Stepped} {b : Lent} → Ran l ms rs b → Vouched (shape_under l) l
ran_vouched {l} ran = let f = ran_first ran in shapes.vouched l f.good f.epoch

ran_seen : {l : Layout} {ms : Moves} {rs : List Stepped} {b : Lent} → Ran l ms rs b → seen b ≡ world l ms
ran_seen {ms = ms} ran = ap seen (ran_lent ran) ∙ ((ran_vouched ran).lends ms).seen_is

call_tells : {l : Layout} {ms : Moves} {rs : List Stepped} {b b' : Lent} {m : Move} {r : Stepped} → Ran l ms rs b → Call b m r b' → Tells r (result (world l ms) m)
call_tells {l} {ms} {m = m} {r} ran k =
    let is = (ran_vouched ran).lends ms in
    let handed : r ≡ (steps (lent l ms) m.does m.job).stepped = k.promise.result_is ∙ ap (λ (x : Lent). (steps x m.does m.job).stepped) (ran_lent ran) in
    record {
      answer_is = ap (λ (x : Stepped). x.answer) handed ∙ is.answer_is m;
      who_is = ap (λ (x : Stepped). x.who) handed ∙ is.who_is m;
      outcome_is = ap (λ (x : Stepped). x.outcome) handed ∙ is.outcome_is m;
    }

all_tell : {l : Layout} {ms : Moves} {rs : List Stepped} {b : Lent} → Ran l ms rs b → AllTell l ms rs
all_tell (made k) = none_yet
all_tell (went ran k) = one_more (all_tell ran) (call_tells ran k)

-- calls of moves that go on undisturbed
record Came (l : Layout) (ms : Moves) (moves : List Move) (d : Done) (rs : List Stepped) (b' : Lent) : Type 0 where
  ended : Ended d rs
  all : List Stepped
  ran : Ran l (ms ▸▸ moves) all b'
  world_is : world l (ms ▸▸ moves) ≡ d.world

calls_come : {l : Layout} {ms : Moves} {so : List Stepped} {w : World} {b b' : Lent} {moves : List Move} {d : Done} {rs : List Stepped} →
    Ran l ms so b → world l ms ≡ w → Goes step w moves d → Calls b moves rs b' → Came l ms moves d rs b'
unfolding world_by ◌▸▸◌
calls_come ran at (ends {m = m} fine) (then {r = r} k no_more) =
    let t = subst (λ (z : World). Tells r (result z m)) at (call_tells ran k) in
    record { ended = at_last (t.answer_is ∙ fine) t; all = _; ran = went ran k; world_is = ap (λ (z : World). (result z m).world) at }
calls_come {ms = ms} ran at (goes {m = m} fine nobody on) (then {r = r} k more) =
    let t = subst (λ (z : World). Tells r (result z m)) at (call_tells ran k) in
    let rest = calls_come {ms = ms ▸ m} (went ran k) (ap (λ (z : World). (result z m).world) at) on more in
    record { ended = later (t.answer_is ∙ fine) (t.who_is ∙ nobody) rest.ended; all = rest.all; ran = rest.ran; world_is = rest.world_is }

comes : {l : Layout} {ms : Moves} {so : List Stepped} {w : World} {b : Lent} {moves : List Move} {d : Done} → Ran l ms so b → world l ms ≡ w → Goes step w moves d → Comes b moves d
comes ran at on = record {
  tells = λ calls. (calls_come ran at on calls).ended;
  leaves = λ calls. let came = calls_come ran at on calls in ran_seen came.ran ∙ came.world_is;
}

-- ---- demand 3

-- the last sentence, of the calls
again_called : {l : Layout} {ms : Moves} {so : List Stepped} {b : Lent} {c : ℕ} {j : Job} {p : Position} {X : Page} → Ran l ms so b → Again step l ms c j p X → AgainCalled l ms b c j p X
again_called {b = b} {c} {j} {p} ran again =
    let is = again.answerable in
    record {
      again = again;
      reorganise_comes = subst (λ (z : World). Comes b (reorganising z c j) is.reorganised.done) (sym (ran_seen ran)) (comes ran refl is.reorganised.goes);
      read_comes = λ {rs} {b₁} calls.
          let came = calls_come ran refl is.reorganised.goes (subst (λ (z : World). Calls b (reorganising z c j) rs b₁) (ran_seen ran) calls) in
          let there = ran_seen came.ran ∙ came.world_is in
          subst (λ (z : World). Comes b₁ (reading z c p) is.was_read) (sym there) (comes came.ran came.world_is is.read_goes);
    }

-- WHATEVER THE CODE IS CALLED WITH, DEMAND 3 HOLDS OF ITS RUNS
pub of_code : {l : Layout} {ms : Moves} {rs : List Stepped} {b : Lent} → Ran l ms rs b → OfCode (shape_under l) l ms rs b
of_code {ms = ms} ran =
    let v = ran_vouched ran in
    record {
      vouched = v;
      all_tell = all_tell ran;
      not_refused = ap lent_number (ran_lent ran) ∙ (v.lends ms).not_refused;
      seen_is = ran_seen ran;
      next_tells = λ k. call_tells ran k;
      answerable_again = λ {ms₀} {m₀} {c} {j} done before may drops.
          again_called ran (v.last_sentence.answerable_again done before (subst (λ (z : World). Conditions z c) (ran_seen ran) may) (subst (λ (z : World). DropsStopped z j) (ran_seen ran) drops));
    }

-- and by name for a yard of small units and for one of large units
pub small_code : {l : Layout} {ms : Moves} {rs : List Stepped} {b : Lent} → l.shape ≡ 0 → Ran l ms rs b → OfCode small l ms rs b
small_code {l} {ms} {rs} {b} is ran = subst (λ (sh : Shape). OfCode sh l ms rs b) (ap shape_for is ∙ small_known) (of_code ran)

pub large_code : {l : Layout} {ms : Moves} {rs : List Stepped} {b : Lent} → l.shape ≡ 1 → Ran l ms rs b → OfCode large l ms rs b
large_code {l} {ms} {rs} {b} is ran = subst (λ (sh : Shape). OfCode sh l ms rs b) (ap shape_for is ∙ large_known) (of_code ran)

-- ---- so that this does not speak of nothing: every run of the rule is made by calls that keep the promises

fresh_answers : (l : Layout) (t : List Letter) (m : List ℕ) → good_value l ≡ true → l.epoch.0 ≡ 1 → length t ≡ 32 → length m ≡ 49344 → fresh_number l t m ≡ 0
unfolding fresh_number fresh_number_of
fresh_answers l t m good first places size = rw (eq-eqb (length m) 49344 size, good, eq-eqb l.epoch.0 1 first, eq-eqb (length t) 32 places)

making : (l : Layout) → good_value l ≡ true → l.epoch.0 ≡ 1 → Making l (fresh_lent l)
making l good first =
    let t : List Letter = replicate 32 blank_letter in
    let m : List ℕ = replicate 49344 0 in
    let fine = fresh_answers l t m good first (length-replicate {A = Letter} 32 blank_letter) (length-replicate {A = ℕ} 49344 0) in
    let is = sym (makes_fresh l fresh t m fine) in
    record {
      sequencer = fresh;
      table = t;
      memories = m;
      handed = record { answer = 0; yard = (fresh_lent l).yard };
      promise = record {
        answer_is = sym fine;
        yard_is = ap (λ (x : Lent). x.yard) is;
        sequencer_is = ap (λ (x : Lent). x.sequencer) is;
        table_is = ap (λ (x : Lent). x.table) is;
        memories_is = ap (λ (x : Lent). x.memories) is;
      };
      fine = refl;
      yard_is = refl;
    }

-- what the calls hand back
pub handed : Layout → Moves → List Stepped
handed l none = []
handed l (ms ▸ m) = (stepped l ms m).stepped ∷ handed l ms

pub every_run : (l : Layout) → good_value l ≡ true → l.epoch.0 ≡ 1 → (ms : Moves) → Ran l ms (handed l ms) (lent l ms)
unfolding lent handed
every_run l good first none = made (making l good first)
every_run l good first (ms ▸ m) =
    went (every_run l good first ms)
    (record {
      promise = record { result_is = refl; sequencer_is = refl; table_is = refl; memories_is = refl };
      yard_is = sym (same_yard (lent l ms) m.does m.job);
    })
