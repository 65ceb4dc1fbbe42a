-- The moves that a delivery decides do what its rule says.
use Prim.Native.Nat.{ℕ, zero, suc, ◌-◌, ◌<◌}
use mathlib.Core.Bool.{Bool, true, false, ◌||◌, not, cond}
use mathlib.Core.List.{List, [], ◌∷◌, ◌++◌, append-nil}
use mathlib.Core.Path.{◌≡◌, refl, sym, ap, ◌∙◌}
use native.Mathlib.Nat.{not-suc-le-zero, le_of_suc-le-suc}
use native.Mathlib.Omega.{arith}
use borrow.Author.Tests.{ltb-true, ltb-false}
use lib.Dec.{ltb}
use lib.ListN.{length, get_or, length-append}
use Rattle.std.proofs.lemmas.List.{get_or_past}
use Rattle.num.proofs.Numbers.{Bytes}
use Rattle.num.proofs.Tests.{false_true}
use Rattle.unit.specs.Shape.{shape_for}
use Rattle.unit.specs.declared.shape.Shape.{Shape}
use Rattle.unit.specs.State.{State}
use Rattle.sequencer.specs.declared.Sequencer.{Sequencer}
use Rattle.client.specs.declared.Ask.{Ask}
use Rattle.client.specs.declared.Reply.{Reply}
use Rattle.client.specs.declared.Response.{Response}
use Rattle.client.specs.declared.Stamp.{Stamp}
use Rattle.client.specs.Turn.{Turn}
use Rattle.client.specs.Client.{fresh}
use Rattle.client.specs.Take.{takes}
use Rattle.rule.specs.declared.Body.TheVariants.{Blank, Asks, Answers}
use Rattle.rule.specs.declared.Letter.{Letter}
use Rattle.rule.specs.declared.Yard.{Yard}
use Rattle.rule.specs.World.{World, shape_under, is_client, unit_limit, blank_letter}
use Rattle.rule.specs.Serve.{ServedWorld, serve, unserved}
use Rattle.rule.specs.Steps.{Done, refused, without, keeping, too_many, sent_by, answer_to, answers, served, taken, response, delivered, delivers}
use Rattle.rule.specs.Lent.{good_units, units_in, units_bytes}
use Rattle.rule.proofs.Testing.{units_same}
use Rattle.rule.proofs.Serving.{serve_clients, serve_stopped, serve_letters}
use Rattle.yard.specs.InsideParts.{world_of, IsServed}
use Rattle.yard.specs.InsideMoves.{Moves, world_with, posting, count_after, Moved, Decided, refusing, sends, letter_of, turning, answering}
use Rattle.yard.proofs.Stepping.{moved_quiet, sent_is, turned_is}

-- ---- how many letters there are

pub without_length : (i : ℕ) (ls : List Letter) → i < length ls → length (without i ls) ≡ length ls - 1
unfolding without
without_length i [] h = absurd (not-suc-le-zero h)
without_length zero (l ∷ ls) h = omega arith
without_length (suc i) (l ∷ ls) h =
    let r : length (without i ls) ≡ length ls - 1 = without_length i ls (le_of_suc-le-suc h) in
    let k : i < length ls = le_of_suc-le-suc h in
    omega arith

keeping_length : (keep : Bool) (i n : ℕ) (ls : List Letter) → (keep ≡ false → i < n) → length ls ≡ n → length (keeping keep i ls) ≡ cond keep n (n - 1)
keeping_length true i n ls h e = e
keeping_length false i n ls h e = let k : i < n = h refl in rw e at (without_length i ls (rw e k))

posting_length : (posts : Bool) (l : Letter) → length (posting posts l) ≡ cond posts 1 0
posting_length true l = refl
posting_length false l = refl

pub after_length : (keep posts : Bool) (i n : ℕ) (ls : List Letter) (l : Letter) → (keep ≡ false → i < n) → length ls ≡ n → length (keeping keep i ls ++ posting posts l) ≡ count_after n keep posts
after_length keep posts i n ls l h e = length-append (keeping keep i ls) (posting posts l) ∙ rw (keeping_length keep i n ls h e, posting_length posts l)

answers_is : (b : Bool) (s : Stamp) (r : Response) → answers b s r ≡ posting b (cond b (answer_to s r) blank_letter)
answers_is true s r = refl
answers_is false s r = refl

-- ---- a refusal, for one that is brought a letter

-- whatever the units are, and what bytes they are
pub decided_moved : {sh : Shape} {l : Letter} {rule : List Letter → List State → Done} {n i : ℕ} {mv : Moves} (us : List State) {after : List ℕ} → after ≡ units_bytes sh us → Moved rule n i mv
    → Decided sh l (λ ls. rule ls us) n i mv after
decided_moved us e v = record { units = us; memories_is = e; done_is = λ ls z k. v.done_is ls us z; count_is = v.count_is; there = v.there; room = v.room }

-- where the memories stay as they are
pub decided_same : {l : Letter} {rule : List Letter → List State → Done} {n i : ℕ} {mv : Moves} (shape : ℕ) (m : List ℕ) → Bytes m → good_units shape 1 8 m ≡ true → Moved rule n i mv
    → Decided (shape_for shape) l (λ ls. rule ls (units_in (shape_for shape) unit_limit m)) n i mv m
decided_same shape m b g v = decided_moved (units_in (shape_for shape) unit_limit m) (sym (units_same shape 1 8 m b g)) v

-- whether a table of one row applies
pub applies : {k : ℕ} (b : Bool) (n : ℕ) → (k ≡ 0 → ⊥) → k ≡ cond b n 0 → b ≡ true
applies true n z e = refl
applies false n z e = absurd (z e)

module _ (y : Yard) (s : Sequencer) (keep k : Bool) (l : Letter) where
  abbrev rule : ℕ → List Letter → List State → Done
  rule i ls us = delivered (world_with y s ls us) i keep k l

  -- ---- a request
  module _ {a : Ask} (q : l.body ≡ Asks a) where
    pub asks_nobody : (not (is_client l.stamp.client) || unserved y.stopped a) ≡ true → (i : ℕ) → Moved (rule i) y.count i (refusing y s 17)
    unfolding delivered
    asks_nobody t i = moved_quiet y s 17 refl (λ ls us e. rw (q, t))

    module _ (t : (not (is_client l.stamp.client) || unserved y.stopped a) ≡ false) (i : ℕ) (h : i < y.count) where
      full : (b : Bool) → ltb 32 (count_after y.count keep k) ≡ b → (ls : List Letter) (r : Response) → length ls ≡ y.count → too_many (keeping keep i ls ++ answers k l.stamp r) ≡ b
      full b f ls r e = rw (answers_is k l.stamp r, after_length keep k i y.count ls (cond k (answer_to l.stamp r) blank_letter) (λ z. h) e) f

      pub asks_full : ltb 32 (count_after y.count keep k) ≡ true → Moved (rule i) y.count i (refusing y s 16)
      unfolding delivered served
      asks_full f = moved_quiet y s 16 refl (λ ls us e. rw (q, t, full true f ls (serve (world_with y s ls us) a l.page l.layout).response e))

      pub asks_served : ltb 32 (count_after y.count keep k) ≡ false → (m : List ℕ) {v : Response} {y' : Yard} {s' : Sequencer} {after : List ℕ} → IsServed y (serve (world_of y s [] m) a l.page l.layout) v y' s' after
          → Decided (shape_under y.held) l (λ ls. rule i ls (units_in (shape_under y.held) unit_limit m)) y.count i (answering y' s' keep k l.stamp v) after
      unfolding delivered served
      asks_served f m d =
          let w : World = world_of y s [] m in
          let x : ServedWorld = serve w a l.page l.layout in
          record {
            units = x.world.units;
            memories_is = d.memories_is;
            done_is = λ ls e z. rw (q, t, serve_letters w ls a l.page l.layout, full false f ls x.response e, answers_is k l.stamp x.response, serve_clients w a l.page l.layout, serve_stopped w a l.page l.layout, d.yard_is, d.sequencer_is, d.response_is);
            count_is = ap (λ (x : Yard). x.count) d.yard_is;
            there = λ z. h;
            room = λ z. ltb-false 32 (count_after y.count keep k) f;
          }

  -- ---- an answer
  module _ {r : Reply} (q : l.body ≡ Answers r) where
    pub answers_nobody : is_client l.stamp.client ≡ false → (i : ℕ) → Moved (rule i) y.count i (refusing y s 17)
    unfolding delivered
    answers_nobody t i = moved_quiet y s 17 refl (λ ls us e. rw (q, t))

    abbrev pub taking : Turn
    taking = takes l.stamp.client (get_or y.clients (l.stamp.client - 1) fresh) l.stamp (response r l)

    module _ (t : is_client l.stamp.client ≡ true) (i : ℕ) (h : i < y.count) where
      crowded : (b : Bool) → ltb 32 (count_after y.count keep (sends taking.act)) ≡ b → (ls : List Letter) → length ls ≡ y.count → too_many (keeping keep i ls ++ sent_by l.stamp.client taking) ≡ b
      crowded b f ls e =
          rw (
            sent_is l.stamp.client taking.client.life taking.act taking.query,
            after_length keep (sends taking.act) i y.count ls (letter_of l.stamp.client taking.client.life taking.act taking.query) (λ z. h) e,
          ) f

      pub answers_full : ltb 32 (count_after y.count keep (sends taking.act)) ≡ true → Moved (rule i) y.count i (refusing y s 16)
      unfolding delivered taken
      answers_full f = moved_quiet y s 16 refl (λ ls us e. rw (q, t, crowded true f ls e))

      pub answers_turned : ltb 32 (count_after y.count keep (sends taking.act)) ≡ false → Moved (rule i) y.count i (turning y s keep l.stamp.client taking)
      unfolding delivered taken
      answers_turned f = record {
        done_is = λ ls us e. rw (q, t, crowded false f ls e) (turned_is y s ls us keep i l.stamp.client taking);
        count_is = refl;
        there = λ z. h;
        room = λ z. ltb-false 32 (count_after y.count keep (sends taking.act)) f;
      }

-- ---- whatever the letter is

blank_at : (ls : List Letter) (n i : ℕ) {l : Letter} → length ls ≡ n → (i < n → get_or ls i blank_letter ≡ l) → (i < n → l.body ≡ Blank) → (get_or ls i blank_letter).body ≡ Blank
blank_at ls n i e z q = go (ltb i n) refl
  where
    go : (b : Bool) → ltb i n ≡ b → (get_or ls i blank_letter).body ≡ Blank
    go true t = ap (λ (x : Letter). x.body) (z (ltb-true i n t)) ∙ q (ltb-true i n t)
    go false t = ap (λ (x : Letter). x.body) (get_or_past ls i blank_letter (rw e (ltb-false i n t)))

-- there is no such letter, or it is blank
pub delivers_nobody : {sh : Shape} (y : Yard) (s : Sequencer) (us : List State) {after : List ℕ} (i : ℕ) (keep k : Bool) (l : Letter) → after ≡ units_bytes sh us → (i < y.count → l.body ≡ Blank)
    → Decided sh l (λ ls. delivers (world_with y s ls us) i keep k) y.count i (refusing y s 17) after
unfolding delivers delivered
delivers_nobody y s us i keep k l m q = record {
  units = us;
  memories_is = m;
  done_is = λ ls e z. rw (blank_at ls y.count i e z q) (ap (λ (x : List Letter). refused (world_with y s x us) 17) (sym (append-nil ls)));
  count_is = refl;
  there = λ z. absurd (false_true (sym z));
  room = λ z. omega arith;
}

-- the same of the memories that are lent
pub lent_nobody : (y : Yard) (s : Sequencer) (m : List ℕ) (i : ℕ) (keep k : Bool) (l : Letter) → Bytes m → good_units y.held.shape 1 8 m ≡ true → (i < y.count → l.body ≡ Blank)
    → Decided (shape_under y.held) l (λ ls. delivers (world_of y s ls m) i keep k) y.count i (refusing y s 17) m
lent_nobody y s m i keep k l b g q = delivers_nobody y s (units_in (shape_under y.held) unit_limit m) i keep k l (sym (units_same y.held.shape 1 8 m b g)) q

-- the letter is the one at its place
pub delivers_brought : {sh : Shape} (y : Yard) (s : Sequencer) (us : List State) {i : ℕ} (keep k : Bool) {l : Letter} {mv : Moves} {after : List ℕ} → i < y.count
    → Decided sh l (λ ls. delivered (world_with y s ls us) i keep k l) y.count i mv after → Decided sh l (λ ls. delivers (world_with y s ls us) i keep k) y.count i mv after
unfolding delivers
delivers_brought y s us {i} keep k {l} h d = record {
  units = d.units;
  memories_is = d.memories_is;
  done_is = λ ls e z. ap (λ (x : Letter). delivered (world_with y s ls us) i keep k x) (z h) ∙ d.done_is ls e z;
  count_is = d.count_is;
  there = d.there;
  room = d.room;
}

pub lent_brought : (y : Yard) (s : Sequencer) (m : List ℕ) {i : ℕ} (keep k : Bool) {l : Letter} {mv : Moves} {after : List ℕ} → i < y.count
    → Decided (shape_under y.held) l (λ ls. delivered (world_of y s ls m) i keep k l) y.count i mv after → Decided (shape_under y.held) l (λ ls. delivers (world_of y s ls m) i keep k) y.count i mv after
lent_brought y s m keep k h d = delivers_brought y s (units_in (shape_under y.held) unit_limit m) keep k h d
