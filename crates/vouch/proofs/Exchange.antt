-- A request delivered once and dropped, and so its answer, with no other step between: what the yard is afterwards.
-- Rests on Lists and on the yard's and the client's rules.
use mathlib.Core.Path.{◌≡◌, refl, sym, ap, subst, ◌∙◌}
use mathlib.Core.Bool.{Bool, true, false, not, ◌||◌, cond}
use mathlib.Core.List.{List, [], ◌∷◌, ◌++◌}
use Prim.Native.Nat.{ℕ, ◌-◌, ◌≤◌, ◌<◌}
use native.Mathlib.Omega.{arith}
use borrow.Author.Tests.{leb-true, le-ltb}
use lib.Dec.{leb}
use lib.ListN.{length, length-append, set}
use lib.Seq.{get_or-append_seam, get_or-set_same, set-set}
use Rattle.num.proofs.Tests.{and_both, neither}
use Rattle.layout.specs.declared.Layout.{Layout}
use Rattle.unit.specs.State.{State}
use Rattle.sequencer.specs.declared.Sequencer.{Sequencer}
use Rattle.client.specs.declared.Query.{Query}
use Rattle.client.specs.declared.Response.{Response}
use Rattle.client.specs.declared.Stamp.{Stamp}
use Rattle.client.specs.declared.Client.{Client}
use Rattle.client.specs.Client.{fresh, last_number}
use Rattle.client.specs.Turn.{Turn, numbered, next, sends}
use Rattle.client.specs.Take.{answered, takes}
use Rattle.client.proofs.Turns.{sends_sent, takes_awaited}
use Rattle.rule.specs.declared.Letter.{Letter}
use Rattle.rule.specs.World.{World, is_client, client_at, blank_letter}
use Rattle.rule.specs.Serve.{ServedWorld, serve, unserved}
use Rattle.rule.specs.Steps.{Done, fine, without, too_many, request, ended, sent_by, turned, answer_to, served, taken, delivered, delivers, step}
use Rattle.vouch.specs.Runs.{Move, result}
use Rattle.vouch.specs.LastSentence.{Goes, deliver}
use Rattle.vouch.specs.LastSentence.Goes.{ends, goes}
use Rattle.rule.proofs.Lists.{posted_few}

-- ---- tests

pub pass : {A : Type 0} (x y : A) (b : Bool) → b ≡ false → cond b x y ≡ y
pass x y true e = cc
pass x y false e = refl

pub hold : {A : Type 0} (x y : A) (b : Bool) → b ≡ true → cond b x y ≡ x
hold x y true e = refl
hold x y false e = cc

pub not_so : (b : Bool) → b ≡ true → not b ≡ false
not_so true e = refl
not_so false e = cc

-- ---- the last letter

without_last : (ls : List Letter) (l : Letter) → without (length ls) (ls ++ l ∷ []) ≡ ls
unfolding without
without_last [] l = refl
without_last (x ∷ xs) l = ap (λ ys. x ∷ ys) (without_last xs l)

-- ---- a move whose end is known

pub goes_to : {w : World} {m : Move} {ms : List Move} {d : Done} (e : Done) → result w m ≡ e → e.answer ≡ 0 → e.who ≡ 0 → Goes step e.world ms d → Goes step w (m ∷ ms) d
goes_to {w} {m} {ms} {d} e is a who rest = goes (ap (λ (x : Done). x.answer) is ∙ a) (ap (λ (x : Done). x.who) is ∙ who) (subst (λ (x : Done). Goes step x.world ms d) (sym is) rest)

pub ends_at : {w : World} {m : Move} (e : Done) → result w m ≡ e → e.answer ≡ 0 → Goes step w (m ∷ []) e
ends_at {w} {m} e is a = subst (λ (x : Done). Goes step w (m ∷ []) x) is (ends (ap (λ (x : Done). x.answer) is ∙ a))

-- ---- the yard while client c works: w but for what serves it; its letters lie behind ls

module _ (w : World) (c : ℕ) (ls : List Letter) where
  abbrev pub yard : Layout → List State → Sequencer → Client → List Letter → World
  yard k us s x more = record {
    held = k;
    clients = set w.clients (c - 1) x;
    stopped = w.stopped;
    units = us;
    sequencer = s;
    letters = ls ++ more;
  }

  -- once the client has made its turn
  abbrev pub after : Layout → List State → Sequencer → Turn → World
  after k us s t = yard k us s t.client (sent_by c t)

  -- once it has sent
  abbrev pub waiting : Layout → List State → Sequencer → Client → Query → World
  waiting k us s y q = yard k us s (numbered y (next y)) (request (record { client = c; life = y.life; number = next y }) q ∷ [])

  -- what comes of a turn that ends nothing
  pub record GoesOn (k : Layout) (us : List State) (s : Sequencer) (t : Turn) (ms : List Move) (d : Done) : Type 0 where
    pub quiet : ended c t.act ≡ 0
    pub rest : Goes step (after k us s t) ms d

  pub as_turn : {k : Layout} {us : List State} {s : Sequencer} {t t' : Turn} {ms : List Move} {d : Done} → t ≡ t' → GoesOn k us s t' ms d → GoesOn k us s t ms d
  as_turn {k} {us} {s} {t} {t'} {ms} {d} same on = subst (λ z. GoesOn k us s z ms d) (sym same) on

  pub sends_on : {k : Layout} {us : List State} {s : Sequencer} (y : Client) (q : Query) {ms : List Move} {d : Done} →
      y.used.0 < last_number → Goes step (waiting k us s y q) ms d → GoesOn k us s (sends y q) ms d
  sends_on {k} {us} {s} y q {ms} {d} left rest = as_turn (sends_sent y q left) (record { quiet = refl; rest = rest })

  module _ (of_client : is_client c ≡ true) (clients : length w.clients ≡ 4) (few : length ls ≤ 31) where
    pub place : c - 1 < length w.clients
    place = let r = and_both (leb 1 c) (leb c 4) of_client in omega (arith, leb-true 1 c r.0, leb-true c 4 r.1)

    fits : (more : List Letter) → length more ≤ 1 → too_many (ls ++ more) ≡ false
    fits more one = le-ltb 32 (length (ls ++ more)) (omega (arith, length-append ls more))

    -- ---- the request

    abbrev pub stamp : Client → Stamp
    stamp y = record { client = c; life = y.life; number = next y }

    module _ (k k' : Layout) (us us' : List State) (s s' : Sequencer) (y : Client) (q : Query) (r : Response) where
      pub request_served : unserved w.stopped q.ask ≡ false →
          serve (waiting k us s y q) q.ask q.page q.layout ≡ record { response = r; world = waiting k' us' s' y q } →
          result (waiting k us s y q) (deliver (length ls)) ≡ fine (yard k' us' s' (numbered y (next y)) (answer_to (stamp y) r ∷ []))
      unfolding step delivers delivered served
      request_served there serves =
          let l = request (stamp y) q in
          let W = waiting k us s y q in
          ap (λ (z : Letter). delivered W (length ls) false true z) (get_or-append_seam ls l [] blank_letter)
          ∙ (pass _ _ (not (is_client c) || unserved w.stopped q.ask) (neither (not (is_client c)) (unserved w.stopped q.ask) (not_so (is_client c) of_client) there)
          ∙ (ap (λ (zs : List Letter). served W zs true (stamp y) (serve W q.ask q.page q.layout)) (without_last ls l)
          ∙ (ap (λ (v : ServedWorld). served W ls true (stamp y) v) serves
          ∙ pass _ _ (too_many (ls ++ answer_to (stamp y) r ∷ [])) (fits (answer_to (stamp y) r ∷ []) (omega arith)))))

    -- ---- its answer

    module _ (k : Layout) (us : List State) (s : Sequencer) (y : Client) (r : Response) where
      abbrev pub taking : Turn
      taking = answered y.stage (numbered y (next y)) r

      pub answer_taken : result (yard k us s (numbered y (next y)) (answer_to (stamp y) r ∷ [])) (deliver (length ls))
          ≡ record { answer = 0; who = ended c taking.act; outcome = taking.outcome; world = after k us s taking }
      unfolding step delivers delivered taken turned
      answer_taken =
          let l = answer_to (stamp y) r in
          let x = numbered y (next y) in
          let W = yard k us s x (l ∷ []) in
          ap (λ (z : Letter). delivered W (length ls) false true z) (get_or-append_seam ls l [] blank_letter)
          ∙ (pass _ _ (not (is_client c)) (not_so (is_client c) of_client)
          ∙ (ap (λ (zs : List Letter). taken W zs c (takes c (client_at W c) (stamp y) r)) (without_last ls l)
          ∙ (ap (λ (z : Client). taken W ls c (takes c z (stamp y) r)) (get_or-set_same w.clients (c - 1) x fresh place)
          ∙ (ap (λ (t : Turn). taken W ls c t) (takes_awaited c x (stamp y) r (record { client_is = refl; life_is = refl; number_is = refl }))
          ∙ (pass _ _ (too_many (ls ++ sent_by c taking)) (fits (sent_by c taking) (posted_few c taking.client.life taking.act taking.query))
          ∙ ap (λ (cs : List Client). record {
            answer = 0;
            who = ended c taking.act;
            outcome = taking.outcome;
            world = record { held = k; clients = cs; stopped = w.stopped; units = us; sequencer = s; letters = ls ++ sent_by c taking };
          }) (set-set w.clients (c - 1) x taking.client))))))

    -- ---- both

    -- the client asked q in the layout k, units us and sequencer s, which are k', us' and s' once it is served with r
    pub record Asked (k k' : Layout) (us us' : List State) (s s' : Sequencer) (y : Client) (q : Query) (r : Response) : Type 0 where
      pub there : unserved w.stopped q.ask ≡ false
      pub serves : serve (waiting k us s y q) q.ask q.page q.layout ≡ record { response = r; world = waiting k' us' s' y q }

    pub exchange_on : {k k' : Layout} {us us' : List State} {s s' : Sequencer} {y : Client} {q : Query} {r : Response} {ms : List Move} {d : Done} → Asked k k' us us' s s' y q r →
        GoesOn k' us' s' (answered y.stage (numbered y (next y)) r) ms d → Goes step (waiting k us s y q) (deliver (length ls) ∷ deliver (length ls) ∷ ms) d
    exchange_on {k} {k'} {us} {us'} {s} {s'} {y} {q} {r} {ms} {d} ask on =
        goes_to _ (request_served k k' us us' s s' y q r ask.there ask.serves) refl refl
        (goes_to _ (answer_taken k' us' s' y r) refl on.quiet on.rest)

    pub exchange_ends : {k k' : Layout} {us us' : List State} {s s' : Sequencer} {y : Client} {q : Query} {r : Response} → Asked k k' us us' s s' y q r →
        (t : Turn) → answered y.stage (numbered y (next y)) r ≡ t →
        Goes step (waiting k us s y q) (deliver (length ls) ∷ deliver (length ls) ∷ []) (record { answer = 0; who = ended c t.act; outcome = t.outcome; world = after k' us' s' t })
    exchange_ends {k} {k'} {us} {us'} {s} {s'} {y} {q} {r} ask t is =
        goes_to _ (request_served k k' us us' s s' y q r ask.there ask.serves) refl refl
        (ends_at _ (answer_taken k' us' s' y r ∙ ap (λ (z : Turn). record { answer = 0; who = ended c z.act; outcome = z.outcome; world = after k' us' s' z }) is) refl)
