-- The steps of the yard. A refused step changes nothing at all (docs/RULES.md, 9.2).
use Rattle.std.specs.Prelude.{ℕ, zero, suc, ◌-◌, Bool, true, false, ◌||◌, not, cond, List, [], ◌∷◌, ◌++◌, eqb, leb, ltb, length, set}
use Rattle.num.specs.Checks.{lowest, ◌if◌}
use Rattle.sequencer.specs.declared.Asked.TheVariants as asked
use Rattle.sequencer.specs.Rules.{after}
use Rattle.client.specs.declared.Query.{Query}
use Rattle.client.specs.declared.Reply.{Reply}
use Rattle.client.specs.declared.Response.{Response}
use Rattle.client.specs.declared.Stamp.{Stamp}
use Rattle.client.specs.declared.Client.{Client}
use Rattle.client.specs.declared.state.Job.{Job}
use Rattle.client.specs.declared.Outcome.{Outcome}
use Rattle.client.specs.Turn.{Act, Rests, Sends, Ends, Turn, no_outcome}
use Rattle.client.specs.Job.{job_checks}
use Rattle.client.specs.Begin.{ready_checks, begin_turn, give_up, restart_answer, restarted}
use Rattle.client.specs.Take.{takes}
use Rattle.rule.specs.declared.Body.{Body}
use Rattle.rule.specs.declared.Body.TheVariants.{Blank, Asks, Answers}
use Rattle.rule.specs.declared.Letter.{Letter}
use Rattle.rule.specs.declared.Step.{Step}
use Rattle.rule.specs.declared.Step.TheVariants.{Begin, Deliver, Drop, Stop, Restart, GiveUp, Forget}
use Rattle.rule.specs.World.{World, is_client, running, letter_limit, client_at, letter_at}
use Rattle.rule.specs.Serve.{ServedWorld, serve, unserved, with_sequencer}

-- who: the client whose operation ended, 0 where none did; outcome: how it ended
pub record Done : Type 0 where
  pub answer : ℕ
  pub who : ℕ
  pub outcome : Outcome
  pub world : World

abbrev pub refused : World → ℕ → Done
refused w n = record { answer = n; who = 0; outcome = no_outcome; world = w }

abbrev pub fine : World → Done
fine w = record { answer = 0; who = 0; outcome = no_outcome; world = w }

-- ---- the bag

-- a letter dropped
unfoldable pub without : ℕ → List Letter → List Letter
without i [] = []
without zero (l ∷ ls) = ls
without (suc i) (l ∷ ls) = l ∷ without i ls

-- "keep or drop it"
abbrev pub keeping : Bool → ℕ → List Letter → List Letter
keeping keep i ls = cond keep ls (without i ls)

-- "the letters would exceed 32"
abbrev pub too_many : List Letter → Bool
too_many ls = ltb letter_limit (length ls)

abbrev pub with_letters : World → List Letter → World
with_letters w ls = record {
  held = w.held;
  clients = w.clients;
  stopped = w.stopped;
  units = w.units;
  sequencer = w.sequencer;
  letters = ls;
}

-- ---- a client's turn

abbrev pub with_client : World → ℕ → Client → World
with_client w c x = record {
  held = w.held;
  clients = set w.clients (c - 1) x;
  stopped = w.stopped;
  units = w.units;
  sequencer = w.sequencer;
  letters = w.letters;
}

-- "A request bears client, life and number"
abbrev pub request : Stamp → Query → Letter
request s q = record { stamp = s; body = Asks q.ask; page = q.page; layout = q.layout }

-- the letter that it sends, if any
abbrev pub posted : ℕ → ℕ → Act → Query → List Letter
posted c life Rests q = []
posted c life (Sends n) q = request (record { client = c; life = life; number = n }) q ∷ []
posted c life Ends q = []

-- whose operation ends, if it does
abbrev pub ended : ℕ → Act → ℕ
ended c Rests = 0
ended c (Sends n) = 0
ended c Ends = c

abbrev pub sent_by : ℕ → Turn → List Letter
sent_by c t = posted c t.client.life t.act t.query

-- the letters as they are before it; a new letter goes to the end
unfoldable pub turned : World → List Letter → ℕ → Turn → Done
turned w ls c t = record {
  answer = 0;
  who = ended c t.act;
  outcome = t.outcome;
  world = with_letters (with_client w c t.client) (ls ++ sent_by c t);
}

-- ---- begin an operation

-- the yard's own checks 17, 18, 19, 16, then the job's 2, 3 and 10; 3 is that of the held layout's shape
unfoldable pub begin_number : World → ℕ → Job → ℕ
begin_number w c j =
    lowest (
    17 if not (is_client c)
    ∷ ready_checks (client_at w c)
    ++ (16 if leb letter_limit (length w.letters) ∷ job_checks j w.held.shape)
    )

unfoldable pub begins : World → ℕ → Job → Done
begins w c j =
    cond (eqb (begin_number w c j) 0) (turned w w.letters c (begin_turn (client_at w c) j w.held.shape)) (refused w (begin_number w c j))

-- ---- deliver a letter

-- the letters afterwards, unless they are too many
abbrev pub unless_full : World → List Letter → Done → Done
unless_full w ls d = cond (too_many ls) (refused w 16) d

-- an answer bears the stamp of its request
abbrev pub answer_to : Stamp → Response → Letter
answer_to s r = record { stamp = s; body = Answers r.reply; page = r.page; layout = r.layout }

-- "keep or lose a unit's, sequencer's or holder's answer"
abbrev pub answers : Bool → Stamp → Response → List Letter
answers true s r = answer_to s r ∷ []
answers false s r = []

-- a machine has served: ls, the letters before its answer
unfoldable pub served : World → List Letter → Bool → Stamp → ServedWorld → Done
served w ls keep_answer s v =
    unless_full w (ls ++ answers keep_answer s v.response)
    (fine (with_letters v.world (ls ++ answers keep_answer s v.response)))

-- a client has taken an answer
unfoldable pub taken : World → List Letter → ℕ → Turn → Done
taken w ls c t = unless_full w (ls ++ sent_by c t) (turned w ls c t)

abbrev pub response : Reply → Letter → Response
response r l = record { reply = r; page = l.page; layout = l.layout }

-- to whom a letter can be brought: 17 otherwise
abbrev pub unbrought : World → Letter → Body → Bool
unbrought w l Blank = true
unbrought w l (Asks a) = not (is_client l.stamp.client) || unserved w.stopped a
unbrought w l (Answers r) = not (is_client l.stamp.client)

-- "deliver a letter": a request to its machine, an answer to its client
abbrev pub brought : World → List Letter → Bool → Letter → Body → Done
brought w ls keep_answer l Blank = refused w 17
brought w ls keep_answer l (Asks a) = served w ls keep_answer l.stamp (serve w a l.page l.layout)
brought w ls keep_answer l (Answers r) =
    taken w ls l.stamp.client (takes l.stamp.client (client_at w l.stamp.client) l.stamp (response r l))

unfoldable pub delivered : World → ℕ → Bool → Bool → Letter → Done
delivered w i keep keep_answer l =
    cond (unbrought w l l.body) (refused w 17) (brought w (keeping keep i w.letters) keep_answer l l.body)

-- where there is no such letter, a blank one stands for it
unfoldable pub delivers : World → ℕ → Bool → Bool → Done
delivers w i keep keep_answer = delivered w i keep keep_answer (letter_at w i)

-- ---- the other steps

unfoldable pub drops : World → ℕ → Done
drops w i = cond (ltb i (length w.letters)) (fine (with_letters w (without i w.letters))) (refused w 17)

abbrev pub with_stopped : World → List Bool → World
with_stopped w bs = record {
  held = w.held;
  clients = w.clients;
  stopped = bs;
  units = w.units;
  sequencer = w.sequencer;
  letters = w.letters;
}

unfoldable pub stops : World → ℕ → Done
stops w u = cond (running w.stopped u) (fine (with_stopped w (set w.stopped (u - 1) true))) (refused w 17)

unfoldable pub restart_number : World → ℕ → ℕ
restart_number w c = lowest (17 if not (is_client c) ∷ 19 if not (eqb (restart_answer (client_at w c)) 0) ∷ [])

unfoldable pub restarts : World → ℕ → Done
restarts w c = cond (eqb (restart_number w c) 0) (fine (with_client w c (restarted (client_at w c)))) (refused w (restart_number w c))

unfoldable pub gives_up : World → ℕ → Done
gives_up w c = cond (is_client c) (turned w w.letters c (give_up (client_at w c))) (refused w 17)

-- "next becomes 0"
unfoldable pub forgets : World → Done
forgets w = fine (with_sequencer w (after w.sequencer asked.Forget))

-- ---- all of them. job: what a begin asks for

unfoldable pub step : World → Step → Job → Done
step w (Begin c) j = begins w c j
step w (Deliver i keep keep_answer) j = delivers w i keep keep_answer
step w (Drop i) j = drops w i
step w (Stop u) j = stops w u
step w (Restart c) j = restarts w c
step w (GiveUp c) j = gives_up w c
step w Forget j = forgets w
