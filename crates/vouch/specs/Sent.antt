-- How many requests an operation sends, of any step function: counted over the moves of a run, by what lies in the bag, and not by what its client keeps.
-- `proofs/Sent` proves it of the yard's rule (docs/RULES.md, 8.2).
-- Rests on Runs and Operations.
use Rattle.std.specs.Prelude.{◌≡◌, Bool, true, false, ◌&&◌, ◌||◌, cond, List, [], ◌∷◌, ℕ, ◌+◌, ◌≤◌, eqb, ltb}
use Rattle.layout.specs.declared.Layout.{Layout}
use Rattle.client.specs.declared.Reply.{Reply}
use Rattle.client.specs.declared.Reply.TheVariants.{Held, Given, Fine, Shown, Edged, Refused}
use Rattle.client.specs.declared.Work.TheVariants.{Append}
use Rattle.client.specs.declared.Phase.{Phase}
use Rattle.client.specs.declared.Phase.TheVariants.{Drawing, Writing, Reading, Filling, Looking, Trimming, Pruning, Sealing, Offering, Starting}
use Rattle.client.specs.declared.Stage.{Stage}
use Rattle.client.specs.declared.Stage.TheVariants.{Idle, Fetching, Working}
use Rattle.client.specs.declared.Client.{Client}
use Rattle.client.specs.declared.state.Job.{Job}
use Rattle.client.specs.Way.{head_for}
use Rattle.client.specs.Take.{awaited}
use Rattle.rule.specs.declared.Body.{Body}
use Rattle.rule.specs.declared.Body.TheVariants.{Blank, Asks, Answers}
use Rattle.rule.specs.declared.Letter.{Letter}
use Rattle.rule.specs.declared.Step.{Step}
use Rattle.rule.specs.declared.Step.TheVariants.{Begin, Deliver, Drop, Stop, Restart, GiveUp, Forget}
use Rattle.rule.specs.World.{World, client_at, letter_at}
use Rattle.vouch.specs.Runs.{Move, Moves, Stepping, world_by}
use Rattle.vouch.specs.Runs.Moves.{◌▸◌}
use Rattle.vouch.specs.Operations.{done, outcome, UnderWay, Ends}
use Rattle.vouch.specs.Operations.UnderWay.{begun, still}
use Rattle.vouch.specs.Operations.Ends.{later, at_once}

-- ---- requests in the bag

abbrev pub is_request : Body → Bool
is_request Blank = false
is_request (Asks a) = true
is_request (Answers r) = false

abbrev pub one : Bool → ℕ
one b = cond b 1 0

-- those of client c among the letters
unfoldable pub requests_of : ℕ → List Letter → ℕ
requests_of c [] = 0
requests_of c (x ∷ xs) = one (is_request x.body && eqb x.stamp.client c) + requests_of c xs

-- ---- a head that fails an append

-- 5 or 6
abbrev pub is_taken : Reply → Bool
is_taken Held = false
is_taken (Given p) = false
is_taken Fine = false
is_taken Shown = false
is_taken (Edged e) = false
is_taken (Refused n) = eqb n 5 || eqb n 6

abbrev pub tells_taken : Body → Bool
tells_taken Blank = false
tells_taken (Asks a) = false
tells_taken (Answers r) = is_taken r

-- the outstanding request is a write at the head of the set
abbrev pub at_head_in : Client → Phase → Bool
at_head_in x (Drawing n) = false
at_head_in x (Writing u n) = eqb u (head_for x)
at_head_in x (Reading u) = false
at_head_in x (Filling u) = false
at_head_in x (Looking u) = false
at_head_in x (Trimming u) = false
at_head_in x (Pruning u) = false
at_head_in x (Sealing u e) = false
at_head_in x (Offering p) = false
at_head_in x Starting = false

abbrev pub at_head : Client → Stage → Bool
at_head x Idle = false
at_head x Fetching = false
at_head x (Working p) = at_head_in x p

-- the letter tells client c 5 or 6, and answers its write at the head
abbrev pub head_tells : World → ℕ → Letter → Bool
head_tells w c x = tells_taken x.body && (awaited c (client_at w c) x.stamp && at_head (client_at w c) (client_at w c).stage)

abbrev pub brings : World → ℕ → Step → Bool
brings w c (Begin i) = false
brings w c (Deliver i keep keep_answer) = head_tells w c (letter_at w i)
brings w c (Drop i) = false
brings w c (Stop u) = false
brings w c (Restart i) = false
brings w c (GiveUp i) = false
brings w c Forget = false

-- ---- over the moves of a run

module _ (f : Stepping) (l : Layout) where
  -- with the move m after ms client c puts a request into the bag: more of its requests lie there
  abbrev pub puts : ℕ → Moves → Move → Bool
  puts c ms m = ltb (requests_of c (world_by f l ms).letters) (requests_of c (world_by f l (ms ▸ m)).letters)

  -- with it a head fails client c: the move is not refused, and brings that answer
  abbrev pub fails : ℕ → Moves → Move → Bool
  fails c ms m = eqb (done f l ms m).answer 0 && brings (world_by f l ms) c m.does

  -- how many of the moves, from the operation's begin on, are such
  unfoldable pub counted : (Moves → Move → Bool) → {c : ℕ} {j : Job} {ms : Moves} → UnderWay f l c j ms → ℕ
  counted such (begun {ms = ms} {m} begins not_ended) = one (such ms m)
  counted such (still {ms = ms} {m} way leaves) = counted such way + one (such ms m)

  -- the move that ends it among them
  unfoldable pub counted_in : (Moves → Move → Bool) → {ms : Moves} {m : Move} {c : ℕ} {j : Job} → Ends f l ms m c j → ℕ
  counted_in such {ms} {m} (later way who) = counted such way + one (such ms m)
  counted_in such {ms} {m} (at_once begins who) = one (such ms m)

  pub record Sent : Type 0 where
    -- What an outcome says was sent is how many moves, from the operation's begin on, put a request of its client into the bag: whatever the operation, and
    -- whatever ends it, a give-up too.
    pub sent_is : {ms : Moves} {m : Move} {c : ℕ} {j : Job} (e : Ends f l ms m c j) → (outcome f l ms m).sent ≡ counted_in (puts c) e
    -- An append sends at most 20,
    pub append_most : {ms : Moves} {m : Move} {c : ℕ} {j : Job} → Ends f l ms m c j → j.work ≡ Append → (outcome f l ms m).sent ≤ 20
    -- and exactly 17 where it ends because eight heads failed: no append goes on then.
    pub eight_heads_lem : {ms : Moves} {m : Move} {c : ℕ} {j : Job} (e : Ends f l ms m c j) → j.work ≡ Append → counted_in (fails c) e ≡ 8 → (outcome f l ms m).sent ≡ 17
    pub heads_most : {ms : Moves} {m : Move} {c : ℕ} {j : Job} (e : Ends f l ms m c j) → j.work ≡ Append → counted_in (fails c) e ≤ 8
