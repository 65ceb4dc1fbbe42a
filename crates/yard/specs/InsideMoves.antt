-- Names for what the private functions that decide a step promise: by value, what a step leaves of the yard, and what it does to the bag.
use Rattle.std.specs.Prelude.{ℕ, ◌+◌, ◌-◌, ◌<◌, ◌≤◌, Bool, true, false, cond, List, [], ◌∷◌, ◌++◌, ◌≡◌, ltb, length, get_or, set, Result, Ok, Err}
use Rattle.std.specs.Option.{is_some, unwrap_or}
use Rattle.num.specs.declared.refusal.Refusal.{Refusal}
use Rattle.num.specs.Refusals.{number}
use Rattle.unit.specs.declared.shape.Shape.{Shape}
use Rattle.unit.specs.State.{State}
use Rattle.sequencer.specs.declared.Sequencer.{Sequencer}
use Rattle.client.specs.declared.Query.{Query}
use Rattle.client.specs.declared.Stamp.{Stamp}
use Rattle.client.specs.declared.Client.{Client}
use Rattle.client.specs.declared.Outcome.{Outcome}
use Rattle.client.specs.declared.Response.{Response}
use Rattle.client.specs.Turn.{Act, Rests, Sends, Ends, Turn, no_outcome}
use Rattle.rule.specs.declared.Letter.{Letter}
use Rattle.rule.specs.declared.Yard.{Yard}
use Rattle.yard.specs.declared.moves.Core.{Core}
use Rattle.yard.specs.declared.moves.Moves.{Moves as Decision}
use Rattle.rule.specs.World.{World, letter_limit, blank_letter}
use Rattle.rule.specs.Steps.{Done, keeping, request, ended, answer_to}
use Rattle.rule.specs.Lent.{units_bytes}
use Rattle.rule.specs.Stepped.{who_of, outcome_of}
use Rattle.yard.specs.Bag.{put_at, drop_at}

-- the yard with some letters and some units
abbrev pub world_with : Yard → Sequencer → List Letter → List State → World
world_with y s ls us = record { held = y.held; clients = y.clients; stopped = y.stopped; units = us; sequencer = s; letters = ls }

-- what a step decides, by numbers: the yard's count is as it was
pub record Moves : Type 0 where
  pub answer : ℕ
  pub who : ℕ
  pub outcome : Outcome
  pub yard : Yard
  pub sequencer : Sequencer
  pub keeps : Bool
  pub posts : Bool
  pub letter : Letter

-- a new letter goes to the end
abbrev pub posting : Bool → Letter → List Letter
posting true l = l ∷ []
posting false l = []

-- what moves say of a step that found the letters ls and leaves the units us
abbrev pub done_of : List Letter → ℕ → Moves → List State → Done
done_of ls i m us = record {
  answer = m.answer;
  who = m.who;
  outcome = m.outcome;
  world = world_with m.yard m.sequencer (keeping m.keeps i ls ++ posting m.posts m.letter) us;
}

-- how many letters are left, and how many there are then
abbrev pub left_at : ℕ → Bool → ℕ
left_at n keeps = cond keeps n (n - 1)

abbrev pub count_after : ℕ → Bool → Bool → ℕ
count_after n keeps posts = left_at n keeps + cond posts 1 0

-- the bag has room for them, or 16
abbrev pub room_answer : ℕ → Bool → Bool → ℕ
room_answer n keeps posts = cond (ltb letter_limit (count_after n keeps posts)) 16 0

-- what a table becomes that has n letters, the one at hand at i
abbrev pub table_after : ℕ → ℕ → Moves → List Letter → List Letter
table_after n i m table =
    cond m.posts (put_at (cond m.keeps table (drop_at table n i)) (left_at n m.keeps) m.letter) (cond m.keeps table (drop_at table n i))

-- the moves do what a rule says, whatever the letters are, of which there are n; i is the place of the letter that goes where one goes
pub record Moved (rule : List Letter → List State → Done) (n i : ℕ) (m : Moves) : Type 0 where
  pub done_is : (ls : List Letter) (us : List State) → length ls ≡ n → rule ls us ≡ done_of ls i m us
  pub count_is : m.yard.count ≡ n
  pub there : m.keeps ≡ false → i < n
  pub room : n ≤ letter_limit → count_after n m.keeps m.posts ≤ letter_limit

-- the same where memories of the shape sh change too, and l is the letter at i, if there is one
pub record Decided (sh : Shape) (l : Letter) (rule : List Letter → Done) (n i : ℕ) (m : Moves) (after : List ℕ) : Type 0 where
  pub units : List State
  pub memories_is : after ≡ units_bytes sh units
  pub done_is : (ls : List Letter) → length ls ≡ n → (i < n → get_or ls i blank_letter ≡ l) → rule ls ≡ done_of ls i m units
  pub count_is : m.yard.count ≡ n
  pub there : m.keeps ≡ false → i < n
  pub room : n ≤ letter_limit → count_after n m.keeps m.posts ≤ letter_limit

-- ---- the moves where no operation ends and no letter comes, of a refusal among them; of a client's turn; of a machine's answer

abbrev pub quiet : Yard → Sequencer → Bool → ℕ → Moves
quiet y s keeps n = record {
  answer = n;
  who = 0;
  outcome = no_outcome;
  yard = y;
  sequencer = s;
  keeps = keeps;
  posts = false;
  letter = blank_letter;
}

abbrev pub refusing : Yard → Sequencer → ℕ → Moves
refusing y s n = quiet y s true n

abbrev pub with_client_in : Yard → ℕ → Client → Yard
with_client_in y c x = record { held = y.held; clients = set y.clients (c - 1) x; stopped = y.stopped; count = y.count }

abbrev pub with_stopped_in : Yard → ℕ → Yard
with_stopped_in y u = record { held = y.held; clients = y.clients; stopped = set y.stopped (u - 1) true; count = y.count }

abbrev pub sends : Act → Bool
sends Rests = false
sends (Sends n) = true
sends Ends = false

abbrev pub letter_of : ℕ → ℕ → Act → Query → Letter
letter_of c life Rests q = blank_letter
letter_of c life (Sends n) q = request (record { client = c; life = life; number = n }) q
letter_of c life Ends q = blank_letter

abbrev pub turning : Yard → Sequencer → Bool → ℕ → Turn → Moves
turning y s keeps c t = record {
  answer = 0;
  who = ended c t.act;
  outcome = t.outcome;
  yard = with_client_in y c t.client;
  sequencer = s;
  keeps = keeps;
  posts = sends t.act;
  letter = letter_of c t.client.life t.act t.query;
}

-- y and q: the yard and the sequencer once the machine has served
abbrev pub answering : Yard → Sequencer → Bool → Bool → Stamp → Response → Moves
answering y q keeps keeps_answer s r = record {
  answer = 0;
  who = 0;
  outcome = no_outcome;
  yard = y;
  sequencer = q;
  keeps = keeps;
  posts = keeps_answer;
  letter = cond keeps_answer (answer_to s r) blank_letter;
}

-- ---- what the code decides, as that

abbrev pub moves_of : Decision → Moves
moves_of m = record {
  answer = 0;
  who = who_of m.ended;
  outcome = outcome_of m.ended;
  yard = m.core.yard;
  sequencer = m.core.sequencer;
  keeps = m.keeps;
  posts = is_some m.posts;
  letter = unwrap_or m.posts blank_letter;
}

-- a refusal leaves the yard and the sequencer k
abbrev pub moves_in : Core → Result Decision Refusal → Moves
moves_in k (Ok m) = moves_of m
moves_in k (Err r) = refusing k.yard k.sequencer (number r)
