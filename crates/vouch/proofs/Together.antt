-- The yard and the history go together: `Good`. What a letter in the bag vouches for, and that an answer which is taken answers the outstanding request.
-- Rests on Machines, Lasting, Lists and specs/Runs.
use mathlib.Core.Path.{◌≡◌, refl}
use mathlib.Core.Bool.{true}
use mathlib.Core.List.{List}
use Prim.Native.Nat.{ℕ, ◌-◌, ◌≤◌, ◌<◌}
use lib.ListN.{length, get_or, set}
use Rattle.layout.specs.declared.Layout.{Layout}
use Rattle.client.specs.declared.Page.{Page as PageValue}
use Rattle.client.specs.declared.Ask.{Ask}
use Rattle.client.specs.declared.Reply.{Reply}
use Rattle.client.specs.declared.Stamp.{Stamp}
use Rattle.client.specs.declared.Client.{Client}
use Rattle.client.specs.Client.{busy, fresh}
use Rattle.rule.specs.declared.Letter.{Letter}
use Rattle.rule.specs.declared.Body.{Body}
use Rattle.rule.specs.declared.Body.TheVariants.{Blank, Asks, Answers}
use Rattle.rule.specs.World.{World, is_client, client_at, letter_at, blank_letter}
use Rattle.rule.specs.Serve.{serve}
use Rattle.rule.specs.Steps.{Done, answer_to, response}
use Rattle.history.specs.History.{Note, History, ◌⊑◌, Noted}
use Rattle.history.specs.Events.{Run}
use Rattle.vouch.specs.Runs.{Move, Moves, ◌≼◌, world}
use Rattle.vouch.proofs.Fields.{Asked, Delivers}
use Rattle.vouch.specs.Runs.Moves.{◌▸◌}
use Rattle.vouch.specs.Runs.◌≼◌.{all_of, part_of}
use Rattle.vouch.proofs.Meaning.{AskOk, Means, StageOk, WaitsFor, OutcomeOk}
use Rattle.vouch.proofs.Lasting.{ask_on, means_on, stage_on}
use Rattle.rule.proofs.Lists.{All, all_map, all_at, set_all, client_range}
use Rattle.vouch.proofs.Machines.{Machines}

-- ---- letters

-- the number is one that the client has used
pub data NotLater (c : Client) (s : Stamp) : Type 0 where
  older_life : s.life < c.life → NotLater c s
  this_life : s.life ≡ c.life → s.number.0 ≤ c.used.0 → NotLater c s

-- the letter is about the request that the client waits for
pub record Current (c : Client) (s : Stamp) : Type 0 where
  pub life_is : s.life ≡ c.life
  pub number_is : s.number.0 ≡ c.used.0
  pub is_busy : busy c.stage ≡ true

-- the delivery that the answer came of, among the moves ms
pub record Origin (l : Layout) (ms : Moves) (answer : Letter) (a : Ask) : Type 0 where
  pub before : Moves
  pub move : Move
  pub within : before ▸ move ≼ ms
  pub request : Letter
  pub delivers : Delivers l before move request
  pub kept : delivers.keep_answer ≡ true
  pub current : Current (get_or (world l before).clients (request.stamp.client - 1) fresh) request.stamp
  pub asks : request.body ≡ Asks a
  pub answer_is : answer_to request.stamp (serve (world l before) a request.page request.layout).response ≡ answer

pub record RequestOk (h : History) (c : Client) (s : Stamp) (a : Ask) (g : PageValue) (k : Layout) : Type 0 where
  pub vouches : AskOk h a g k
  pub current : Current c s → WaitsFor c a g k

pub record Answered (l : Layout) (ms : Moves) (h : History) (c : Client) (letter : Letter) (r : Reply) : Type 0 where
  pub ask : Ask
  pub page : PageValue
  pub layout : Layout
  pub waits : WaitsFor c ask page layout
  pub means : Means h ask page layout (response r letter)
  pub origin : Origin l ms letter ask

abbrev pub BodyOk : Layout → Moves → History → Client → Letter → Body → Type 0
BodyOk l ms h c letter Blank = Unit {0}
BodyOk l ms h c letter (Asks a) = RequestOk h c letter.stamp a letter.page letter.layout
BodyOk l ms h c letter (Answers r) = Current c letter.stamp → Answered l ms h c letter r

abbrev pub client_of : List Client → ℕ → Client
client_of cs i = get_or cs (i - 1) fresh

pub record LetterOk (l : Layout) (ms : Moves) (h : History) (cs : List Client) (letter : Letter) : Type 0 where
  pub of_client : is_client letter.stamp.client ≡ true
  pub not_later_lem : NotLater (client_of cs letter.stamp.client) letter.stamp
  pub body_ok : BodyOk l ms h (client_of cs letter.stamp.client) letter letter.body

-- ---- the yard w, reached by the moves ms from a fresh yard of l, is what the history h made of it

pub record Good (l : Layout) (ms : Moves) (h : History) (w : World) : Type 0 where
  pub machines : Machines h w
  pub clients_long : length w.clients ≡ 4
  pub stages : (c : ℕ) → 1 ≤ c → c ≤ 4 → StageOk h (client_at w c) (client_at w c).stage
  pub letters : All (LetterOk l ms h w.clients) w.letters

pub data Or (A B : Type 0) : Type 0 where
  either : A → Or A B
  other : B → Or A B

-- what came of the move m from the yard w: at most one event; and if an operation ended, its outcome vouches for what it says
pub record Next (l : Layout) (ms : Moves) (m : Move) (h : History) (w : World) (d : Done) : Type 0 where
  pub now : History
  pub part : h ⊑ now
  pub good : Good l (ms ▸ m) now d.world
  pub asked : (n : Note) → Noted now n → Or (Noted h n) (Asked l (ms ▸ m) n)
  pub outcome_ok : (c : ℕ) → 1 ≤ c → c ≤ 4 → d.who ≡ c → OutcomeOk now (client_at w c).work (client_at w c).page d.outcome

-- ---- places

-- a letter where one lies
pub letter_there : {l : Layout} {ms : Moves} {h : History} {w : World} → Good l ms h w → (i : ℕ) → ¬ ((letter_at w i).body ≡ Blank) → LetterOk l ms h w.clients (letter_at w i)
letter_there {l} {ms} {h} {w} good i filled =
    go (all_at {P = λ letter. Or (LetterOk l ms h w.clients letter) (letter.body ≡ Blank)} w.letters i blank_letter
    (all_map (λ letter ok. either ok) good.letters) (other refl))
  where
    go : Or (LetterOk l ms h w.clients (letter_at w i)) ((letter_at w i).body ≡ Blank) → LetterOk l ms h w.clients (letter_at w i)
    go (either ok) = ok
    go (other e) = absurd (filled e)

-- ---- a move more, an event more

pub within_trans : {ms₁ ms₂ ms₃ : Moves} → ms₁ ≼ ms₂ → ms₂ ≼ ms₃ → ms₁ ≼ ms₃
within_trans part all_of = part
within_trans part (part_of more) = part_of (within_trans part more)

origin_on : {l : Layout} {ms₁ ms₂ : Moves} {letter : Letter} {a : Ask} → ms₁ ≼ ms₂ → Origin l ms₁ letter a → Origin l ms₂ letter a
origin_on more o = record {
  before = o.before;
  move = o.move;
  within = within_trans o.within more;
  request = o.request;
  delivers = o.delivers;
  kept = o.kept;
  current = o.current;
  asks = o.asks;
  answer_is = o.answer_is;
}

module _ (l : Layout) {ms₁ ms₂ : Moves} {h₁ h₂ : History} (more : ms₁ ≼ ms₂) (run : Run h₂) (part : h₁ ⊑ h₂) where
  pub body_on : (c : Client) (letter : Letter) (b : Body) → BodyOk l ms₁ h₁ c letter b → BodyOk l ms₂ h₂ c letter b
  body_on c letter Blank ok = tt
  body_on c letter (Asks a) ok = record { vouches = ask_on run part ok.vouches; current = ok.current }
  body_on c letter (Answers r) ok = λ current.
      let was = ok current in
      record { ask = was.ask; page = was.page; layout = was.layout; waits = was.waits; means = means_on run part was.means; origin = origin_on more was.origin }

  pub letters_on : {cs : List Client} {ls : List Letter} → All (LetterOk l ms₁ h₁ cs) ls → All (LetterOk l ms₂ h₂ cs) ls
  letters_on {cs} all = all_map (λ letter ok. record {
    of_client = ok.of_client;
    not_later_lem = ok.not_later_lem;
    body_ok = body_on (client_of cs letter.stamp.client) letter letter.body ok.body_ok;
  }) all

pub stages_on : {h₁ h₂ : History} → Run h₂ → h₁ ⊑ h₂ → (w : World) → ((c : ℕ) → 1 ≤ c → c ≤ 4 → StageOk h₁ (client_at w c) (client_at w c).stage) →
    (c : ℕ) → 1 ≤ c → c ≤ 4 → StageOk h₂ (client_at w c) (client_at w c).stage
stages_on run part w ok c low high = stage_on run part (client_at w c) (client_at w c).stage (ok c low high)

-- ---- one client changed

-- no letter is about a request that the changed client waits for
pub record Newer (c d : Client) : Type 0 where
  pub number_ok : (s : Stamp) → NotLater c s → NotLater d s
  pub none_current : (s : Stamp) → NotLater c s → ¬ Current d s

module _ (l : Layout) (ms : Moves) (h : History) where
  -- a letter is as good to a newer client: nothing that lies about answers its request
  newer_body : {c d : Client} (letter : Letter) (b : Body) → Newer c d → NotLater c letter.stamp → BodyOk l ms h c letter b → BodyOk l ms h d letter b
  newer_body letter Blank newer old ok = tt
  newer_body letter (Asks a) newer old ok = record { vouches = ok.vouches; current = λ current. absurd (newer.none_current letter.stamp old current) }
  newer_body letter (Answers r) newer old ok = λ current. absurd (newer.none_current letter.stamp old current)

  pub letters_newer : (cs : List Client) (i : ℕ) (d : Client) → length cs ≡ 4 → 1 ≤ i → i ≤ 4 → Newer (client_of cs i) d → (ls : List Letter) → All (LetterOk l ms h cs) ls →
      All (LetterOk l ms h (set cs (i - 1) d)) ls
  letters_newer cs i d long low high newer ls all = all_map each all
    where
      each : (letter : Letter) → LetterOk l ms h cs letter → LetterOk l ms h (set cs (i - 1) d) letter
      each letter ok =
          let range = client_range letter.stamp.client ok.of_client in
          let both
          = set_all (λ j c. NotLater (client_of cs j) letter.stamp → BodyOk l ms h (client_of cs j) letter letter.body → NotLater c letter.stamp × BodyOk l ms h c letter letter.body)
          (λ j. fresh) cs 4 i d long low high
          (λ old body. (newer.number_ok letter.stamp old, newer_body letter letter.body newer old body))
          (λ j from to ne old body. (old, body))
          letter.stamp.client range.0 range.1 ok.not_later_lem ok.body_ok in
          record { of_client = ok.of_client; not_later_lem = both.0; body_ok = both.1 }
