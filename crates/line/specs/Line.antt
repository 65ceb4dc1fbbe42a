-- The line of one step: NUMBER ANSWER, and where an operation ended : CLIENT OUTCOME POSITION EPOCH KIND PAYLOAD; behind an append's, sent COUNT.
use Rattle.std.specs.Prelude.{ℕ, ◌+◌, Bool, true, false, cond, List, [], ◌∷◌, ◌++◌, ◌≡◌, eqb, leb, length, take, Option, Some, None}
use Rattle.std.proofs.lemmas.List.Edits.{sets}
use Rattle.client.specs.declared.Outcome.{Outcome}
use Rattle.client.specs.declared.Page.{Page}
use Rattle.client.specs.declared.Work.{Work}
use Rattle.client.specs.declared.Work.TheVariants.{Append, Read, Fill, Trim, Prune, Reorganise}
use Rattle.line.specs.Text.{line_end, space, colon, sent_word, decimal, word, hex_text}

-- the page's bytes, as many as its length says
abbrev pub payload_of : Page → List ℕ
payload_of p = take p.len p.bytes

-- " : CLIENT OUTCOME"
unfoldable pub who_text : ℕ → ℕ → List ℕ
who_text who number = (space ∷ colon ∷ []) ++ word who ++ word number

-- " KIND PAYLOAD"
unfoldable pub page_text : Page → List ℕ
page_text p = word p.kind ++ (space ∷ hex_text (payload_of p))

abbrev pub is_append : Work → Bool
is_append Append = true
is_append (Read p) = false
is_append (Fill p) = false
is_append (Trim p) = false
is_append (Prune p) = false
is_append Reorganise = false

-- " sent COUNT": the requests that an append sent. Of the others nothing is said
unfoldable pub sent_text : Work → ℕ → List ℕ
sent_text w n = cond (is_append w) (sent_word ++ word n) []

-- who ended, and how
unfoldable pub end_text : ℕ → Outcome → List ℕ
end_text who o = who_text who o.number ++ word o.position.0 ++ word o.epoch.0 ++ page_text o.page ++ sent_text o.work o.sent

-- the line of step `number`; nobody ended where who is 0
unfoldable pub line_of : ℕ → ℕ → ℕ → Outcome → List ℕ
line_of number answer who o = decimal number ++ word answer ++ cond (eqb who 0) [] (end_text who o) ++ (line_end ∷ [])

-- a text has room in a buffer from an offset on
unfoldable pub fits : List ℕ → ℕ → List ℕ → Bool
fits text at out = leb (at + length text) (length out)

-- the line stands whole from the offset on, or nothing is written; how long it is, where it stands
pub record IsLinePut (before : List ℕ) (at number answer who : ℕ) (o : Outcome) (r : Option ℕ) (after : List ℕ) : Type 0 where
  pub count_is : r ≡ cond (fits (line_of number answer who o) at before) (Some (length (line_of number answer who o))) None
  pub buffer_is : after ≡ cond (fits (line_of number answer who o) at before) (sets before at (line_of number answer who o)) before
