-- On the way to what is shown: what the inner functions promise.
use Rattle.std.specs.Prelude.{ℕ, ◌+◌, ◌≤◌, ◌<◌, Bool, true, cond, List, ◌≡◌, leb, length, Option, Some, None}
use Rattle.std.proofs.lemmas.List.Edits.{sets}
use Rattle.rule.specs.Stepped.{Stepped, stepped_in}
use Rattle.rule.specs.declared.Stepped.{Stepped as Returned}
use Rattle.rule.specs.Lent.{Lent, lent_of}
use Rattle.kept.specs.declared.Kept.{Kept}
use Rattle.kept.specs.Promises.{KeptStep}
use Rattle.vouch.specs.Runs.Moves.{none}
use Rattle.vouch.specs.Lending.{lent}
use Rattle.script.specs.declared.judge.Judged.{Judged}
use Rattle.script.specs.Play.{is_play, layout_of, count_of, first_of}
use Rattle.line.specs.Line.{line_of}
use Rattle.play.specs.declared.Shown.{Shown}
use Rattle.play.specs.Fit.{joined}
use Rattle.play.specs.Shown.{shown_of}

-- ---- what is kept

-- with the memories beside it, as it is lent
abbrev pub kept_lent : Kept → List ℕ → Lent
kept_lent k m = lent_of k.yard k.sequencer k.table m

-- what a step hands back
abbrev pub after_of : KeptStep → Kept
after_of t = record { yard = t.stepped.yard; sequencer = t.sequencer; table = t.table }

-- ---- a line more

-- the line x has room behind what was written
abbrev pub has_room : Shown → List ℕ → List ℕ → Bool
has_room s x out = leb (s.written + length x) (length out)

abbrev pub with_line : Shown → List ℕ → Shown
with_line s x = record { lines = s.lines + 1; written = s.written + length x }

-- what step number n shows
abbrev pub line_in : ℕ → Stepped → List ℕ
line_in n t = line_of n t.answer t.who t.outcome

abbrev pub line_by : ℕ → Returned → List ℕ
line_by n t = line_in n (stepped_in t)

-- none: the line has no room
pub record IsLineShown (s : Shown) (x out : List ℕ) (r : Option Shown) (out' : List ℕ) : Type 0 where
  pub shown_is : r ≡ cond (has_room s x out) (Some (with_line s x)) None
  pub out_is : out' ≡ cond (has_room s x out) (sets out s.written x) out

-- fewer lines than steps, and their bytes within the buffer
pub record Showing (s : Shown) (n : ℕ) (out : List ℕ) : Type 0 where
  pub fewer : s.lines < n
  pub within : s.written ≤ length out

-- ---- all of them

-- a play, judged, and its fresh yard
pub record Ready (b : List ℕ) (j : Judged) (k : Kept) (m : List ℕ) : Type 0 where
  pub holds_play : is_play b ≡ true
  pub first_is : j.first ≡ first_of b
  pub count_is : j.count ≡ count_of b
  pub lent_is : kept_lent k m ≡ lent (layout_of b) none

-- the lines that were asked for and fit
pub record Ran (b : List ℕ) (from : ℕ) (out : List ℕ) (r : Shown) (out' : List ℕ) : Type 0 where
  pub out_is : out' ≡ sets out 0 (joined (shown_of b from (length out)))
  pub lines_is : r.lines ≡ length (shown_of b from (length out))
  pub written_is : r.written ≡ length (joined (shown_of b from (length out)))
