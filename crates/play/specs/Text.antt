-- What a play shows, from its bytes to its text: from the fresh yard, what the yard's rule makes of each step, and the line of it.
-- Rests on script (the steps of a file), vouch (moves and the yards between them), line (the line of a step) and Fit.
use Rattle.std.specs.Prelude.{ℕ, zero, suc, cond, List, [], ◌∷◌}
use Rattle.rule.specs.Steps.{Done}
use Rattle.vouch.specs.Runs.{Move, Moves, result, world}
use Rattle.vouch.specs.Runs.Moves.{none, ◌▸◌}
use Rattle.script.specs.Cue.{Cue, step_for, job_for}
use Rattle.script.specs.Steps.{cue_no}
use Rattle.script.specs.Play.{is_play, layout_of, count_of, steps_of}
use Rattle.line.specs.Line.{line_of}
use Rattle.play.specs.Fit.{joined}

-- what the yard's step is handed for a step of a play
abbrev pub move_of : Cue → Move
move_of c = record { does = step_for c; job = job_for c }

-- step k of the file b, counted from 0
abbrev pub move_no : ℕ → List ℕ → Move
move_no k b = move_of (cue_no k (steps_of b))

-- the moves before step k
unfoldable pub before : ℕ → List ℕ → Moves
before zero b = none
before (suc k) b = before k b ▸ move_no k b

-- what the yard's rule makes of step k in the yard that the steps before it left
abbrev pub done_no : ℕ → List ℕ → Done
done_no k b = result (world (layout_of b) (before k b)) (move_no k b)

-- its line; the number shown counts from 1
unfoldable pub line_no : ℕ → List ℕ → List ℕ
line_no k b = line_of (suc k) (done_no k b).answer (done_no k b).who (done_no k b).outcome

-- the lines of the n steps from step k on
unfoldable pub lines_from : ℕ → ℕ → List ℕ → List (List ℕ)
lines_from k zero b = []
lines_from k (suc n) b = line_no k b ∷ lines_from (suc k) n b

-- a line for each step
abbrev pub lines_of : List ℕ → List (List ℕ)
lines_of b = lines_from 0 (count_of b) b

-- "22" and a line end
abbrev pub refused_text : List ℕ
refused_text = 50 ∷ 50 ∷ 10 ∷ []

-- all that a file shows
unfoldable pub text_of : List ℕ → List ℕ
text_of b = cond (is_play b) (joined (lines_of b)) refused_text
