-- What a call shows of a play: as many whole lines as its buffer has room for, from one number on.
use Rattle.std.specs.Prelude.{ℕ, ◌-◌, cond, List, ◌≡◌, length, drop, Result, Ok, Err}
use Rattle.std.proofs.lemmas.List.Edits.{sets}
use Rattle.num.specs.declared.refusal.Refusal.{Refusal}
use Rattle.num.specs.declared.refusal.Refusal.TheVariants.{Play}
use Rattle.num.specs.Told.{told}
use Rattle.script.specs.Play.{is_play}
use Rattle.play.specs.declared.Shown.{Shown}
use Rattle.play.specs.Fit.{joined, fit}
use Rattle.play.specs.Text.{lines_of}

-- 22 where the file is no play
abbrev pub play_answer : List ℕ → ℕ
play_answer b = cond (is_play b) 0 22

-- the lines from number `from` on that fit into room bytes; 1 is the first number, and 0 is read like 1
abbrev pub shown_of : List ℕ → ℕ → ℕ → List (List ℕ)
shown_of b from room = fit room (drop (from - 1) (lines_of b))

-- 22 where the file is no play; otherwise how many lines there are, and how many bytes they have
abbrev pub told_of : List ℕ → ℕ → ℕ → Result Shown Refusal
told_of b from room = cond (is_play b) (Ok (record { lines = length (shown_of b from room); written = length (joined (shown_of b from room)) })) (Err Play)

-- what is told, and the lent buffer before and after
pub record IsRun (b : List ℕ) (from : ℕ) (out : List ℕ) (r : Result Shown Refusal) (out' : List ℕ) : Type 0 where
  pub told_is : r ≡ told_of b from (length out)
  pub out_is : out' ≡ cond (is_play b) (sets out 0 (joined (shown_of b from (length out)))) out

-- the lent buffer, the lent count of lines and the lent count of bytes, before and after
pub record IsShown (b : List ℕ) (from : ℕ) (out : List ℕ) (lines written answer : ℕ) (out' : List ℕ) (lines' written' : ℕ) : Type 0 where
  pub answer_is : answer ≡ play_answer b
  pub out_is : out' ≡ cond (is_play b) (sets out 0 (joined (shown_of b from (length out)))) out
  pub lines_is : lines' ≡ told (play_answer b) (length (shown_of b from (length out))) lines
  pub written_is : written' ≡ told (play_answer b) (length (joined (shown_of b from (length out)))) written
