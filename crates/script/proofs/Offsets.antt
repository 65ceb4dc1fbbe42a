-- Where the step numbered k of a play stands.
use Prim.Native.Nat.{ℕ, zero, suc, ◌+◌, ◌-◌, ◌<◌, ◌≤◌}
use mathlib.Core.Bool.{true}
use mathlib.Core.List.{List, []}
use mathlib.Core.Path.{◌≡◌, refl, sym, ap, ◌∙◌}
use native.Mathlib.Omega.{arith}
use lib.ListN.{length, drop, length-drop}
use lib.Seq.{drop-drop}
use Rattle.std.specs.Prelude.{Some}
use Rattle.script.specs.Steps.{size_at, is_cue, past, cue_no, got_of, got_at}
use Rattle.script.specs.Play.{count_of, first_of, steps_of, offset, is_play}
use Rattle.script.proofs.Walking.{cue_within}
use Rattle.script.proofs.Back.{got_whole}
use Rattle.script.proofs.Cues.{past_next, cue_there, past_all}
use Rattle.script.proofs.Plays.{play_says}

-- at its offset stands what is behind the first k steps
pub offset_drop : (k : ℕ) (b : List ℕ) → drop (offset k b) b ≡ past k (steps_of b)
unfolding offset steps_of past
offset_drop zero b = refl
offset_drop (suc k) b =
    sym (drop-drop (size_at (past k (drop (first_of b) b))) (offset k b) b)
    ∙ rw (offset_drop k b) (sym (past_next k (drop (first_of b) b)))

pub offset_next : (k : ℕ) (b : List ℕ) → offset (suc k) b ≡ offset k b + size_at (past k (steps_of b))
unfolding offset
offset_next k b = refl

pub offset_first : (b : List ℕ) → offset 0 b ≡ first_of b
unfolding offset
offset_first b = refl

module _ (b : List ℕ) (h : is_play b ≡ true) where
  -- the result: each step of a play stands whole, and is what code takes at its offset
  pub play_step : (k : ℕ) → k < count_of b → is_cue (past k (steps_of b)) ≡ true
  play_step k l = cue_there (count_of b) k (steps_of b) (play_says b h).steps l

  pub play_got : (k : ℕ) → k < count_of b → got_at (drop (offset k b) b) ≡ Some (got_of (cue_no k (steps_of b)))
  play_got k l = rw (offset_drop k b) (got_whole (past k (steps_of b)) (play_step k l))

  -- within the file
  pub offset_within : (k : ℕ) → k ≤ count_of b → offset k b ≤ length b
  unfolding first_of
  offset_within zero l = rw (offset_first b) (play_says b h).room
  offset_within (suc k) l =
      let here : offset k b ≤ length b = offset_within k (omega arith) in
      let fits : size_at (past k (steps_of b)) ≤ length (past k (steps_of b)) = cue_within (past k (steps_of b)) (play_step k (omega arith)) in
      let left : length (past k (steps_of b)) ≡ length b - offset k b = rw (← offset_drop k b) (length-drop (offset k b) b) in
      omega (arith, offset_next k b)

  -- behind the last step the file ends
  pub offset_last : offset (count_of b) b ≡ length b
  offset_last =
      let within : offset (count_of b) b ≤ length b = offset_within (count_of b) (omega arith) in
      let none : drop (offset (count_of b) b) b ≡ [] = offset_drop (count_of b) b ∙ past_all (count_of b) (steps_of b) (play_says b h).steps in
      omega (arith, length-drop (offset (count_of b) b) b, ap length none)
