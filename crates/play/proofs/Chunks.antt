-- Lines shown call by call are all lines: those that fit are the front, and their bytes the front of the text.
use Prim.Native.Nat.{ℕ, suc, ◌+◌, ◌-◌, ◌≤◌}
use native.Mathlib.Omega.{arith}
use mathlib.Core.Bool.{Bool, true, false, cond}
use mathlib.Core.List.{List, [], ◌∷◌, ◌++◌, append_assoc}
use mathlib.Core.Path.{◌≡◌, refl, sym, ap, ◌∙◌}
use borrow.Author.Tests.{leb-true}
use lib.Dec.{leb}
use lib.ListN.{length, drop, length-append, length-drop}
use lib.Seq.{drop-drop}
use Rattle.std.specs.Prelude.{Ok, Err}
use Rattle.num.specs.declared.refusal.Refusal.{Refusal}
use Rattle.num.specs.declared.refusal.Refusal.TheVariants.{Play}
use Rattle.num.specs.Refusals.{number}
use Rattle.script.specs.Play.{is_play, count_of}
use Rattle.play.specs.declared.Shown.{Shown}
use Rattle.play.specs.Fit.{joined, fit}
use Rattle.play.specs.Text.{lines_of}
use Rattle.play.specs.Shown.{shown_of, IsRun, IsShown}
use Rattle.play.proofs.Reading.{plays}
use Rattle.play.proofs.Running.{lines_count}

-- ---- those that fit

-- they and those behind them are all
pub fit_front : (room : ℕ) (xs : List (List ℕ)) → joined (fit room xs) ++ joined (drop (length (fit room xs)) xs) ≡ joined xs
unfolding fit joined
fit_front room [] = refl
fit_front room (x ∷ xs) = go (leb (length x) room) (fit_front (room - length x) xs)
  where
    go : (t : Bool) → joined (fit (room - length x) xs) ++ joined (drop (length (fit (room - length x) xs)) xs) ≡ joined xs → joined (cond t (x ∷ fit (room - length x) xs) []) ++ joined (drop (length (cond t (x ∷ fit (room - length x) xs) [])) (x ∷ xs)) ≡ x ++ joined xs
    go true rest = append_assoc x (joined (fit (room - length x) xs)) (joined (drop (length (fit (room - length x) xs)) xs)) ∙ ap (λ (r : List ℕ). x ++ r) rest
    go false rest = refl

pub fit_few : (room : ℕ) (xs : List (List ℕ)) → length (fit room xs) ≤ length xs
unfolding fit
fit_few room [] = omega arith
fit_few room (x ∷ xs) = go (leb (length x) room) (fit_few (room - length x) xs)
  where
    go : (t : Bool) → length (fit (room - length x) xs) ≤ length xs → length (cond t (x ∷ fit (room - length x) xs) []) ≤ suc (length xs)
    go true rest = omega arith
    go false rest = omega arith

pub fit_room : (room : ℕ) (xs : List (List ℕ)) → length (joined (fit room xs)) ≤ room
unfolding fit joined
fit_room room [] = omega arith
fit_room room (x ∷ xs) = go (leb (length x) room) refl (fit_room (room - length x) xs)
  where
    go : (t : Bool) → leb (length x) room ≡ t → length (joined (fit (room - length x) xs)) ≤ room - length x → length (joined (cond t (x ∷ fit (room - length x) xs) [])) ≤ room
    go true e rest = rw (length-append x (joined (fit (room - length x) xs))) (omega (arith, leb-true (length x) room e))
    go false e rest = omega arith

-- ---- of a play

-- a call's lines, and those from the next number on
pub shown_front : (b : List ℕ) (from room : ℕ) → joined (shown_of b from room) ++ joined (drop (from - 1 + length (shown_of b from room)) (lines_of b)) ≡ joined (drop (from - 1) (lines_of b))
shown_front b from room = rw (← drop-drop (length (shown_of b from room)) (from - 1) (lines_of b)) (fit_front room (drop (from - 1) (lines_of b)))

module _ (b : List ℕ) (from room : ℕ) where
  -- no more than are left of at most 65,536
  few : is_play b ≡ true → length (shown_of b from room) ≤ 65536 - (from - 1)
  few is_one =
      let play = plays b is_one in
      let left : length (drop (from - 1) (lines_of b)) ≡ count_of b - (from - 1) = length-drop (from - 1) (lines_of b) ∙ rw (lines_count 0 (count_of b) b) in
      omega (arith, fit_few room (drop (from - 1) (lines_of b)), left, play.few, play.short)

  -- within the buffer
  within : length (joined (shown_of b from room)) ≤ room
  within = fit_room room (drop (from - 1) (lines_of b))

module _ {b : List ℕ} {from : ℕ} {out : List ℕ} {s : Shown} {out' : List ℕ} (is : IsRun b from out (Ok s) out') where
  yes : is_play b ≡ true
  yes = go (is_play b) refl
    where
      go : (t : Bool) → is_play b ≡ t → is_play b ≡ true
      go true e = e
      go false e = let none : Ok s ≡ Err Play = is.told_is ∙ rw e in absurd cc

  shown_is : s ≡ record { lines = length (shown_of b from (length out)); written = length (joined (shown_of b from (length out))) }
  shown_is = let both : Ok s ≡ Ok (record { lines = length (shown_of b from (length out)); written = length (joined (shown_of b from (length out))) }) = is.told_is ∙ rw yes in cc

  pub lines_few : s.lines ≤ 65536 - (from - 1)
  lines_few = rw shown_is (few b from (length out) yes)

  pub bytes_few : s.written ≤ length out
  bytes_few = rw shown_is (within b from (length out))

  -- the lent numbers of a caller in C
  pub lent_shown : (lines written : ℕ) → IsShown b from out lines written 0 out' s.lines s.written
  lent_shown lines written =
      record {
        answer_is = sym (rw yes);
        out_is = is.out_is;
        lines_is = rw (yes, shown_is);
        written_is = rw (yes, shown_is);
      }

-- a file that is no play
pub none_shown : {b : List ℕ} {from : ℕ} {out : List ℕ} {r : Refusal} {out' : List ℕ} (lines written : ℕ) → IsRun b from out (Err r) out' → IsShown b from out lines written (number r) out' lines written
none_shown {b} {from} {out} {r} {out'} lines written is = go (is_play b) refl
  where
    go : (t : Bool) → is_play b ≡ t → IsShown b from out lines written (number r) out' lines written
    go true e = let some : Err r ≡ Ok (record { lines = length (shown_of b from (length out)); written = length (joined (shown_of b from (length out))) }) = is.told_is ∙ rw e in absurd cc
    go false e =
        let both : Err r ≡ Err Play = is.told_is ∙ rw e in
        let play : r ≡ Play = cc in
        record { answer_is = rw (e, play); out_is = is.out_is; lines_is = sym (rw e); written_is = sym (rw e) }

-- the same of what a caller in C is told
module _ {b : List ℕ} {from : ℕ} {out : List ℕ} {lines written answer : ℕ} {out' : List ℕ} {lines' written' : ℕ} (is : IsShown b from out lines written answer out' lines' written') (fine : answer ≡ 0) where
  played : is_play b ≡ true
  played = go (is_play b) (sym fine ∙ is.answer_is)
    where
      go : (t : Bool) → ◌≡◌ {A = ℕ} 0 (cond t 0 22) → t ≡ true
      go true e = refl
      go false e = absurd (omega arith)

  pub told_lines_few : lines' ≤ 65536 - (from - 1)
  told_lines_few = let told : lines' ≡ length (shown_of b from (length out)) = is.lines_is ∙ rw played in rw told (few b from (length out) played)

  pub told_bytes_few : written' ≤ length out
  told_bytes_few = let told : written' ≡ length (joined (shown_of b from (length out))) = is.written_is ∙ rw played in rw told (within b from (length out))
