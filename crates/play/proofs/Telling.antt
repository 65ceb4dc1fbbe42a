-- What a call is told: of a play its lines, of any other file nothing.
use Prim.Native.Nat.{ℕ, ◌*◌}
use mathlib.Core.List.{List}
use mathlib.Core.Path.{◌≡◌, sym, ◌∙◌}
use lib.ListN.{length, replicate, length-replicate}
use Rattle.std.specs.Prelude.{Result, Ok, Err, IsOk}
use Rattle.num.specs.declared.refusal.Refusal.{Refusal}
use Rattle.rule.specs.World.{unit_limit, letter_limit, blank_letter}
use Rattle.rule.specs.Lent.{unit_size}
use Rattle.rule.specs.Fresh.{fresh_number, fresh_number_of, makes}
use Rattle.sequencer.specs.Rules as sequencer
use Rattle.kept.specs.declared.Kept.{Kept}
use Rattle.kept.specs.Promises.{kept_made_in, IsKeptMade}
use Rattle.num.proofs.Refusals.{number_above}
use borrow.Author.Rules.{rules}
use Rattle.vouch.specs.Runs.Moves.{none}
use Rattle.vouch.specs.Lending.{lent}
use Rattle.vouch.proofs.Lending.{lent_first}
use Rattle.script.specs.declared.judge.Judged.{Judged}
use Rattle.script.specs.Play.{layout_of, judged_of}
use Rattle.script.proofs.Answers.{judged_fine, judged_none}
use Rattle.play.specs.declared.Shown.{Shown}
use Rattle.play.specs.Shown.{IsRun}
use Rattle.play.specs.Going.{Ready, Ran}
use Rattle.play.proofs.Reading.{plays}
use Rattle.play.proofs.Running.{same_lent}

module _ (b : List ℕ) {j : Judged} (is : Ok j ≡ judged_of b) where
  -- ---- the fresh yard of a play

  zero_number : (m : List ℕ) → length m ≡ unit_limit * unit_size → fresh_number_of j.layout (length (replicate letter_limit blank_letter)) (length m) ≡ 0
  zero_number m long =
      let f = judged_fine b is in
      rw (f.layout_is, length-replicate letter_limit blank_letter, long) (plays b f.holds_play).fresh_fine

  module _ {m : List ℕ} (long : length m ≡ unit_limit * unit_size) where
    -- it is made
    pub is_made : (r : Result Kept Refusal) {m' : List ℕ} → IsKeptMade j.layout m (kept_made_in r) m' → IsOk r
    unfolding fresh_number
    is_made (Ok k) made = search rules
    is_made (Err r) made = absurd (number_above r (made.answer_is ∙ zero_number m long))

    pub ready : {k : Kept} {m' : List ℕ} → IsKeptMade j.layout m (kept_made_in (Ok k)) m' → Ready b j k m'
    ready made =
        let f = judged_fine b is in
        let fresh_is : makes j.layout sequencer.fresh (replicate letter_limit blank_letter) m ≡ lent (layout_of b) none
        = rw f.layout_is (lent_first (layout_of b) sequencer.fresh (replicate letter_limit blank_letter) m (rw f.layout_is at (zero_number m long))) in
        record {
          holds_play = f.holds_play;
          first_is = f.first_is;
          count_is = f.count_is;
          lent_is = same_lent made.yard_is made.sequencer_is made.table_is made.memories_is ∙ fresh_is;
        }

  -- ---- what is told

  pub told_run : {from : ℕ} {out : List ℕ} {s : Shown} {out' : List ℕ} → Ran b from out s out' → IsRun b from out (Ok s) out'
  told_run ran =
      let yes = (judged_fine b is).holds_play in
      record { told_is = rw (yes, ← ran.lines_is, ← ran.written_is); out_is = ran.out_is ∙ sym (rw yes) }

pub told_none : (b : List ℕ) {r : Refusal} {from : ℕ} {out : List ℕ} → Err r ≡ judged_of b → IsRun b from out (Err r) out
told_none b is = let no = judged_none b is in record { told_is = rw (no.0, no.1); out_is = sym (rw no.0) }
