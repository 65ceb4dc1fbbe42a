-- What is known of a play: its layout starts a yard, and each of its steps stands where code looks for it.
-- Rests on the laws of script.
use Prim.Native.Nat.{ℕ, zero, suc, ◌+◌, ◌*◌, ◌≤◌, ◌<◌}
use mathlib.Core.Bool.{true}
use mathlib.Core.List.{List}
use mathlib.Core.Path.{◌≡◌, ◌∙◌}
use native.Mathlib.Omega.{arith}
use borrow.Author.Tests.{eqb-true}
use lib.Dec.{eqb}
use lib.ListN.{length, drop}
use Rattle.num.proofs.Tests.{and_both}
use Rattle.std.specs.Prelude.{Some}
use Rattle.layout.specs.Value.{good_value}
use Rattle.rule.specs.World.{unit_limit, letter_limit}
use Rattle.rule.specs.Lent.{unit_size}
use Rattle.rule.specs.Fresh.{fresh_number_of}
use Rattle.script.specs.Steps.{got_at, got_of, cue_no, past, size_at}
use Rattle.script.specs.Play.{is_play, layout_of, count_of, steps_of, offset}
use Rattle.script.proofs.Walking.{size_positive}
use Rattle.script.proofs.Plays.{play_says, starts_fresh}
use Rattle.script.proofs.Offsets.{offset_next, offset_within, play_got}

-- step k stands whole, and the next one behind it
pub record Standing (b : List ℕ) (k : ℕ) : Type 0 where
  pub got_is : got_at (drop (offset k b) b) ≡ Some (got_of (cue_no k (steps_of b)))
  pub next_is : offset (suc k) b ≡ offset k b + (got_of (cue_no k (steps_of b))).size
  pub within : offset (suc k) b ≤ length b

pub record Plays (b : List ℕ) : Type 0 where
  pub good_layout : good_value (layout_of b) ≡ true
  pub first_epoch : (layout_of b).epoch.0 ≡ 1
  pub fresh_fine : fresh_number_of (layout_of b) letter_limit (unit_limit * unit_size) ≡ 0
  pub short : length b ≤ 65536
  pub few : count_of b ≤ length b
  pub standing : (k : ℕ) → k < count_of b → Standing b k

-- each step has a byte at least
offset_grows : (k : ℕ) (b : List ℕ) → k ≤ offset k b
offset_grows zero b = omega arith
offset_grows (suc k) b = omega (arith, offset_grows k b, offset_next k b, size_positive (past k (steps_of b)))

pub plays : (b : List ℕ) → is_play b ≡ true → Plays b
unfolding size_at
plays b is =
    let says = play_says b is in
    let both = and_both (good_value (layout_of b)) (eqb (layout_of b).epoch.0 1) says.starts in
    record {
      good_layout = both.0;
      first_epoch = eqb-true _ _ both.1;
      fresh_fine = starts_fresh (layout_of b) ∙ rw says.starts;
      short = says.short;
      few = omega (arith, offset_grows (count_of b) b, offset_within b is (count_of b) (omega arith));
      standing = λ k left. record {
        got_is = play_got b is k left;
        next_is = offset_next k b;
        within = offset_within b is (suc k) (omega arith);
      };
    }
