-- What is judged of a whole play.
use Prim.Native.Nat.{ℕ, ◌+◌, ◌-◌, ◌<◌, ◌≤◌}
use mathlib.Core.Bool.{Bool, true, false, ◌&&◌}
use mathlib.Core.List.{List}
use mathlib.Core.Path.{◌≡◌, refl, sym, ◌∙◌}
use native.Mathlib.Omega.{arith}
use borrow.Author.Tests.{le-leb, lt-leb, eq-eqb, ne_eqb}
use lib.Dec.{eqb, leb}
use lib.ListN.{length, take, drop}
use Rattle.std.proofs.Common.{inl, inr}
use Rattle.std.specs.Prelude.{◌⊎◌, Ok, Err}
use Rattle.num.specs.declared.refusal.Refusal.{Refusal}
use Rattle.num.specs.declared.refusal.Refusal.TheVariants.{Play}
use Rattle.num.specs.Refusals.{number}
use Rattle.num.proofs.Refusals.{number_above}
use Rattle.num.specs.Bytes.{number_at}
use Rattle.num.proofs.Tests.{and_false}
use Rattle.layout.specs.declared.Layout.{Layout}
use Rattle.layout.specs.Codec.{is_layout, read_answer, read_layout, LayoutRead}
use Rattle.layout.proofs.ReadLayout.{written_read}
use Rattle.script.specs.Steps.{are_cues}
use Rattle.script.specs.Play.{play_limit, layout_size, layout_part, layout_of, count_of, first_of, steps_of, starts_yard, is_play, judged_of}

read_fine : (x : List ℕ) → 0 ≡ read_answer x → is_layout x ≡ true
read_fine x e = go (is_layout x) refl
  where
    go : (t : Bool) → is_layout x ≡ t → is_layout x ≡ true
    go true y = y
    go false y = let ten : ◌≡◌ {A = ℕ} 0 10 = e ∙ rw y in absurd (omega (arith, ten))

read_refused : (x : List ℕ) (r : Refusal) → number r ≡ read_answer x → is_layout x ≡ false
read_refused x r e = go (is_layout x) refl
  where
    go : (t : Bool) → is_layout x ≡ t → is_layout x ≡ false
    go true y = absurd (number_above r (e ∙ rw y))
    go false y = y

-- a layout that was read starts a yard where its epoch is 1
pub starts_read : (x : List ℕ) → (is_layout x && starts_yard (read_layout x)) ≡ (eqb (read_answer x) 0 && eqb (read_layout x).epoch.0 1)
starts_read x = go (is_layout x) refl
  where
    go : (t : Bool) → is_layout x ≡ t → (t && starts_yard (read_layout x)) ≡ (eqb (read_answer x) 0 && eqb (read_layout x).epoch.0 1)
    go true e =
        let fine : read_answer x ≡ 0 = rw e in
        rw (fine, (written_read x fine).0)
    go false e = rw e

module _ (b : List ℕ) where
  -- too long, or too short for both counts
  pub judged_short : (n : ℕ) → n ≡ layout_size b → (play_limit < length b) ⊎ (length b < (2 + n) + 4) → Err Play ≡ judged_of b
  unfolding judged_of is_play first_of
  judged_short n e (inl h) = sym (rw (lt-leb (length b) play_limit h))
  judged_short n e (inr h) =
      let first : leb (6 + layout_size b) (length b) ≡ false = lt-leb (6 + layout_size b) (length b) (omega arith) in
      sym (rw (first, and_false (leb (length b) play_limit)))

  module _ (n : ℕ) (part : List ℕ) (en : n ≡ layout_size b) (ep : part ≡ take ((2 + n) - 2) (drop 2 b)) where
    part_is : part ≡ layout_part b
    part_is =
        let size : (2 + n) - 2 ≡ layout_size b = omega arith in
        ep ∙ rw size

    -- what stands between the counts is no layout
    pub judged_other : (r : Refusal) {l : Layout} → LayoutRead part (number r) l → Err Play ≡ judged_of b
    unfolding judged_of is_play
    judged_other r h = sym (rw (rw part_is at (read_refused part r h.answer_is), and_false (leb (length b) play_limit && leb (first_of b) (length b))))

    module _ (layout : Layout) (er : LayoutRead part 0 layout) (first count : ℕ) (ef : first ≡ (2 + n) + 4) (ec : count ≡ number_at 4 (2 + n) b) where
      layout_is : layout ≡ layout_of b
      unfolding layout_of
      layout_is = rw part_is at er.layout_is

      fine : is_layout (layout_part b) ≡ true
      fine = rw part_is at (read_fine part er.answer_is)

      starts : starts_yard (layout_of b) ≡ eqb layout.epoch.0 1
      unfolding layout_of
      starts = rw ((written_read (layout_part b) (rw fine)).0, er.layout_is, part_is)

      first_is : first ≡ first_of b
      unfolding first_of
      first_is = omega arith

      count_is : count ≡ count_of b
      unfolding count_of
      count_is = rw en at ec

      tests : is_play b ≡ (leb (length b) play_limit && leb (first_of b) (length b) && true && eqb layout.epoch.0 1 && are_cues count (drop first b))
      unfolding is_play steps_of
      tests = rw (fine, starts, first_is, count_is)

      -- its first epoch is another, or steps do not follow
      pub judged_none : (layout.epoch.0 ≡ 1 → ⊥) ⊎ (are_cues count (drop first b) ≡ false) → Err Play ≡ judged_of b
      unfolding judged_of
      judged_none (inl h) = sym (rw (tests, ne_eqb layout.epoch.0 1 h, and_false (leb (length b) play_limit && leb (first_of b) (length b) && true)))
      judged_none (inr h) = sym (rw (tests, h, and_false (leb (length b) play_limit && leb (first_of b) (length b) && true && eqb layout.epoch.0 1)))

      pub judged_play : length b ≤ play_limit → first ≤ length b → layout.epoch.0 ≡ 1 → are_cues count (drop first b) ≡ true
          → Ok (record { layout = layout; count = count; first = first }) ≡ judged_of b
      unfolding judged_of
      judged_play short room one steps =
          let within : leb (first_of b) (length b) ≡ true = le-leb (first_of b) (length b) (rw first_is at room) in
          let play : is_play b ≡ true = rw (tests, le-leb (length b) play_limit short, within, eq-eqb layout.epoch.0 1 one, steps) in
          sym (rw (play, ← layout_is, ← first_is, ← count_is))
