-- A play is read and written exactly: what reads is what it writes, and nothing else reads.
use Prim.Native.Nat.{ℕ, ◌+◌, ◌*◌, ◌≤◌}
use mathlib.Core.Bool.{Bool, true, false, ◌&&◌, not, cond}
use mathlib.Core.List.{List, ◌++◌, append_assoc}
use mathlib.Core.Path.{◌≡◌, refl, sym, ap, ◌∙◌}
use native.Mathlib.Omega.{arith}
use borrow.Author.Tests.{leb-true, le-leb}
use lib.Dec.{eqb, leb}
use lib.ListN.{length, drop, length-append, length-drop}
use lib.Seq.{drop-drop, drop_at, take_at, length-take-le}
use Rattle.num.specs.Bytes.{le_bytes, number_at}
use Rattle.num.proofs.Tests.{and_both}
use Rattle.num.proofs.Front.{Front, front_append, front_take, front_number}
use Rattle.num.proofs.Numbers.{Bytes, bytes_drop, le_length, number_behind, number_back}
use Rattle.layout.specs.declared.Layout.{Layout}
use Rattle.layout.specs.Value.{lay_of, good_value}
use Rattle.layout.specs.Codec.{is_layout, bytes_of}
use Rattle.layout.proofs.ValueOf.{value_of_good}
use Rattle.layout.proofs.ReadLayout.{read_written, written_read}
use Rattle.layout.proofs.Decode.{encode_is_layout, encode_small}
use Rattle.rule.specs.World.{unit_limit, letter_limit}
use Rattle.rule.specs.Lent.{unit_size}
use Rattle.rule.specs.Fresh.{fresh_number_of}
use Rattle.script.specs.Cue.{Cue}
use Rattle.script.specs.Steps.{cues_bytes, cues_at, are_cues, all_holdable}
use Rattle.script.specs.Play.{play_limit, start_bytes, play_bytes, layout_size, layout_part, layout_of, count_of, first_of, steps_of, starts_yard, is_play}
use Rattle.script.proofs.Cues.{cues_written, cues_stand, cues_back, cues_length, cues_long}

-- ---- what a play says of its parts

pub record Play (b : List ℕ) : Type 0 where
  pub short : length b ≤ play_limit
  pub room : 6 + layout_size b ≤ length b
  pub layout_fine : is_layout (layout_part b) ≡ true
  pub starts : starts_yard (layout_of b) ≡ true
  pub steps : are_cues (count_of b) (steps_of b) ≡ true

pub play_says : (b : List ℕ) → is_play b ≡ true → Play b
unfolding is_play first_of
play_says b h =
    let l = leb (length b) play_limit in
    let r = leb (6 + layout_size b) (length b) in
    let i = is_layout (layout_part b) in
    let y = starts_yard (layout_of b) in
    let p₁ = and_both (l && r && i && y) (are_cues (count_of b) (steps_of b)) h in
    let p₂ = and_both (l && r && i) y p₁.0 in
    let p₃ = and_both (l && r) i p₂.0 in
    let p₄ = and_both l r p₃.0 in
    record {
      short = leb-true (length b) play_limit p₄.0;
      room = leb-true (6 + layout_size b) (length b) p₄.1;
      layout_fine = p₃.1;
      starts = p₂.1;
      steps = p₁.1;
    }

pub says_play : (b : List ℕ) → Play b → is_play b ≡ true
unfolding is_play first_of
says_play b p = rw (le-leb (length b) play_limit p.short, le-leb (6 + layout_size b) (length b) p.room, p.layout_fine, p.starts, p.steps)

-- such a layout starts a fresh yard, and no other does
pub starts_fresh : (l : Layout) → fresh_number_of l letter_limit (unit_limit * unit_size) ≡ cond (starts_yard l) 0 10
unfolding fresh_number_of
starts_fresh l = go (starts_yard l)
  where
    go : (t : Bool) → ◌≡◌ {A = ℕ} (cond (not t) 10 0) (cond t 0 10)
    go true = refl
    go false = refl

pub play_fresh : (b : List ℕ) → is_play b ≡ true → fresh_number_of (layout_of b) letter_limit (unit_limit * unit_size) ≡ 0
play_fresh b h = starts_fresh (layout_of b) ∙ rw (play_says b h).starts

-- ---- what is read is written back

module _ (b : List ℕ) (bytes : Bytes b) (p : Play b) where
  part_length : length (layout_part b) ≡ layout_size b
  part_length = length-take-le (layout_size b) (drop 2 b) (omega (arith, p.room, length-drop 2 b))

  part_bytes : bytes_of (layout_of b) ≡ layout_part b
  unfolding layout_of
  part_bytes = (written_read (layout_part b) (rw p.layout_fine)).1

  front_start : Front (le_bytes 2 (layout_size b) ++ layout_part b ++ le_bytes 4 (count_of b)) b
  unfolding count_of
  front_start =
      let room : 6 + layout_size b ≤ length b = p.room in
      let two : length (le_bytes 2 (layout_size b)) ≡ 2 = le_length 2 (layout_size b) in
      let count : Front (le_bytes 2 (layout_size b)) b = front_number 2 b bytes (omega arith) (omega arith) in
      let part : Front (layout_part b) (drop 2 b) = front_take (layout_size b) (drop 2 b) (omega (arith, length-drop 2 b)) in
      let both : Front (le_bytes 2 (layout_size b) ++ layout_part b) b = front_append (le_bytes 2 (layout_size b)) (layout_part b) b count (rw two part) in
      let far : length (le_bytes 2 (layout_size b) ++ layout_part b) ≡ 2 + layout_size b = length-append (le_bytes 2 (layout_size b)) (layout_part b) ∙ rw (two, part_length) in
      let rest = drop (2 + layout_size b) b in
      let steps : Front (le_bytes 4 (number_at 4 0 rest)) rest
      = front_number 4 rest (bytes_drop (2 + layout_size b) b bytes) (omega arith) (omega (arith, length-drop (2 + layout_size b) b)) in
      front_append (le_bytes 2 (layout_size b) ++ layout_part b) (le_bytes 4 (number_at 4 (2 + layout_size b) b)) b both
      (rw (far, number_behind 4 (2 + layout_size b) b (omega arith)) steps)

  start_length : length (le_bytes 2 (layout_size b) ++ layout_part b ++ le_bytes 4 (count_of b)) ≡ first_of b
  unfolding first_of
  start_length =
      omega (
        arith,
        length-append (le_bytes 2 (layout_size b) ++ layout_part b) (le_bytes 4 (count_of b)),
        length-append (le_bytes 2 (layout_size b)) (layout_part b),
        le_length 2 (layout_size b),
        le_length 4 (count_of b),
        part_length,
      )

  pub play_written : play_bytes (layout_of b) (cues_at (count_of b) (steps_of b)) ≡ b
  unfolding play_bytes start_bytes steps_of
  play_written =
      let steps : cues_bytes (cues_at (count_of b) (drop (first_of b) b)) ≡ drop (first_of b) b
      = cues_written (count_of b) (drop (first_of b) b) (bytes_drop (first_of b) b bytes) p.steps in
      rw (part_bytes, part_length, steps, cues_length (count_of b) (drop (first_of b) b), ← start_length) front_start

-- the result: writing what was read gives the bytes again
pub play_exact : (b : List ℕ) → Bytes b → is_play b ≡ true → play_bytes (layout_of b) (cues_at (count_of b) (steps_of b)) ≡ b
play_exact b bytes h = play_written b bytes (play_says b h)

-- ---- what is written is read back

module _ (l : Layout) (cs : List Cue) (starts : starts_yard l ≡ true) (holds : all_holdable cs ≡ true) (short : length (play_bytes l cs) ≤ play_limit) where
  good : good_value l ≡ true
  good = (and_both (good_value l) (eqb l.epoch.0 1) starts).0

  few : length (bytes_of l) ≤ 168
  unfolding bytes_of
  few = encode_small (lay_of l) (value_of_good l good).0

  laid_out : play_bytes l cs ≡ le_bytes 2 (length (bytes_of l)) ++ (bytes_of l ++ (le_bytes 4 (length cs) ++ cues_bytes cs))
  unfolding play_bytes start_bytes
  laid_out =
      append_assoc (le_bytes 2 (length (bytes_of l)) ++ bytes_of l) (le_bytes 4 (length cs)) (cues_bytes cs)
      ∙ append_assoc (le_bytes 2 (length (bytes_of l))) (bytes_of l) (le_bytes 4 (length cs) ++ cues_bytes cs)

  play_length : length (play_bytes l cs) ≡ (6 + length (bytes_of l)) + length (cues_bytes cs)
  play_length =
      ap length laid_out
      ∙ omega (
        arith,
        length-append (le_bytes 2 (length (bytes_of l))) (bytes_of l ++ (le_bytes 4 (length cs) ++ cues_bytes cs)),
        length-append (bytes_of l) (le_bytes 4 (length cs) ++ cues_bytes cs),
        length-append (le_bytes 4 (length cs)) (cues_bytes cs),
        le_length 2 (length (bytes_of l)),
        le_length 4 (length cs),
      )

  size_back : layout_size (play_bytes l cs) ≡ length (bytes_of l)
  size_back = rw laid_out (number_back 2 (length (bytes_of l)) (bytes_of l ++ (le_bytes 4 (length cs) ++ cues_bytes cs)) (omega arith) (omega (arith, few)))

  past_size : drop 2 (play_bytes l cs) ≡ bytes_of l ++ (le_bytes 4 (length cs) ++ cues_bytes cs)
  past_size = rw laid_out (drop_at (le_bytes 2 (length (bytes_of l))) (bytes_of l ++ (le_bytes 4 (length cs) ++ cues_bytes cs)) 2 (le_length 2 (length (bytes_of l))))

  part_back : layout_part (play_bytes l cs) ≡ bytes_of l
  part_back = rw (size_back, past_size) (take_at (bytes_of l) (le_bytes 4 (length cs) ++ cues_bytes cs) (length (bytes_of l)) refl)

  past_part : drop (2 + length (bytes_of l)) (play_bytes l cs) ≡ le_bytes 4 (length cs) ++ cues_bytes cs
  past_part =
      sym (drop-drop (length (bytes_of l)) 2 (play_bytes l cs))
      ∙ rw past_size (drop_at (bytes_of l) (le_bytes 4 (length cs) ++ cues_bytes cs) (length (bytes_of l)) refl)

  pub layout_back : layout_of (play_bytes l cs) ≡ l
  unfolding layout_of
  layout_back = rw part_back (read_written l good).1

  pub count_back : count_of (play_bytes l cs) ≡ length cs
  unfolding count_of
  count_back =
      rw size_back
      (number_behind 4 (2 + length (bytes_of l)) (play_bytes l cs) (omega arith)
      ∙ rw past_part (number_back 4 (length cs) (cues_bytes cs) (omega arith) (omega (arith, short, play_length, cues_long cs))))

  pub steps_back : steps_of (play_bytes l cs) ≡ cues_bytes cs
  unfolding steps_of first_of
  steps_back =
      let far : 6 + length (bytes_of l) ≡ (2 + length (bytes_of l)) + 4 = omega arith in
      rw (size_back, far)
      (sym (drop-drop 4 (2 + length (bytes_of l)) (play_bytes l cs)) ∙ rw past_part (drop_at (le_bytes 4 (length cs)) (cues_bytes cs) 4 (le_length 4 (length cs))))

  -- the results: what is written is a play, and its steps are read back
  pub play_stands : is_play (play_bytes l cs) ≡ true
  unfolding bytes_of
  play_stands =
      says_play (play_bytes l cs)
      (record {
        short = short;
        room = omega (arith, size_back, play_length);
        layout_fine = rw part_back (encode_is_layout (lay_of l) (value_of_good l good).0);
        starts = rw layout_back starts;
        steps = rw (count_back, steps_back) (cues_stand cs holds);
      })

  pub play_back : cues_at (count_of (play_bytes l cs)) (steps_of (play_bytes l cs)) ≡ cs
  play_back = rw (count_back, steps_back) (cues_back cs holds)
