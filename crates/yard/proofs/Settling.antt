-- A decision, put into places of the table, is what the rule says of a step over what is lent.
use Prim.Native.Nat.{ℕ, ◌≤◌}
use native.Mathlib.Nat.{add-zero}
use mathlib.Core.Bool.{true, false}
use mathlib.Core.List.{List, ◌++◌}
use mathlib.Core.Path.{◌≡◌, sym, ◌∙◌}
use native.Mathlib.Omega.{arith}
use borrow.Author.Tests.{eq-eqb, ne_eqb}
use lib.Dec.{eqb}
use lib.ListN.{length, take}
use lib.Seq.{length-take-le, get_or-take}
use Rattle.sequencer.specs.declared.Sequencer.{Sequencer}
use Rattle.client.specs.declared.state.Job.{Job}
use Rattle.rule.specs.declared.Letter.{Letter}
use Rattle.rule.specs.declared.Yard.{Yard}
use Rattle.rule.specs.declared.Step.{Step}
use Rattle.rule.specs.World.{shape_under, blank_letter}
use Rattle.yard.specs.Bag.{take_at}
use Rattle.rule.specs.Steps.{step, keeping}
use Rattle.rule.specs.Lent.{Lent, test_number, lent_number, seen, left, done, unlent, steps}
use Rattle.yard.specs.InsideParts.{world_of}
use Rattle.yard.specs.InsideMoves.{Moves, posting, count_after, refusing, Decided}
use Rattle.yard.specs.InsideSettled.{letter_place, Settles, Decides}
use Rattle.rule.proofs.Shaping.{step_shape}
use Rattle.rule.proofs.Testing.{test_says}
use Rattle.yard.proofs.Delivering.{after_length}
use Rattle.yard.proofs.Laying.{laid_is}

module _ (y : Yard) (q : Sequencer) (table : List Letter) (m : List ℕ) (s : Step) (j : Job) where
  abbrev lent : Lent
  lent = record { yard = y; sequencer = q; table = table; memories = m }

  -- REFUSED FOR WHAT IS LENT
  pub settles_unlent : (k : ℕ) → test_number y (length table) m ≡ k → (k ≡ 0 → ⊥) → Settles lent s j (refusing y q k) m
  unfolding steps unlent lent_number test_number
  settles_unlent k e z =
      let f : eqb (lent_number lent) 0 ≡ false = ne_eqb _ 0 (λ t. z (sym e ∙ t)) in
      record {
        stepped_is = rw (f, e, add-zero y.count);
        sequencer_is = rw f;
        table_is = rw f;
        memories_is = rw f;
        small = λ t. absurd (z t);
      }

  -- DECIDED
  pub settles_decided : {l : Letter} {mv : Moves} {after : List ℕ} → test_number y (length table) m ≡ 0 → take_at table (letter_place s) ≡ l
      → Decided (shape_under y.held) l (λ ls. step (world_of y q ls m) s j) y.count (letter_place s) mv after → Settles lent s j mv after
  unfolding steps done left seen lent_number test_number
  settles_decided {l} {mv} {after} z taken d =
      let t = test_says y (length table) m z in
      let n : ℕ = y.count in
      let i : ℕ = letter_place s in
      let ls : List Letter = take n table in
      let len : length ls ≡ n = length-take-le n table (omega (arith, t.long, t.few)) in
      let e = d.done_is ls len (λ h. get_or-take n table i blank_letter h ∙ taken) in
      let f : eqb (lent_number lent) 0 ≡ true = eq-eqb _ 0 z in
      let kept : mv.yard.held.shape ≡ y.held.shape = rw e at (step_shape (world_of y q ls m) s j) in
      let c : length (keeping mv.keeps i ls ++ posting mv.posts mv.letter) ≡ count_after n mv.keeps mv.posts = after_length mv.keeps mv.posts i n ls mv.letter d.there len in
      let room : count_after n mv.keeps mv.posts ≤ 32 = d.room t.few in
      record {
        stepped_is = rw (f, e, c);
        sequencer_is = rw (f, e);
        table_is = rw (f, e) (sym (laid_is table n i mv.keeps mv.posts mv.letter t.long t.few d.there room));
        memories_is = rw (f, e, kept) d.memories_is;
        small = λ u. omega (arith, room);
      }

-- ---- for every table

module _ (y : Yard) (q : Sequencer) (places : ℕ) (l : Letter) (m : List ℕ) (s : Step) (j : Job) where
  pub decides_unlent : (k : ℕ) → test_number y places m ≡ k → (k ≡ 0 → ⊥) → Decides y q places l m s j (refusing y q k) m
  decides_unlent k e z = record { settles = λ table p t. settles_unlent y q table m s j k (rw p e) z }

  pub decides_decided : {mv : Moves} {after : List ℕ} → test_number y places m ≡ 0 → Decided (shape_under y.held) l (λ ls. step (world_of y q ls m) s j) y.count (letter_place s) mv after
      → Decides y q places l m s j mv after
  decides_decided z d = record { settles = λ table p t. settles_decided y q table m s j (rw p z) t d }
