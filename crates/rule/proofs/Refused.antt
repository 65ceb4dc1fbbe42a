-- "A refused step changes nothing at all", of what is lent: whatever was lent, bad memories too, a step that answers anything but 0 leaves the sequencer, every place of the
-- table and every byte of the memories as they were. So does a making of a yard.
-- Rests on Refusing and Testing.
use mathlib.Core.Path.{◌≡◌, refl, ap, ◌∙◌}
use mathlib.Core.Bool.{Bool, true, false, cond}
use mathlib.Core.List.{List, [], ◌++◌, append_assoc}
use native.Mathlib.Omega.{arith}
use borrow.Author.Tests.{eqb-true, ne_eqb}
use lib.Dec.{eqb}
use lib.ListN.{length, take, drop, replicate, take-append-drop}
use lib.Seq.{length-take-le}
use Prim.Native.Nat.{ℕ, ◌-◌, ◌≤◌, max}
use Rattle.num.proofs.Numbers.{Bytes}
use Rattle.layout.specs.declared.Layout.{Layout}
use Rattle.sequencer.specs.declared.Sequencer.{Sequencer}
use Rattle.client.specs.declared.state.Job.{Job}
use Rattle.rule.specs.declared.Letter.{Letter}
use Rattle.rule.specs.declared.Step.{Step}
use Rattle.rule.specs.World.{blank_letter}
use Rattle.rule.specs.Steps.{step}
use Rattle.rule.specs.Stepped.{Stepped}
use Rattle.rule.specs.Lent.{Lent, Outcomes, IsStep, lent_number, seen, laid, left, done, unlent, steps}
use Rattle.rule.specs.Fresh.{Made, IsMade, fresh_number, makes}
use Rattle.rule.proofs.Refusing.{refused_unchanged}
use Rattle.rule.proofs.Testing.{test_says, units_same}

-- ---- the letters that are seen, laid back

laid_back : (n : ℕ) (table : List Letter) → n ≤ length table → laid (take n table) n table ≡ table
unfolding laid
laid_back n table few =
    let same : n - n ≡ 0 = omega arith in
    let most : max n n ≡ n = omega arith in
    ap (λ k. (take n table ++ replicate (n - k) blank_letter) ++ drop (max n k) table) (length-take-le n table few)
    ∙ rw (same, most) (append_assoc (take n table) [] (drop n table) ∙ take-append-drop n table)

-- what is seen, left there again, is what was lent
pub left_same : (b : Lent) → Bytes b.memories → lent_number b ≡ 0 → left b (seen b) ≡ b
unfolding left seen lent_number
left_same b bytes z =
    let y = b.yard in
    let t = test_says y (length b.table) b.memories z in
    let few : y.count ≤ length b.table = omega (arith, t.long, t.few) in
    let count_is = length-take-le y.count b.table few in
    let table_is = laid_back y.count b.table few in
    let memories_is = units_same y.held.shape 1 8 b.memories bytes t.memories in
    λ i. record {
      yard = record { held = y.held; clients = y.clients; stopped = y.stopped; count = count_is i };
      sequencer = b.sequencer;
      table = table_is i;
      memories = memories_is i;
    }

-- ---- a step

-- all that was lent is as it was, and no operation ended
pub record Untouched (b : Lent) (r : Stepped) (sequencer : Sequencer) (table : List Letter) (memories : List ℕ) : Type 0 where
  pub sequencer_is : sequencer ≡ b.sequencer
  pub table_is : table ≡ b.table
  pub memories_is : memories ≡ b.memories
  pub yard_is : r.yard ≡ b.yard
  pub nobody : r.who ≡ 0

-- where the answer is no 0
record Stays (b : Lent) (o : Outcomes) : Type 0 where
  lent_is : o.lent ≡ b
  yard_is : o.stepped.yard ≡ b.yard
  nobody : o.stepped.who ≡ 0

steps_stay : (b : Lent) (s : Step) (j : Job) → Bytes b.memories → ¬ ((steps b s j).stepped.answer ≡ 0) → Stays b (steps b s j)
unfolding steps done unlent
steps_stay b s j bytes = go (eqb (lent_number b) 0) refl
  where
    go : (z : Bool) → eqb (lent_number b) 0 ≡ z → ¬ ((cond z (done b (step (seen b) s j)) (unlent b (lent_number b))).stepped.answer ≡ 0) → Stays b (cond z (done b (step (seen b) s j)) (unlent b (lent_number b)))
    go true e not_zero =
        let d = refused_unchanged (seen b) s j not_zero in
        let same = ap (left b) d.0 ∙ left_same b bytes (eqb-true (lent_number b) 0 e) in
        record { lent_is = same; yard_is = ap (λ (x : Lent). x.yard) same; nobody = d.1 }
    go false e not_zero = record { lent_is = refl; yard_is = refl; nobody = refl }

-- A REFUSED STEP LEAVES ALL THAT WAS LENT AS IT WAS (Bytes: a lent memory is a slice of bytes)
pub refused_untouched : {b : Lent} {s : Step} {j : Job} {r : Stepped} {q : Sequencer} {t : List Letter} {m : List ℕ} → Bytes b.memories → IsStep b s j r q t m → ¬ (r.answer ≡ 0) → Untouched b r q t m
refused_untouched {b} {s} {j} bytes is not_zero =
    let stays = steps_stay b s j bytes (λ z. not_zero (ap (λ (x : Stepped). x.answer) is.result_is ∙ z)) in
    record {
      sequencer_is = is.sequencer_is ∙ ap (λ (x : Lent). x.sequencer) stays.lent_is;
      table_is = is.table_is ∙ ap (λ (x : Lent). x.table) stays.lent_is;
      memories_is = is.memories_is ∙ ap (λ (x : Lent). x.memories) stays.lent_is;
      yard_is = ap (λ (x : Stepped). x.yard) is.result_is ∙ stays.yard_is;
      nobody = ap (λ (x : Stepped). x.who) is.result_is ∙ stays.nobody;
    }

-- ---- and the making of a yard

pub refused_making : {l : Layout} {q q' : Sequencer} {t t' : List Letter} {m m' : List ℕ} {r : Made} → IsMade l q t m r q' t' m' → ¬ (r.answer ≡ 0) → (q' ≡ q) × ((t' ≡ t) × (m' ≡ m))
unfolding makes
refused_making {l} {q} {t = t} {m = m} is not_zero =
    let other : eqb (fresh_number l t m) 0 ≡ false = ne_eqb (fresh_number l t m) 0 (λ z. not_zero (is.answer_is ∙ z)) in
    (is.sequencer_is ∙ rw other, (is.table_is ∙ rw other, is.memories_is ∙ rw other))
