-- The run of the program over the table, turn by turn.
use Prim.Native.Nat.{ℕ, zero, suc, ◌+◌, ◌<◌, ◌≤◌}
use mathlib.Core.Bool.{true}
use mathlib.Core.List.{List, [], ◌∷◌}
use mathlib.Core.Path.{◌≡◌, refl, sym, ap, ◌∙◌}
use native.Mathlib.Nat.{le_of_suc-le-suc, not-suc-le-zero}
use native.Mathlib.Numerals.{add-one}
use native.Mathlib.Omega.{arith}
use borrow.Author.Tests.{eq-eqb}
use lib.ListN.{length, get_or, take, set, length-set}
use lib.Seq.{take_all, take-suc, take-suc-set}
use Rattle.std.proofs.lemmas.List.{get_or-map, length-map, map-append}
use Rattle.std.specs.Prelude.{Result}
use Rattle.num.specs.declared.refusal.Refusal.{Refusal}
use Rattle.marked.specs.declared.ask.Shown.{Shown}
use Rattle.marked.specs.declared.ask.Row.{Row as Entry}
use Rattle.marked.specs.Rows.{Row, Told, told_in, all_told_in, row_in, rows_in}
use Rattle.marked.specs.Asks.{told_of, left_by, IsTold}
use Rattle.marked.specs.Table.{rows, count}
use Rattle.marked.specs.Marked.{blank, after, same_told}
use Rattle.marked.specs.Answering.{told_by, IsAnswered}
use Rattle.marked.proofs.Passing.{marked}

abbrev Answer : Type 0
Answer = Result Shown Refusal

after_more : (k : ℕ) (rs : List Row) (m : List ℕ) → k < length rs → after (suc k) rs m ≡ left_by (after k rs m) (get_or rs k blank).asked
unfolding after
after_more k [] m h = absurd (not-suc-le-zero h)
after_more zero (r ∷ rs) m h = refl
after_more (suc k) (r ∷ rs) m h = after_more k rs (left_by m r.asked) (le_of_suc-le-suc h)

same_told_lem : (t : Told) → same_told t t ≡ true
same_told_lem t = rw (eq-eqb t.answer t.answer refl, eq-eqb t.first t.first refl, eq-eqb t.second t.second refl)

same_right : {a b : Told} → a ≡ b → same_told a b ≡ true
same_right {b = b} e = rw e (same_told_lem b)

size : length rows ≡ count
unfolding rows
size = refl

-- ---- what the rows are told

told_long : (rs : List Row) (m : List ℕ) → length (told_by rs m) ≡ length rs
unfolding told_by
told_long [] m = refl
told_long (r ∷ rs) m = ap suc (told_long rs (left_by m r.asked))

told_at : (k : ℕ) (rs : List Row) (m : List ℕ) (d : Told) → k < length rs → get_or (told_by rs m) k d ≡ told_of (after k rs m) (get_or rs k blank).asked
unfolding told_by after
told_at k [] m d h = absurd (not-suc-le-zero h)
told_at zero (r ∷ rs) m d h = refl
told_at (suc k) (r ∷ rs) m d h = told_at k rs (left_by m r.asked) d (le_of_suc-le-suc h)

-- one more is stored in its place
told_more : (k : ℕ) (m : List ℕ) (told : List Answer) (got : Answer) → k < length rows → length told ≡ count → all_told_in (take k told) ≡ take k (told_by rows m)
    → told_in got ≡ told_of (after k rows m) (get_or rows k blank).asked → all_told_in (take (suc k) (set told k got)) ≡ take (suc k) (told_by rows m)
told_more k m told got h long so is =
    let all = told_by rows m in
    let here : k < length told = omega (arith, long, size) in
    let there : k < length all = omega (arith, told_long rows m) in
    let stored : told_in got ≡ get_or all k (told_in got) = is ∙ sym (told_at k rows m (told_in got) h) in
    rw (take-suc-set told k got here, map-append told_in (take k told) (got ∷ []), so, take-suc all k (told_in got) there, ← stored)

-- ---- turn by turn

-- what the first k rows leave, and what they were told
pub record Running (m : List ℕ) (k : ℕ) (mem : List ℕ) (told : List Answer) (wrong : ℕ) : Type 0 where
  pub memory_is : mem ≡ after k rows m
  pub long : length told ≡ count
  pub told_is : all_told_in (take k told) ≡ take k (told_by rows m)
  pub none_wrong : wrong ≡ 0

pub running_none : (m : List ℕ) (told : List Answer) → length told ≡ count → Running m 0 m told 0
unfolding after
running_none m told long = record { memory_is = refl; long = long; told_is = refl; none_wrong = refl }

-- row k of the program's table is the rules' row
pub is_row : (table : List Entry) (k : ℕ) (d : Entry) → rows_in table ≡ rows → k < count → row_in (get_or table k d) ≡ get_or rows k blank
is_row table k d t h =
    let long : length table ≡ count = rw (sym (length-map table row_in) ∙ ap (λ (rs : List Row). length rs) t) size in
    sym (get_or-map row_in table k d blank (omega (arith, long))) ∙ ap (λ (rs : List Row). get_or rs k blank) t

got_is : {m mem later : List ℕ} {k wrong : ℕ} {told : List Answer} {r : Row} {got : Told} → Running m k mem told wrong → r ≡ get_or rows k blank → IsTold mem r.asked got later
    → got ≡ told_of (after k rows m) (get_or rows k blank).asked
got_is s e x = x.told_is ∙ rw (s.memory_is, e)

-- it is told what it expects
pub row_right : {m mem later : List ℕ} {k wrong : ℕ} {told : List Answer} {r : Row} {got : Told} → length m ≡ 6168 → k < count → Running m k mem told wrong → r ≡ get_or rows k blank
    → IsTold mem r.asked got later → same_told got r.told ≡ true
row_right {k = k} {r = r} long h s e x =
    same_right (got_is s e x ∙ marked _ long k (rw size h) ∙ ap (λ (r : Row). r.told) (sym e))

pub running_more : {m mem later : List ℕ} {k wrong : ℕ} {told : List Answer} {r : Row} (got : Answer) → k < count → Running m k mem told wrong → r ≡ get_or rows k blank
    → IsTold mem r.asked (told_in got) later → Running m (k + 1) later (set told k got) wrong
running_more {m} {k = k} {told = told} got h s e x =
    let h' : k < length rows = rw size h in
    rw (add-one k) (record {
      memory_is = x.memory_is ∙ rw (s.memory_is, e) (sym (after_more k rows m h'));
      long = length-set told k got ∙ s.long;
      told_is = told_more k m told got h' s.long s.told_is (got_is s e x);
      none_wrong = s.none_wrong;
    })

-- after the last row
pub running_all : {m mem : List ℕ} {k wrong : ℕ} {told : List Answer} → count ≤ k → Running m k mem told wrong → IsAnswered m (record { told = told; wrong = wrong })
running_all {m} {mem} {k} {wrong} {told} low s =
    let all = told_by rows m in
    record {
      told_is = ap all_told_in (sym (take_all k told (omega (arith, s.long)))) ∙ s.told_is ∙ take_all k all (omega (arith, told_long rows m, size));
      none_wrong = s.none_wrong;
    }
