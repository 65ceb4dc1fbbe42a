-- Laws of `lawful`: the shape, the number of each old position's set, and of each old set a non-empty sublist are kept.
use Prim.Native.Nat.{ℕ, zero, suc, ◌+◌, ◌-◌, ◌%◌, ◌<◌, ◌≤◌}
use mathlib.Core.Bool.{Bool, true, false, ◌&&◌, ◌||◌, cond}
use mathlib.Core.List.{List, [], ◌∷◌}
use mathlib.Core.Path.{◌≡◌, refl, sym}
use native.Mathlib.Omega.{arith}
use borrow.Author.Tests.{leb-true, eqb-true, ltb-true}
use lib.Dec.{eqb, ltb, leb}
use lib.ListN.{length, get_or}
use Rattle.num.proofs.Tests.{and_both, false_true}
use Rattle.layout.specs.Lay.{Span, Lay, ◌in?◌, in_sets}
use Rattle.layout.specs.Places.{placed, set_number, set_at, head_of}
use Rattle.layout.specs.Successor.{sublist, keeps_sets, keeps_spans, lawful}
use Rattle.layout.specs.Plan.{last_start}
use Rattle.layout.proofs.InSets.{in_set}
use Rattle.layout.proofs.HeadAndTail.{head_in}
use Rattle.layout.proofs.GoodLay.{Good}
use Rattle.layout.proofs.SetNumber.{number_below}
use Rattle.layout.proofs.Sublist.{sublist_in}

-- ---- sets

-- the new set is a non-empty sublist of the old one
pub record Shrunk (old new : List ℕ) : Type 0 where
  pub some : 1 ≤ length new
  pub part : sublist new old ≡ true

pub shrunk_in : {old new : List ℕ} → Shrunk old new → (u : ℕ) → (u in? new) ≡ true → (u in? old) ≡ true
shrunk_in {old} {new} s u i = sublist_in new old u s.part i

keeps_first : (o n : List ℕ) (os ns : List (List ℕ)) → keeps_sets (o ∷ os) (n ∷ ns) ≡ true → Shrunk o n × (keeps_sets os ns ≡ true)
unfolding keeps_sets
keeps_first o n os ns k =
    let r = and_both (leb 1 (length n) && sublist n o) (keeps_sets os ns) k in
    let q = and_both (leb 1 (length n)) (sublist n o) r.0 in
    (record { some = leb-true _ _ q.0; part = q.1 }, r.1)

pub keeps_at : (os ns : List (List ℕ)) (k : ℕ) → keeps_sets os ns ≡ true → k < length os → Shrunk (get_or os k []) (get_or ns k [])
unfolding keeps_sets
keeps_at [] ns k s h = absurd (omega arith)
keeps_at (o ∷ os) [] k s h = absurd (false_true s)
keeps_at (o ∷ os) (n ∷ ns) zero s h = (keeps_first o n os ns s).0
keeps_at (o ∷ os) (n ∷ ns) (suc k) s h = keeps_at os ns k (keeps_first o n os ns s).1 (omega arith)

pub keeps_length : (os ns : List (List ℕ)) → keeps_sets os ns ≡ true → length os ≤ length ns
unfolding keeps_sets
keeps_length [] ns s = omega arith
keeps_length (o ∷ os) [] s = absurd (false_true s)
keeps_length (o ∷ os) (n ∷ ns) s = omega (arith, keeps_length os ns (keeps_first o n os ns s).1)

-- ---- ranges

record SameSpan (o n : Span) (os ns : List Span) : Type 0 where
  start : o.start ≡ n.start
  uses : o.uses ≡ n.uses
  rest : keeps_spans o.start os ns ≡ true

spans_first : (last : ℕ) (o n : Span) (os ns : List Span) → keeps_spans last (o ∷ os) (n ∷ ns) ≡ true → SameSpan o n os ns
unfolding keeps_spans
spans_first last o n os ns k =
    let r = and_both (eqb o.start n.start && eqb o.uses n.uses) (keeps_spans o.start os ns) k in
    let q = and_both (eqb o.start n.start) (eqb o.uses n.uses) r.0 in
    record { start = eqb-true _ _ q.0; uses = eqb-true _ _ q.1; rest = r.1 }

-- the last start, or `last` where there is no range
last_from : ℕ → List Span → ℕ
last_from last [] = last
last_from last (s ∷ ss) = last_from s.start ss

last_from_lem : (s : Span) (ss : List Span) → last_from s.start ss ≡ last_start (s ∷ ss)
unfolding last_from last_start
last_from_lem s [] = refl
last_from_lem s (t ∷ ts) = last_from_lem t ts

-- a range more starts above the last old start
last_above : (last : ℕ) (os ns : List Span) → keeps_spans last os ns ≡ true → length os < length ns → last_from last os < last_start ns
unfolding keeps_spans last_from last_start
last_above last [] [] s h = absurd (omega arith)
last_above last [] (n ∷ []) s h = ltb-true last n.start s
last_above last [] (n ∷ m ∷ ms) s h = absurd (false_true s)
last_above last (o ∷ os) [] s h = absurd (false_true s)
last_above last (o ∷ os) (n ∷ []) s h = absurd (omega arith)
last_above last (o ∷ os) (n ∷ m ∷ ms) s h = last_above o.start os (m ∷ ms) (spans_first last o n os (m ∷ ms) s).rest (omega arith)

pub last_rises : (os ns : List Span) → keeps_spans 0 os ns ≡ true → length os < length ns → last_start os < last_start ns
unfolding last_from last_start
last_rises [] ns s h = last_above 0 [] ns s h
last_rises (o ∷ os) ns s h = rw (← last_from_lem o os) (last_above 0 (o ∷ os) ns s h)

last_more : (n : Span) (ns : List Span) → 0 < length ns → last_start (n ∷ ns) ≡ last_start ns
unfolding last_start
last_more n [] h = absurd (omega arith)
last_more n (m ∷ ms) h = refl

-- before the new range's start every position has the set number that it had
placed_kept : (last : ℕ) (os ns : List Span) (before found p : ℕ) → keeps_spans last os ns ≡ true → (length os < length ns → last_start ns ≤ p → ⊥) → placed ns before found p ≡ placed os before found p
unfolding keeps_spans placed
placed_kept last [] [] before found p s old = refl
placed_kept last [] (n ∷ []) before found p s old = go (leb n.start p) refl
  where
    go : (b : Bool) → leb n.start p ≡ b → cond b (before + (p - n.start) % n.uses) found ≡ found
    go true e = absurd (old (omega arith) (unfold last_start in leb-true n.start p e))
    go false e = refl
placed_kept last [] (n ∷ m ∷ ms) before found p s old = absurd (false_true s)
placed_kept last (o ∷ os) [] before found p s old = absurd (false_true s)
placed_kept last (o ∷ os) (n ∷ ns) before found p s old =
    let t = spans_first last o n os ns s in
    rw (← t.start, ← t.uses)
    (placed_kept o.start os ns (before + o.uses) (cond (leb o.start p) (before + (p - o.start) % o.uses) found) p t.rest
    (λ h k. old (omega arith) (rw (last_more n ns (omega arith)) k)))

-- ---- a lawful successor

-- p lies in a range that the new layout has and the old one has not
pub record Renewed (old new : Lay) (p : ℕ) : Type 0 where
  pub more : last_start old.spans < last_start new.spans
  pub from : last_start new.spans ≤ p

-- a unit of an old set that is still in the layout
pub record Kept (old : List ℕ) (new : Lay) : Type 0 where
  pub unit : ℕ
  pub was_in : (unit in? old) ≡ true
  pub stays : in_sets unit new.sets ≡ true

record Lawful (old new : Lay) : Type 0 where
  shape : old.shape ≡ new.shape
  spans : keeps_spans 0 old.spans new.spans ≡ true
  sets : keeps_sets old.sets new.sets ≡ true

module _ (old new : Lay) (law : lawful old new ≡ true) where
  lawful_parts : Lawful old new
  unfolding lawful
  lawful_parts =
      let same = eqb old.shape new.shape in
      let spans = keeps_spans 0 old.spans new.spans in
      let sets = keeps_sets old.sets new.sets in
      let p = and_both (same && spans && sets) (ltb (length old.spans) (length new.spans) || eqb (length old.sets) (length new.sets)) law in
      let q = and_both (same && spans) sets p.0 in
      let r = and_both same spans q.0 in
      record { shape = eqb-true _ _ r.0; spans = r.1; sets = q.1 }

  -- the yard's shape is that of its first layout
  pub shape_kept : new.shape ≡ old.shape
  shape_kept = sym lawful_parts.shape

  pub number_kept : (p : ℕ) → ¬ Renewed old new p → set_number new p ≡ set_number old p
  unfolding set_number
  number_kept p same = placed_kept 0 old.spans new.spans 0 0 p lawful_parts.spans (λ h k. same (record { more = last_rises old.spans new.spans lawful_parts.spans h; from = k }))

  module _ (g : Good old) where
    -- each set is replaced by a non-empty sublist of itself
    pub set_kept : (p : ℕ) → ¬ Renewed old new p → Shrunk (set_at old p) (set_at new p)
    unfolding set_at
    set_kept p same = rw (number_kept p same) (keeps_at old.sets new.sets (set_number old p) lawful_parts.sets (number_below old g p))

    pub unit_kept : (p u : ℕ) → ¬ Renewed old new p → (u in? set_at new p) ≡ true → (u in? set_at old p) ≡ true
    unit_kept p u same i = shrunk_in (set_kept p same) u i

    -- and so of each old position's set a unit stays in the layout
    pub one_stays : (p : ℕ) → Kept (set_at old p) new
    unfolding set_at
    one_stays p =
        let k = set_number old p in
        let h = number_below old g p in
        let s = keeps_at old.sets new.sets k lawful_parts.sets h in
        let i = head_in (get_or new.sets k []) s.some in
        record {
          unit = head_of (get_or new.sets k []);
          was_in = shrunk_in s (head_of (get_or new.sets k [])) i;
          stays = in_set new.sets k (head_of (get_or new.sets k [])) (omega (arith, keeps_length old.sets new.sets lawful_parts.sets)) i;
        }
