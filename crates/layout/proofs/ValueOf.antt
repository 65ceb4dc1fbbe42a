-- Laws of `lay_of` and `value_of`: on good layouts the value and the layout stand for each other.
use Prim.Native.Nat.{ℕ, zero, suc, ◌≤◌}
use mathlib.Core.Bool.{Bool, true, ◌&&◌, and-true}
use mathlib.Core.List.{List, [], ◌∷◌, map}
use mathlib.Core.Path.{◌≡◌, refl, sym, ap, ap₂, ◌∙◌}
use native.Mathlib.Nat.{le_of_suc-le-suc, not-suc-le-zero}
use native.Mathlib.Omega.{arith}
use borrow.Author.Tests.{eqb-true, leb-true}
use lib.Dec.{eqb, leb}
use lib.ListN.{length, take, drop, replicate, length-map, length-take, length-drop}
use Rattle.num.proofs.Tests.{and_both}
use Rattle.num.proofs.Bools.{and_intro, same_test}
use Rattle.layout.specs.declared.Chain.{Chain}
use Rattle.layout.specs.declared.Layout.{Layout}
use Rattle.layout.specs.declared.Range.{Range}
use Rattle.layout.specs.Lay.{Span, Lay, good, rising, good_set, good_sets, last_shape}
use Rattle.layout.specs.Value.{lay_of, zeros, tidy_chain, padded, units_in, chain_of, no_chain, tidy_chains, no_range, blank_ranges, span_in, range_of, value_of, tidy, good_value}
use Rattle.layout.proofs.GoodLay.{Good, good_says}
use Rattle.layout.proofs.Tidy.{Tidy, tidy_says, says_tidy}
use Rattle.layout.proofs.Padded.{padded_back, length_padded, padded_front, padded_map}

-- ---- how many there are

pub sets_counted : (l : Layout) → l.set_count ≤ length l.sets → length (lay_of l).sets ≡ l.set_count
unfolding lay_of
sets_counted l h = simp (length-map, length-take) (omega arith)

pub spans_counted : (l : Layout) → l.range_count ≤ length l.ranges → length (lay_of l).spans ≡ l.range_count
unfolding lay_of
spans_counted l h = simp (length-map, length-take) (omega arith)

-- ---- from a tidy value

zeros_blank : (n : ℕ) (xs : List ℕ) → length xs ≤ n → zeros n xs ≡ true → xs ≡ replicate (length xs) 0
unfolding zeros
zeros_blank n [] few h = refl
zeros_blank zero (x ∷ xs) few h = absurd (not-suc-le-zero few)
zeros_blank (suc n) (x ∷ xs) few h =
    let p = and_both (eqb x 0) (zeros n xs) h in
    rw (eqb-true x 0 p.0) (ap {B = List ℕ} (λ r. 0 ∷ r) (zeros_blank n xs (le_of_suc-le-suc few) p.1))

pub record TidyChain (c : Chain) : Type 0 where
  pub room : length c.units ≡ 4
  pub few : c.count ≤ 4
  pub blanks : zeros 4 (drop c.count c.units) ≡ true

pub tidy_chain_lem : (c : Chain) → tidy_chain c ≡ true → TidyChain c
unfolding tidy_chain
tidy_chain_lem c h =
    let p = and_both (eqb (length c.units) 4 && leb c.count 4) (zeros 4 (drop c.count c.units)) h in
    let q = and_both (eqb (length c.units) 4) (leb c.count 4) p.0 in
    record { room = eqb-true _ _ q.0; few = leb-true _ _ q.1; blanks = p.1 }

pub chain_back : (c : Chain) → tidy_chain c ≡ true → chain_of (units_in c) ≡ c
chain_back c h =
    let t : TidyChain c = tidy_chain_lem c h in
    let room : length c.units ≡ 4 = t.room in
    let n : length (take c.count c.units) ≡ c.count = rw length-take (omega (arith, t)) in
    let us : padded 4 0 (take c.count c.units) ≡ c.units = rw room at (padded_back c.count 0 c.units (zeros_blank 4 _ (omega (arith, length-drop c.count c.units)) t.blanks)) in
    rw (n, us)

blank_chain : (c : Chain) → tidy_chain c ≡ true → eqb c.count 0 ≡ true → c ≡ no_chain
unfolding padded
blank_chain c h z =
    let e : chain_of (units_in c) ≡ no_chain = rw (eqb-true c.count 0 z) in
    sym (chain_back c h) ∙ e

chains_back : (n : ℕ) (cs : List Chain) → tidy_chains n cs ≡ true → map chain_of (map units_in (take n cs)) ≡ take n cs
unfolding tidy_chains
chains_back zero cs h = refl
chains_back (suc n) [] h = refl
chains_back (suc n) (c ∷ cs) h =
    let p = and_both (tidy_chain c) (tidy_chains n cs) h in
    rw (chain_back c p.0, chains_back n cs p.1)

chains_blank : (n : ℕ) (cs : List Chain) → tidy_chains n cs ≡ true → drop n cs ≡ replicate (length (drop n cs)) no_chain
unfolding tidy_chains
chains_blank zero [] h = refl
chains_blank (suc n) [] h = refl
chains_blank zero (c ∷ cs) h =
    let p = and_both (tidy_chain c && eqb c.count 0) (tidy_chains zero cs) h in
    let q = and_both (tidy_chain c) (eqb c.count 0) p.0 in
    rw (blank_chain c q.0 q.1) (ap {B = List Chain} (λ r. no_chain ∷ r) (chains_blank zero cs p.1))
chains_blank (suc n) (c ∷ cs) h = chains_blank n cs (and_both (tidy_chain c) (tidy_chains n cs) h).1

ranges_blank : (rs : List Range) → blank_ranges rs ≡ true → rs ≡ replicate (length rs) no_range
unfolding blank_ranges
ranges_blank [] h = refl
ranges_blank (r ∷ rs) h =
    let p = and_both (eqb r.start.0 0 && eqb r.sets 0) (blank_ranges rs) h in
    let q = and_both (eqb r.start.0 0) (eqb r.sets 0) p.0 in
    let start : r.start.0 ≡ 0 = eqb-true _ _ q.0 in
    let sets : r.sets ≡ 0 = eqb-true _ _ q.1 in
    let e : r ≡ no_range = λ i. record { start = record { 0 = start i }; sets = sets i } in
    rw e (ap {B = List Range} (λ t. no_range ∷ t) (ranges_blank rs p.1))

ranges_back : (rs : List Range) → map range_of (map span_in rs) ≡ rs
ranges_back [] = refl
ranges_back (r ∷ rs) = ap {B = List Range} (λ t. r ∷ t) (ranges_back rs)

pub value_back : (l : Layout) → tidy l ≡ true → value_of (lay_of l) ≡ l
unfolding value_of lay_of
value_back l h =
    let t : Tidy l = tidy_says l h in
    let n : length (map units_in (take l.set_count l.sets)) ≡ l.set_count = sets_counted l (omega (arith, t)) in
    let m : length (map span_in (take l.range_count l.ranges)) ≡ l.range_count = spans_counted l (omega (arith, t)) in
    let cs : padded 16 no_chain (take l.set_count l.sets) ≡ l.sets
    = rw t.room at (padded_back l.set_count no_chain l.sets (chains_blank l.set_count l.sets t.chains)) in
    let rs : padded 8 no_range (take l.range_count l.ranges) ≡ l.ranges
    = rw t.spans_room at (padded_back l.range_count no_range l.ranges (ranges_blank _ t.blanks)) in
    rw (n, m, chains_back l.set_count l.sets t.chains, ranges_back (take l.range_count l.ranges), cs, rs)

-- ---- to a value

-- no set is too long for a chain
unfoldable pub short : List (List ℕ) → Bool
short [] = true
short (us ∷ ss) = leb (length us) 4 && short ss

pub good_short : (ss : List (List ℕ)) → good_sets ss ≡ true → short ss ≡ true
unfolding short good_sets good_set
good_short [] h = refl
good_short (us ∷ ss) h =
    let p = and_both (good_set us) (good_sets ss) h in
    let q = and_both (leb 1 (length us) && leb (length us) 4) (rising 0 us) p.0 in
    and_intro (leb (length us) 4) (short ss) (and_both (leb 1 (length us)) (leb (length us) 4) q.0).1 (good_short ss p.1)

zeros_past : (n k : ℕ) (us : List ℕ) → zeros n (drop (length us) (padded k 0 us)) ≡ true
unfolding zeros padded
zeros_past zero k us = refl
zeros_past (suc n) zero [] = refl
zeros_past (suc n) zero (u ∷ us) = refl
zeros_past (suc n) (suc k) [] = zeros_past n k []
zeros_past (suc n) (suc k) (u ∷ us) = zeros_past (suc n) k us

blanks_past : (k : ℕ) (ss : List Span) → blank_ranges (drop (length ss) (padded k no_range (map range_of ss))) ≡ true
unfolding blank_ranges padded
blanks_past zero [] = refl
blanks_past zero (s ∷ ss) = refl
blanks_past (suc k) [] = blanks_past k []
blanks_past (suc k) (s ∷ ss) = blanks_past k ss

pub chain_tidy : (us : List ℕ) → tidy_chain (chain_of us) ≡ leb (length us) 4
unfolding tidy_chain
chain_tidy us = rw (length_padded 4 0 us, zeros_past 4 4 us) (and-true (leb (length us) 4))

chains_tidy : (k : ℕ) (ss : List (List ℕ)) → length ss ≤ k → tidy_chains (length ss) (padded k no_chain (map chain_of ss)) ≡ short ss
unfolding tidy_chains tidy_chain zeros padded short
chains_tidy zero [] h = refl
chains_tidy zero (us ∷ ss) h = absurd (not-suc-le-zero h)
chains_tidy (suc k) [] h = chains_tidy k [] (omega arith)
chains_tidy (suc k) (us ∷ ss) h = ap₂ ◌&&◌ (chain_tidy us) (chains_tidy k ss (le_of_suc-le-suc h))

pub sets_back : (ss : List (List ℕ)) → short ss ≡ true → map units_in (map chain_of ss) ≡ ss
unfolding short
sets_back [] h = refl
sets_back (us ∷ ss) h =
    let p = and_both (leb (length us) 4) (short ss) h in
    rw (padded_front 4 0 us (leb-true _ _ p.0), sets_back ss p.1)

spans_back : (ss : List Span) → map span_in (map range_of ss) ≡ ss
spans_back [] = refl
spans_back (s ∷ ss) = ap {B = List Span} (λ t. s ∷ t) (spans_back ss)

pub lay_back : (l : Lay) → length l.sets ≤ 16 → length l.spans ≤ 8 → short l.sets ≡ true → lay_of (value_of l) ≡ l
unfolding value_of lay_of
lay_back l few spans_few h =
    let cs : take (length l.sets) (padded 16 no_chain (map chain_of l.sets)) ≡ map chain_of l.sets = padded_map chain_of 16 no_chain l.sets few in
    let rs : take (length l.spans) (padded 8 no_range (map range_of l.spans)) ≡ map range_of l.spans = padded_map range_of 8 no_range l.spans spans_few in
    rw (cs, rs, sets_back l.sets h, spans_back l.spans)

value_tidy : (l : Lay) → Good l → tidy (value_of l) ≡ true
unfolding value_of
value_tidy l g =
    says_tidy (value_of l) (record {
      room = length_padded 16 no_chain (map chain_of l.sets);
      few = g.sets_few;
      chains = chains_tidy 16 l.sets g.sets_few ∙ good_short l.sets g.sets_good;
      spans_room = length_padded 8 no_range (map range_of l.spans);
      spans_few = g.spans_few;
      blanks = blanks_past 8 l.spans;
    })

-- ---- the laws

pub lay_of_value : (l : Lay) → good l ≡ true → lay_of (value_of l) ≡ l
lay_of_value l h =
    let g : Good l = good_says l h in
    lay_back l g.sets_few g.spans_few (good_short l.sets g.sets_good)

pub value_of_good : (l : Layout) → good_value l ≡ true → (good (lay_of l) ≡ true) × (l ≡ value_of (lay_of l))
unfolding good_value
value_of_good l h =
    let p = and_both (good (lay_of l)) (tidy l) h in
    (p.0, sym (value_back l p.1))

-- a good layout's shape is known
pub value_known : (l : Layout) → good_value l ≡ true → l.shape ≤ last_shape
unfolding lay_of
value_known l h = (good_says (lay_of l) (value_of_good l h).0).known

good_of_value : (l : Lay) → good_value (value_of l) ≡ true → good l ≡ true
unfolding good_value value_of
good_of_value l h =
    let p = and_both (good (lay_of (value_of l))) (tidy (value_of l)) h in
    let t : Tidy (value_of l) = tidy_says (value_of l) p.1 in
    rw (lay_back l t.few t.spans_few (sym (chains_tidy 16 l.sets t.few) ∙ t.chains)) at p.0

pub value_is_good : (l : Lay) → good l ≡ true → good_value (value_of l) ≡ true
unfolding good_value
value_is_good l h = and_intro (good (lay_of (value_of l))) (tidy (value_of l)) (rw (lay_of_value l h) h) (value_tidy l (good_says l h))

-- the value of any layout, also of one that is too long for its arrays, is good where the layout is
pub good_value_lem : (l : Lay) → good_value (value_of l) ≡ good l
good_value_lem l = same_test (good_value (value_of l)) (good l) (good_of_value l) (value_is_good l)
