-- New sets as bytes, and the wish that is made of them: what a plan over the wish answers is what it answers over the sets.
use Prim.Native.Nat.{ℕ, zero, suc, ◌+◌, ◌<◌, min, ◌≤◌}
use mathlib.Core.Bool.{Bool, true, false, ◌&&◌, ◌||◌, not, cond, or-true}
use mathlib.Core.List.{List, [], ◌∷◌, map}
use mathlib.Core.Path.{◌≡◌, refl, sym, ap, ◌∙◌}
use native.Mathlib.Omega.{arith}
use borrow.Author.Tests.{not-false, ne_eqb, eqb-true, lt-ltb, le-ltb, ltb-true, ltb-false}
use lib.Dec.{eqb, ltb, leb}
use lib.ListN.{length, get_or, take, drop, length-map, length-take}
use lib.Seq.{take-nil, take_all}
use Rattle.num.specs.Checks.{lowest}
use Rattle.num.proofs.Tests.{and_both, or_false, cond_zero}
use Rattle.num.proofs.Bools.{and_intro}
use Rattle.layout.specs.declared.Layout.{Layout}
use Rattle.layout.specs.declared.Wish.{Wish}
use Rattle.layout.specs.Lay.{Lay, good_set, good_sets, ◌in?◌, in_sets, unit_limit, sets_limit}
use Rattle.layout.specs.Value.{padded, no_chain, chain_of, units_in, lay_of, good_value, tidy_chain}
use Rattle.layout.specs.Codec.{sets_said, sets_at, are_sets, sets_name, wish_said}
use Rattle.layout.specs.Plan.{bad_drops, new_ranges, plan_checks, new_of, good_wish, good_chains, reorganise_answer}
use Rattle.layout.proofs.GoodLay.{good_says}
use Rattle.layout.proofs.SetNumber.{sets_some}
use Rattle.layout.proofs.ValueOf.{good_short, sets_back, value_of_good}
use Rattle.layout.proofs.SetsAt.{sets_length}
use Rattle.layout.proofs.AreSets.{set_tested, all_good}
use Rattle.layout.proofs.ReorganiseAnswer.{checks_fine}
use Rattle.desk.specs.Told.{fine_sets, plan_refusal}
use Rattle.desk.specs.InsideMade.{named_sets, empty_wish}

-- ---- the units that are named

pub named_in : (b : List ℕ) (u : ℕ) → sets_name b u ≡ in_sets u (named_sets b)
unfolding sets_name named_sets in_sets
named_in b u = go (are_sets b)
  where
    go : (t : Bool) → (t && in_sets u (sets_said b)) ≡ in_sets u (cond t (sets_said b) [])
    go true = refl
    go false = refl

-- no bytes, or one, name no unit: one is a count of 0, or no good sets
pub few_named : (drops b : List ℕ) → length b < 2 → bad_drops drops [] ≡ false → false ≡ bad_drops drops (named_sets b)
unfolding named_sets sets_at are_sets good_sets good_set padded
few_named drops [] h e = go (are_sets [])
  where
    go : (t : Bool) → false ≡ bad_drops drops (cond t (sets_said []) [])
    go true = sym e
    go false = sym e
few_named drops (zero ∷ []) h e = go (are_sets (zero ∷ []))
  where
    go : (t : Bool) → false ≡ bad_drops drops (cond t (sets_said (zero ∷ [])) [])
    go true = sym e
    go false = sym e
few_named drops (suc n ∷ []) h e = let bad : are_sets (suc n ∷ []) ≡ false = refl in rw bad (sym e)
few_named drops (x ∷ y ∷ xs) h e = absurd (omega arith)

-- where the bytes are not good sets, the drops are refused with them
bad_named : (drops b : List ℕ) (t : Bool) → are_sets b ≡ t → (bad_drops drops (cond t (sets_said b) []) || not (eqb (length b) 0 || t)) ≡ (bad_drops drops (sets_said b) || not (eqb (length b) 0 || t))
unfolding sets_at
bad_named drops b true e = refl
bad_named drops [] false e = refl
bad_named drops (x ∷ xs) false e =
    let some : eqb (length (x ∷ xs)) 0 ≡ false = ne_eqb (length (x ∷ xs)) 0 (λ z. omega arith) in
    rw some (or-true (bad_drops drops []) ∙ sym (or-true (bad_drops drops (sets_at x xs))))

pub all_named : (drops b : List ℕ) (bad sets : Bool) → bad ≡ bad_drops drops (named_sets b) → sets ≡ are_sets b → (bad || not (eqb (length b) 0 || sets)) ≡ (bad_drops drops (sets_said b) || not (fine_sets b))
unfolding named_sets fine_sets
all_named drops b bad sets e f = rw (e, f) (bad_named drops b (are_sets b) refl)

-- the bytes are tested first: where they are no good sets nothing else counts, and else the drops alone
module _ (drops b : List ℕ) (empty sets : Bool) (z : empty ≡ eqb (length b) 0) (f : sets ≡ are_sets b) where
  pub no_sets : (empty || sets) ≡ false → not (empty || sets) ≡ (bad_drops drops (sets_said b) || not (fine_sets b))
  no_sets t =
      let bad : Bool = bad_drops drops (named_sets b) in
      let n : (eqb (length b) 0 || sets) ≡ false = rw z at t in
      ap not t ∙ sym (rw n (or-true bad)) ∙ all_named drops b bad sets refl f

  pub some_sets : (empty || sets) ≡ true → (bad : Bool) → bad ≡ bad_drops drops (named_sets b) → bad ≡ (bad_drops drops (sets_said b) || not (fine_sets b))
  some_sets t bad g =
      let n : (eqb (length b) 0 || sets) ≡ true = rw z at t in
      let alone : (bad || false) ≡ bad = go bad in
      sym (rw n alone) ∙ all_named drops b bad sets g f
    where
      go : (x : Bool) → (x || false) ≡ x
      go true = refl
      go false = refl

-- ---- the wish

module _ {A : Type 0} where
  padded_clip : (k : ℕ) (none : A) (xs : List A) → take (length xs) (padded k none xs) ≡ take k xs
  unfolding padded
  padded_clip zero none xs = take-nil (length xs)
  padded_clip (suc k) none [] = refl
  padded_clip (suc k) none (x ∷ xs) = ap {B = List A} (λ r. x ∷ r) (padded_clip k none xs)

map_take : {A B : Type 0} (f : A → B) (k : ℕ) (xs : List A) → map f (take k xs) ≡ take k (map f xs)
map_take f zero xs = refl
map_take f (suc k) [] = refl
map_take {A} {B} f (suc k) (x ∷ xs) = ap {B = List B} (λ r. f x ∷ r) (map_take f k xs)

chains_good : (k : ℕ) (ss : List (List ℕ)) → good_sets ss ≡ true → good_chains (take k (map chain_of ss)) ≡ true
unfolding good_chains good_sets
chains_good zero ss g = refl
chains_good (suc k) [] g = refl
chains_good (suc k) (us ∷ ss) g =
    let p = and_both (good_set us) (good_sets ss) g in
    and_intro (good_set (units_in (chain_of us)) && tidy_chain (chain_of us)) (good_chains (take k (map chain_of ss))) (set_tested us ∙ p.0) (chains_good k ss p.1)

module _ (b : List ℕ) where
  count_said : length (map chain_of (sets_said b)) ≡ get_or b 0 0
  count_said = length-map (sets_said b) chain_of ∙ sets_length (get_or b 0 0) (drop 1 b)

  chains_said : take (wish_said b).count (wish_said b).sets ≡ take sets_limit (map chain_of (sets_said b))
  unfolding wish_said
  chains_said = rw count_said at (padded_clip sets_limit no_chain (map chain_of (sets_said b)))

  new_said : good_sets (sets_said b) ≡ true → new_of (wish_said b) ≡ take sets_limit (sets_said b)
  new_said g =
      ap (map units_in) chains_said ∙ map_take units_in sets_limit (map chain_of (sets_said b))
      ∙ ap (take sets_limit) (sets_back (sets_said b) (good_short (sets_said b) g))

  wish_good : good_sets (sets_said b) ≡ true → good_wish (wish_said b) ≡ true
  wish_good g = ap good_chains chains_said ∙ chains_good sets_limit (sets_said b) g

fine_good : (b : List ℕ) → fine_sets b ≡ true → good_sets (sets_said b) ≡ true
unfolding fine_sets good_sets sets_at
fine_good [] f = refl
fine_good (x ∷ xs) f =
    let some : eqb (length (x ∷ xs)) 0 ≡ false = ne_eqb (length (x ∷ xs)) 0 (λ z. omega arith) in
    all_good (x ∷ xs) (rw some at f)

-- ---- the first 16 sets are as good as all of them: more are refused with 14 either way

in_fewer : (u k : ℕ) (ss : List (List ℕ)) → in_sets u ss ≡ false → in_sets u (take k ss) ≡ false
unfolding in_sets
in_fewer u zero ss h = refl
in_fewer u (suc k) [] h = refl
in_fewer u (suc k) (us ∷ ss) h = let p = or_false (u in? us) (in_sets u ss) h in rw p.0 (in_fewer u k ss p.1)

bad_fewer : (k : ℕ) (drops : List ℕ) (ss : List (List ℕ)) → bad_drops drops ss ≡ false → bad_drops drops (take k ss) ≡ false
unfolding bad_drops
bad_fewer k [] ss h = refl
bad_fewer k (u ∷ us) ss h =
    let p = or_false (not (leb 1 u && leb u unit_limit) || in_sets u ss) (bad_drops us ss) h in
    let q = or_false (not (leb 1 u && leb u unit_limit)) (in_sets u ss) p.0 in
    rw (q.0, in_fewer u k ss q.1) (bad_fewer k us ss p.1)

many_same : (n m : ℕ) → 1 ≤ n → ltb sets_limit (n + min sets_limit m) ≡ ltb sets_limit (n + m)
many_same n m h = go (ltb sets_limit (n + m)) refl
  where
    go : (t : Bool) → ltb sets_limit (n + m) ≡ t → ltb sets_limit (n + min sets_limit m) ≡ t
    go true e = lt-ltb sets_limit (n + min sets_limit m) (omega (arith, ltb-true sets_limit (n + m) e))
    go false e = le-ltb sets_limit (n + min sets_limit m) (omega (arith, ltb-false sets_limit (n + m) e))

ranges_same : (ss : List (List ℕ)) → new_ranges (take sets_limit ss) ≡ new_ranges ss
ranges_same [] = refl
ranges_same (us ∷ ss) = refl

checks_same : (held : Lay) (drops : List ℕ) (ss : List (List ℕ)) → 1 ≤ length held.sets → bad_drops drops ss ≡ false
    → lowest (plan_checks held drops true (take sets_limit ss)) ≡ lowest (plan_checks held drops true ss)
checks_same held drops ss h e =
    rw (bad_fewer sets_limit drops ss e, e, ranges_same ss, length-take sets_limit ss, many_same (length held.sets) (length ss) h)

-- ---- the plan over the wish

empty_bad : (drops : List ℕ) → (bad_drops drops (new_of empty_wish) || not (good_wish empty_wish)) ≡ true
unfolding good_chains good_set
empty_bad drops = or-true (bad_drops drops (new_of empty_wish))

module _ (held : Layout) (drops new : List ℕ) where
  answer_bad : (bad_drops drops (sets_said new) || not (fine_sets new)) ≡ true → reorganise_answer held drops empty_wish ≡ plan_refusal held drops new
  unfolding reorganise_answer plan_refusal
  answer_bad e = rw (empty_bad drops, e)

  answer_fine : (bad_drops drops (sets_said new) || not (fine_sets new)) ≡ false → reorganise_answer held drops (wish_said new) ≡ plan_refusal held drops new
  unfolding reorganise_answer plan_refusal
  answer_fine e = go (good_value held) refl
    where
      go : (t : Bool) → good_value held ≡ t
          → cond (not t) 10 (lowest (plan_checks (lay_of held) drops (good_wish (wish_said new)) (new_of (wish_said new))))
          ≡ cond (not t) 10 (lowest (plan_checks (lay_of held) drops (fine_sets new) (sets_said new)))
      go false q = refl
      go true q =
          let p = or_false (bad_drops drops (sets_said new)) (not (fine_sets new)) e in
          let f = not-false (fine_sets new) p.1 in
          let g = fine_good new f in
          let s = sets_some (lay_of held) (good_says (lay_of held) (value_of_good held q).0) in
          rw (wish_good new g, new_said new g, f) (checks_same (lay_of held) drops (sets_said new) s p.0)

  -- what is wished for, the drops and the sets being bad or not
  pub wish_answers : (w : Wish) (bad : Bool) → (bad_drops drops (sets_said new) || not (fine_sets new)) ≡ bad → w ≡ cond bad empty_wish (wish_said new)
      → reorganise_answer held drops w ≡ plan_refusal held drops new
  wish_answers w true e f = rw f (answer_bad e)
  wish_answers w false e f = rw f (answer_fine e)

  -- where the plan is fine, all the sets are wished for
  pub wish_news : (w : Wish) → w ≡ cond (bad_drops drops (sets_said new) || not (fine_sets new)) empty_wish (wish_said new) → plan_refusal held drops new ≡ 0 → new_of w ≡ sets_said new
  unfolding plan_refusal
  wish_news w f z =
      let r = cond_zero (not (good_value held)) 10 (lowest (plan_checks (lay_of held) drops (fine_sets new) (sets_said new))) (omega arith) z in
      let p = checks_fine (lay_of held) drops (fine_sets new) (sets_said new) r.1 in
      let s = sets_some (lay_of held) (good_says (lay_of held) (value_of_good held (not-false (good_value held) r.0)).0) in
      let w_is : w ≡ wish_said new = rw (p.drops_good, p.new_good) at f in
      rw w_is (new_said new (fine_good new p.new_good) ∙ take_all sets_limit (sets_said new) (omega (arith, p.sets_fit)))
