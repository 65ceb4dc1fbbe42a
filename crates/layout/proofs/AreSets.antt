-- Laws of `are_sets`, `sets_name` and `wish_said`: new sets as bytes, the loops over them, and when the bytes are nothing else.
use Prim.Native.Nat.{ℕ, suc, ◌+◌, ◌*◌, ◌-◌, ◌<◌, ◌≤◌}
use mathlib.Core.Bool.{Bool, true, false, ◌&&◌, ◌||◌, and-false, and-true, and_assoc, or_assoc, or-false}
use mathlib.Core.List.{List, [], ◌∷◌, map}
use mathlib.Core.Path.{◌≡◌, refl, sym, ap, ◌∙◌}
use native.Mathlib.Nat.{sub-zero}
use native.Mathlib.Numerals.{one-add}
use native.Mathlib.Omega.{arith}
use borrow.Author.Tests.{leb-true, eqb-true, eq-eqb}
use lib.Dec.{eqb, leb}
use lib.ListN.{length, get_or, drop, length-append}
use Rattle.num.proofs.Tests.{and_both}
use Rattle.num.proofs.Bools.{same_test}
use Rattle.num.proofs.Front.{front_all}
use Rattle.layout.specs.declared.Chain.{Chain}
use Rattle.layout.specs.Lay.{good_set, ◌in?◌, in_sets, good_sets}
use Rattle.layout.specs.Value.{units_in, chain_of, tidy_chain, padded, no_chain}
use Rattle.layout.specs.Codec.{sets_bytes, sets_at, counted, set_front, sets_said, same, are_sets, sets_name, wish_said}
use Rattle.layout.proofs.Padded.{padded_front}
use Rattle.layout.proofs.ValueOf.{chain_tidy, good_short, sets_back}
use Rattle.layout.proofs.Same.{same_eq, same_self}
use Rattle.layout.proofs.SetsAt.{sets_left, sets_next, sets_over, sets_length, sets_said_lem, front_sets}

too_long_lem : (us : List ℕ) → leb (length us) 4 ≡ false → good_set us ≡ false
unfolding good_set
too_long_lem us e = rw (e, and-false (leb 1 (length us)))

-- the test of a chain that was read is that of the set
pub set_tested : (us : List ℕ) → (good_set (units_in (chain_of us)) && tidy_chain (chain_of us)) ≡ good_set us
set_tested us = rw (chain_tidy us) (go (leb (length us) 4) refl)
  where
    go : (t : Bool) → leb (length us) 4 ≡ t → (good_set (units_in (chain_of us)) && t) ≡ good_set us
    go true e = rw (padded_front 4 0 us (leb-true _ _ e)) (and-true (good_set us))
    go false e = and-false (good_set (units_in (chain_of us))) ∙ sym (too_long_lem us e)

-- ---- the loops: i sets of n were passed, up to `past`

pub record Scanned (b : List ℕ) (n i past : ℕ) : Type 0 where
  pub bound : i ≤ n
  pub small : past ≤ 1 + 256 * i
  pub ends : past + length (sets_bytes (sets_at (n - i) (drop past b))) ≡ 1 + length (sets_bytes (sets_at n (drop 1 b)))

pub scan_none : (b : List ℕ) (n : ℕ) → Scanned b n 0 1
scan_none b n = record { bound = omega arith; small = omega arith; ends = rw sub-zero }

module _ {b : List ℕ} {n i past : ℕ} (s : Scanned b n i past) where
  pub scan_more : (c : Chain) (t : ℕ) → i < n → c ≡ chain_of (set_front (drop past b)) → t ≡ c.count → t ≤ 255 → Scanned b n (i + 1) (past + (1 + t))
  unfolding sets_bytes
  scan_more c t h e et few =
      let small : past ≤ 1 + 256 * i = s.small in
      let count : t ≡ length (set_front (drop past b)) = et ∙ ap (λ (x : Chain). x.count) e in
      let bytes : length (sets_bytes (sets_at (n - i) (drop past b))) ≡ suc (length (set_front (drop past b))) + length (sets_bytes (sets_at (n - (i + 1)) (drop (past + (1 + t)) b)))
      = rw (sets_left b n i past t c h e et) (length-append (counted (set_front (drop past b))) (sets_bytes (sets_at (n - (i + 1)) (drop (past + (1 + t)) b)))) in
      record { bound = omega arith; small = omega arith; ends = omega (arith, s.ends) }

  pub scan_all : n ≤ i → past ≡ 1 + length (sets_bytes (sets_at n (drop 1 b)))
  unfolding sets_bytes
  scan_all h =
      let none : past + length (sets_bytes []) ≡ 1 + length (sets_bytes (sets_at n (drop 1 b))) = rw (sets_over b n i past h) at s.ends in
      omega arith

module _ (b : List ℕ) (n i past : ℕ) where
  pub good_more : (ok here : Bool) (c : Chain) (t : ℕ) → i < n → c ≡ chain_of (set_front (drop past b)) → t ≡ c.count
      → here ≡ (good_set (units_in c) && tidy_chain c) → (ok && good_sets (sets_at (n - i) (drop past b))) ≡ good_sets (sets_at n (drop 1 b))
      → ((ok && here) && good_sets (sets_at (n - (i + 1)) (drop (past + (1 + t)) b))) ≡ good_sets (sets_at n (drop 1 b))
  unfolding good_sets
  good_more ok here c t h e et eh s =
      let test : here ≡ good_set (set_front (drop past b)) = eh ∙ rw e (set_tested (set_front (drop past b))) in
      rw (and_assoc, test) (rw (sets_left b n i past t c h e et) at s)

  pub good_all : (ok : Bool) → n ≤ i → (ok && good_sets (sets_at (n - i) (drop past b))) ≡ good_sets (sets_at n (drop 1 b)) → ok ≡ good_sets (sets_at n (drop 1 b))
  unfolding good_sets
  good_all ok h s = sym (and-true ok) ∙ (rw (sets_over b n i past h) at s)

-- what is left says whether one of the n sets names the unit
abbrev pub NameLeft : ℕ → List ℕ → ℕ → ℕ → Bool → List ℕ → Type 0
NameLeft u b n i found rest = (found || in_sets u (map units_in (map chain_of (sets_at (n - i) rest)))) ≡ in_sets u (map units_in (map chain_of (sets_at n (drop 1 b))))

module _ (u : ℕ) (b : List ℕ) (n i : ℕ) (found : Bool) (rest : List ℕ) where
  pub name_more : (here : Bool) (c : Chain) (rest' : List ℕ) → i < n → c ≡ chain_of (set_front rest) → rest' ≡ drop (1 + c.count) rest → here ≡ (u in? units_in c)
      → NameLeft u b n i found rest → NameLeft u b n (i + 1) (found || here) rest'
  unfolding in_sets
  name_more here c rest' h e er eh s = rw (or_assoc, eh, e) (rw (sets_next rest rest' n i c h e er) at s)

  pub name_all : n ≤ i → NameLeft u b n i found rest → found ≡ in_sets u (map units_in (map chain_of (sets_at n (drop 1 b))))
  unfolding in_sets
  name_all h s = sym (or-false found) ∙ (rw (sets_over rest n i 0 h) at s)

-- ---- as many bytes as they are written in are their bytes

there : (b : List ℕ) → 1 + length (sets_bytes (sets_said b)) ≡ length b → length (sets_said b) ∷ sets_bytes (sets_said b) ≡ b
there [] h = absurd (omega arith)
there (x ∷ xs) h =
    let all : sets_bytes (sets_at x xs) ≡ xs = front_all (sets_bytes (sets_at x xs)) xs (front_sets x xs (omega arith)) (omega arith) in
    rw (sets_length x xs, all)

exactly : (b : List ℕ) → eqb (1 + length (sets_bytes (sets_said b))) (length b) ≡ same (length (sets_said b) ∷ sets_bytes (sets_said b)) b
exactly b =
    same_test (eqb (1 + length (sets_bytes (sets_said b))) (length b)) (same (length (sets_said b) ∷ sets_bytes (sets_said b)) b)
    (λ h. rw (there b (eqb-true _ _ h)) (same_self b))
    (λ h. eq-eqb (1 + length (sets_bytes (sets_said b))) (length b) (one-add (length (sets_bytes (sets_said b))) ∙ ap length (same_eq (length (sets_said b) ∷ sets_bytes (sets_said b)) b h)))

pub are_sets_lem : (b : List ℕ) (ok : Bool) (past : ℕ) → ok ≡ good_sets (sets_said b) → past ≡ 1 + length (sets_bytes (sets_said b)) → (ok && eqb past (length b)) ≡ are_sets b
unfolding are_sets
are_sets_lem b ok past e h = rw (e, h, exactly b)

pub all_good : (b : List ℕ) → are_sets b ≡ true → good_sets (sets_said b) ≡ true
unfolding are_sets
all_good b h = (and_both (good_sets (sets_said b)) (same (length (sets_said b) ∷ sets_bytes (sets_said b)) b) h).0

pub sets_named : (b : List ℕ) (u : ℕ) (ok found : Bool) → ok ≡ are_sets b → found ≡ in_sets u (map units_in (map chain_of (sets_said b))) → (ok && found) ≡ sets_name b u
unfolding sets_name
sets_named b u ok found e h = rw (e, h) (go (are_sets b) refl)
  where
    go : (t : Bool) → are_sets b ≡ t → (t && in_sets u (map units_in (map chain_of (sets_said b)))) ≡ (t && in_sets u (sets_said b))
    go true g = ap (in_sets u) (sets_back (sets_said b) (good_short (sets_said b) (all_good b g)))
    go false g = refl

-- ---- by value

pub wish_said_lem : (b : List ℕ) (n : ℕ) (cs : List Chain) → n ≡ get_or b 0 0 → cs ≡ padded 16 no_chain (map chain_of (sets_at n (drop 1 b))) → record { count = n; sets = cs } ≡ wish_said b
unfolding wish_said
wish_said_lem b n cs en e = λ i. record { count = en i; sets = (rw en at e) i }

-- ---- a result: new sets that are written

pub written_are_sets : (ss : List (List ℕ)) → good_sets ss ≡ true → are_sets (length ss ∷ sets_bytes ss) ≡ true
unfolding are_sets
written_are_sets ss g = rw (sets_said_lem ss, g) (same_self (length ss ∷ sets_bytes ss))
