-- Laws of `without` and `emptied`: a set without the units to drop is a sublist, and rises; and the loop that drops them.
use Prim.Native.Nat.{ℕ, zero, suc, ◌+◌, ◌<◌, ◌≤◌}
use mathlib.Core.Bool.{Bool, true, false, cond}
use mathlib.Core.List.{List, [], ◌∷◌}
use mathlib.Core.Path.{◌≡◌, refl, ◌∙◌}
use native.Mathlib.Numerals.{add-one}
use native.Mathlib.Omega.{arith}
use borrow.Author.Tests.{eq-eqb, le-leb, lt-ltb, eqb-false}
use lib.Dec.{eqb}
use lib.ListN.{length, get_or, drop, set, replicate, drop_of_length-le}
use lib.Seq.{sets, drop-cons}
use Rattle.num.proofs.Tests.{or_false}
use Rattle.layout.specs.Lay.{◌in?◌, rising, unit_limit, good_set, set_limit}
use Rattle.layout.specs.Value.{padded, chain_of}
use Rattle.layout.specs.Successor.{sublist}
use Rattle.layout.specs.Plan.{without, emptied}
use Rattle.layout.proofs.Rising.{rises, Rises}
use Rattle.layout.proofs.GoodSets.{is_good_set}
use Rattle.layout.proofs.Padded.{padded_sets}
use Rattle.layout.proofs.Sublist.{sub_skip, sub_shorter}

pub without_length : (drops us : List ℕ) → length (without drops us) ≤ length us
unfolding without
without_length drops [] = omega arith
without_length drops (u ∷ us) = go (u in? drops) (without_length drops us)
  where
    go : (b : Bool) → length (without drops us) ≤ length us → length (cond b (without drops us) (u ∷ without drops us)) ≤ suc (length us)
    go true h = omega arith
    go false h = omega arith

pub without_sub : (drops us : List ℕ) → sublist (without drops us) us ≡ true
unfolding without sublist
without_sub drops [] = refl
without_sub drops (u ∷ us) = go (u in? drops) (without_sub drops us)
  where
    go : (b : Bool) → sublist (without drops us) us ≡ true → sublist (cond b (without drops us) (u ∷ without drops us)) (u ∷ us) ≡ true
    go true s = sub_skip us (sub_shorter us) (without drops us) u s
    go false s = rw (eq-eqb u u refl) s

rising_lower : (low high : ℕ) (us : List ℕ) → low ≤ high → rising high us ≡ true → rising low us ≡ true
unfolding rising
rising_lower low high [] h r = refl
rising_lower low high (u ∷ us) h r =
    let s = rises high u us r in
    rw (lt-ltb low u (omega arith), le-leb u unit_limit s.within) s.rest

without_rise : (drops : List ℕ) (low : ℕ) (us : List ℕ) → rising low us ≡ true → rising low (without drops us) ≡ true
unfolding without rising
without_rise drops low [] r = refl
without_rise drops low (u ∷ us) r = go (u in? drops) (without_rise drops u us s.rest)
  where
    s : Rises low u us
    s = rises low u us r

    go : (b : Bool) → rising u (without drops us) ≡ true → rising low (cond b (without drops us) (u ∷ without drops us)) ≡ true
    go true t = rising_lower low u (without drops us) (omega (arith, s.from)) t
    go false t = rw (lt-ltb low u s.from, le-leb u unit_limit s.within) t

pub without_good : (drops us : List ℕ) → good_set us ≡ true → 1 ≤ length (without drops us) → good_set (without drops us) ≡ true
unfolding good_set
without_good drops us g h =
    let s = is_good_set us g in
    rw (le-leb 1 (length (without drops us)) h, le-leb (length (without drops us)) set_limit (omega (arith, s.few, without_length drops us))) (without_rise drops 0 us s.rise)

-- ---- no set is emptied

pub first_kept : (drops us : List ℕ) (sets : List (List ℕ)) → emptied drops (us ∷ sets) ≡ false → (1 ≤ length (without drops us)) × (emptied drops sets ≡ false)
unfolding emptied
first_kept drops us sets e =
    let r = or_false (eqb (length (without drops us)) 0) (emptied drops sets) e in
    (some (length (without drops us)) (eqb-false (length (without drops us)) 0 r.0), r.1)
  where
    some : (n : ℕ) → (n ≡ 0 → ⊥) → 1 ≤ n
    some zero h = absurd (h refl)
    some (suc n) h = omega arith

-- ---- the loop

-- `count` units are kept of the first i; those of the units from the ith on are still to be stored
pub record Thinned (drops us out : List ℕ) (count i : ℕ) : Type 0 where
  pub bound : count ≤ i
  pub total : count + length (without drops (drop i us)) ≡ length (without drops us)
  pub rest : sets out count (without drops (drop i us)) ≡ sets (replicate set_limit 0) 0 (without drops us)

pub thinned_none : (drops us : List ℕ) → Thinned drops us (replicate set_limit 0) 0 0
thinned_none drops us = record { bound = omega arith; total = omega arith; rest = refl }

without_step : (drops us : List ℕ) (i u : ℕ) (b : Bool) → i < length us → u ≡ get_or us i 0 → (u in? drops) ≡ b
    → without drops (drop i us) ≡ cond b (without drops (drop (i + 1) us)) (u ∷ without drops (drop (i + 1) us))
unfolding without
without_step drops us i u b h f e = rw (drop-cons us i 0 h, add-one, ← f, e)

module _ {drops us out : List ℕ} {count i : ℕ} (s : Thinned drops us out count i) (h : i < length us) (u : ℕ) (f : u ≡ get_or us i 0) where
  pub thinned_drop : (u in? drops) ≡ true → Thinned drops us out count (i + 1)
  thinned_drop e =
      let w = without_step drops us i u true h f e in
      record { bound = omega (arith, s.bound); total = rw w at s.total; rest = rw w at s.rest }

  pub thinned_keep : (u in? drops) ≡ false → Thinned drops us (set out count u) (count + 1) (i + 1)
  thinned_keep e =
      let w = without_step drops us i u false h f e in
      record { bound = omega (arith, s.bound); total = omega (arith, rw w at s.total); rest = rw (add-one count) (rw w at s.rest) }

pub thinned_all : {drops us out : List ℕ} {count i : ℕ} → Thinned drops us out count i → length us ≤ set_limit → length us ≤ i → record { count = count; units = out } ≡ chain_of (without drops us)
unfolding without padded
thinned_all {drops} {us} {out} {count} {i} s small h =
    let d : drop i us ≡ [] = drop_of_length-le us h in
    let total : count ≡ length (without drops us) = omega (arith, rw d at s.total) in
    let units : out ≡ padded set_limit 0 (without drops us) = (rw d at s.rest) ∙ padded_sets set_limit 0 [] (without drops us) (omega (arith, without_length drops us)) in
    λ k. record { count = total k; units = units k }
