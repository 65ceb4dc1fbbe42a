-- Laws of `after`, `above` and so of `next_unit`: no unit of those that rise stands between u and the next one.
use Prim.Native.Nat.{ℕ, suc, ◌+◌, ◌-◌, ◌<◌, ◌≤◌}
use mathlib.Core.Bool.{Bool, true, false, ◌&&◌, not, cond, and-true, and-false}
use mathlib.Core.List.{List, [], ◌∷◌}
use mathlib.Core.Logic.{⊎_elim}
use mathlib.Core.Path.{◌≡◌, refl, sym, ◌∙◌}
use native.Mathlib.Numerals.{add-one}
use native.Mathlib.Omega.{arith}
use borrow.Author.Tests.{eqb-true, eqb-false, ltb-true, ltb-false}
use lib.Dec.{eqb, ltb}
use lib.ListN.{length}
use Rattle.std.proofs.Common.{None, Some}
use Rattle.std.specs.List.{slice_get, position, position_or_len}
use Rattle.std.proofs.lemmas.Option.{slice_get_past}
use Rattle.layout.specs.Lay.{◌in?◌, rising, used_from, unit_limit, in_sets}
use Rattle.layout.specs.Places.{or_zero, head_of, after, above}
use Rattle.layout.proofs.InSets.{in_first, in_later, in_cases, in_none}
use Rattle.layout.proofs.Rising.{Rises, rises, rising_within}
use Rattle.layout.proofs.HeadAndTail.{first_is, head_least}

-- ---- the unit after u

-- where there is one, it is of the set and above u
pub record Next (us : List ℕ) (u next : ℕ) : Type 0 where
  pub inside : (next in? us) ≡ true
  pub higher : u < next

pub after_next : (low : ℕ) (us : List ℕ) (u : ℕ) → rising low us ≡ true → (after u us ≡ 0 → ⊥) → Next us u (after u us)
unfolding after head_of
after_next low [] u r n = absurd (n refl)
after_next low (x ∷ xs) u r n = go (eqb u x) refl n (λ m. after_next x xs u s.rest m)
  where
    s : Rises low x xs
    s = rises low x xs r

    here : (ys : List ℕ) → u ≡ x → rising x ys ≡ true → (head_of ys ≡ 0 → ⊥) → Next (x ∷ ys) u (head_of ys)
    here [] e t m = absurd (m refl)
    here (y ∷ ys) e t m = record { inside = in_later y x (y ∷ ys) (in_first y y ys refl); higher = omega (arith, rises x y ys t) }

    go : (b : Bool) → eqb u x ≡ b → (cond b (head_of xs) (after u xs) ≡ 0 → ⊥) → ((after u xs ≡ 0 → ⊥) → Next xs u (after u xs)) → Next (x ∷ xs) u (cond b (head_of xs) (after u xs))
    go true e m later = here xs (eqb-true u x e) s.rest m
    go false e m later = record { inside = in_later (after u xs) x xs (later m).inside; higher = (later m).higher }

-- a unit among those behind the first, where it is not the first
in_rest : (u x : ℕ) (xs : List ℕ) → (u in? (x ∷ xs)) ≡ true → (u ≡ x → ⊥) → (u in? xs) ≡ true
in_rest u x xs i n = ⊎_elim (λ e. absurd (n e)) (λ j. j) (in_cases u x xs i)

-- no unit of the set stands between u and the unit after it
pub record Nearest (next v : ℕ) : Type 0 where
  pub some : 0 < next
  pub near : next ≤ v

pub after_nearest : (low : ℕ) (us : List ℕ) (u v : ℕ) → rising low us ≡ true → (u in? us) ≡ true → (v in? us) ≡ true → u < v → Nearest (after u us) v
unfolding after head_of
after_nearest low [] u v r i j h = absurd (in_none u i)
after_nearest low (x ∷ xs) u v r i j h = go (eqb u x) refl (λ k m. after_nearest x xs u v s.rest k m h)
  where
    s : Rises low x xs
    s = rises low x xs r

    here : (ys : List ℕ) → rising x ys ≡ true → (v in? ys) ≡ true → Nearest (head_of ys) v
    here [] t k = absurd (in_none v k)
    here (y ∷ ys) t k = record { some = omega (arith, rises x y ys t); near = head_least x (y ∷ ys) v t k }

    go : (b : Bool) → eqb u x ≡ b → ((u in? xs) ≡ true → (v in? xs) ≡ true → Nearest (after u xs) v) → Nearest (cond b (head_of xs) (after u xs)) v
    go true e later = let f = eqb-true u x e in here xs s.rest (in_rest v x xs j (λ g. omega arith))
    go false e later =
        let k = in_rest u x xs i (eqb-false u x e) in
        later k (in_rest v x xs j (λ g. omega (arith, rising_within x xs u s.rest k)))

-- ---- the first unit above u, of those that rise

pub above_next : (us : List ℕ) (u : ℕ) → (above u us ≡ 0 → ⊥) → Next us u (above u us)
unfolding above
above_next [] u n = absurd (n refl)
above_next (x ∷ xs) u n = go (ltb u x) refl n (λ m. above_next xs u m)
  where
    go : (b : Bool) → ltb u x ≡ b → (cond b x (above u xs) ≡ 0 → ⊥) → ((above u xs ≡ 0 → ⊥) → Next xs u (above u xs)) → Next (x ∷ xs) u (cond b x (above u xs))
    go true e m later = record { inside = in_first x x xs refl; higher = ltb-true u x e }
    go false e m later = record { inside = in_later (above u xs) x xs (later m).inside; higher = (later m).higher }

pub above_nearest : (low : ℕ) (us : List ℕ) (u v : ℕ) → rising low us ≡ true → (v in? us) ≡ true → u < v → Nearest (above u us) v
unfolding above
above_nearest low [] u v r j h = absurd (in_none v j)
above_nearest low (x ∷ xs) u v r j h = go (ltb u x) refl (λ k. above_nearest x xs u v s.rest k h)
  where
    s : Rises low x xs
    s = rises low x xs r

    first : x ≤ v
    first = ⊎_elim (λ e. omega arith) (λ k. omega (arith, rising_within x xs v s.rest k)) (in_cases v x xs j)

    go : (b : Bool) → ltb u x ≡ b → ((v in? xs) ≡ true → Nearest (above u xs) v) → Nearest (cond b x (above u xs)) v
    go true e later = record { some = omega (arith, ltb-true u x e); near = first }
    go false e later = later (in_rest v x xs j (λ g. omega (arith, ltb-false u x e)))

-- ---- where u stands, the unit after it is the next one

pub after_place : (u : ℕ) (us : List ℕ) → or_zero (slice_get us (suc (position_or_len (λ x. eqb u x) us))) ≡ after u us
unfolding after
after_place u [] = refl
after_place u (x ∷ xs) = go (eqb u x) (after_place u xs)
  where
    go : (b : Bool) → or_zero (slice_get xs (suc (position_or_len (λ x. eqb u x) xs))) ≡ after u xs → or_zero (slice_get xs (cond (not b) (1 + position_or_len (λ x. eqb u x) xs) 0)) ≡ cond b (head_of xs) (after u xs)
    go true later = first_is xs
    go false later = let e : 1 + position_or_len (λ x. eqb u x) xs ≡ suc (position_or_len (λ x. eqb u x) xs) = omega arith in rw e later

module _ (u : ℕ) (us : List ℕ) where
  pub after_found : (at : ℕ) → position (λ x. eqb u x) us ≡ Some at → or_zero (slice_get us (at + 1)) ≡ after u us
  after_found at e = go (ltb (position_or_len (λ x. eqb u x) us) (length us)) e
    where
      go : (b : Bool) → cond b (Some (position_or_len (λ x. eqb u x) us)) None ≡ Some at → or_zero (slice_get us (at + 1)) ≡ after u us
      go true f = let k : position_or_len (λ x. eqb u x) us ≡ at = cc in rw (add-one at, ← k) (after_place u us)
      go false f = cc

  pub after_absent : position (λ x. eqb u x) us ≡ None → 0 ≡ after u us
  after_absent e = go (ltb (position_or_len (λ x. eqb u x) us) (length us)) refl e
    where
      go : (b : Bool) → ltb (position_or_len (λ x. eqb u x) us) (length us) ≡ b → cond b (Some (position_or_len (λ x. eqb u x) us)) None ≡ None → 0 ≡ after u us
      go true g f = cc
      go false g f =
          let past : slice_get us (suc (position_or_len (λ x. eqb u x) us)) ≡ None = slice_get_past us _ (omega (arith, ltb-false _ _ g)) in
          rw past at (after_place u us)

-- ---- the loop over the units of a layout in rising number

-- of the units from k on, the first above u
abbrev pub above_from : ℕ → List (List ℕ) → ℕ → ℕ
above_from u sets k = above u (used_from k (suc unit_limit - k) sets)

module _ (u : ℕ) (sets : List (List ℕ)) (k : ℕ) where
  above_step : (n : ℕ) → above u (used_from k (suc n) sets) ≡ cond (ltb u k && in_sets k sets) k (above u (used_from (suc k) n sets))
  unfolding used_from above
  above_step n = go (in_sets k sets)
    where
      go : (b : Bool) → above u (cond b (k ∷ used_from (suc k) n sets) (used_from (suc k) n sets)) ≡ cond (ltb u k && b) k (above u (used_from (suc k) n sets))
      go true = rw and-true
      go false = rw and-false

  above_turn : k ≤ unit_limit → above_from u sets k ≡ cond (ltb u k && in_sets k sets) k (above_from u sets (k + 1))
  above_turn h =
      let e : suc unit_limit - k ≡ suc (unit_limit - k) = omega arith in
      let f : suc unit_limit - (k + 1) ≡ unit_limit - k = omega arith in
      rw (e, f, add-one k) (above_step (unit_limit - k))

  pub above_here : k ≤ unit_limit → (ltb u k && in_sets k sets) ≡ true → k ≡ above_from u sets k
  above_here h e = sym (above_turn h ∙ rw e)

  pub above_later : k ≤ unit_limit → (ltb u k && in_sets k sets) ≡ false → above_from u sets (k + 1) ≡ above_from u sets k
  above_later h e = sym (above_turn h ∙ rw e)

  pub above_none : unit_limit < k → 0 ≡ above_from u sets k
  unfolding used_from above
  above_none h = let e : suc unit_limit - k ≡ 0 = omega arith in rw e
