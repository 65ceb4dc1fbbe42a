-- Lists of letters, units and clients: what holds of each, one place changed, and which numbers they have.
use mathlib.Core.Path.{◌≡◌, refl, sym, subst}
use mathlib.Core.Bool.{Bool, true, false, ◌&&◌, not}
use mathlib.Core.List.{List, [], ◌∷◌, ◌++◌}
use Prim.Native.Nat.{ℕ, zero, suc, ◌-◌, ◌≤◌}
use native.Mathlib.Omega.{arith}
use native.Mathlib.Decide.{ℕ_discrete}
use lib.Dec.{leb}
use lib.ListN.{length, get_or, set}
use lib.Seq.{get_or-set_same, get_or-set_other}
use borrow.Author.Tests.{leb-true}
use Rattle.num.proofs.Tests.{false_true, and_both}
use Rattle.client.specs.declared.Query.{Query}
use Rattle.client.specs.Turn.{Act, Rests, Sends, Ends}
use Rattle.rule.specs.declared.Letter.{Letter}
use Rattle.rule.specs.World.{is_client, is_unit}
use Rattle.rule.specs.Steps.{without, posted}

pub data All {A : Type 0} (P : A → Type 0) : List A → Type 0 where
  all_none : All P []
  all_more : {x : A} {xs : List A} → P x → All P xs → All P (x ∷ xs)

pub all_map : {A : Type 0} {P Q : A → Type 0} {xs : List A} → ((x : A) → P x → Q x) → All P xs → All Q xs
all_map f all_none = all_none
all_map f (all_more {x = x} p ps) = all_more (f x p) (all_map f ps)

pub all_end : {A : Type 0} {P : A → Type 0} (xs : List A) {x : A} → All P xs → P x → All P (xs ++ (x ∷ []))
all_end [] all_none p = all_more p all_none
all_end (y ∷ ys) (all_more q qs) p = all_more q (all_end ys qs p)

pub all_same : {A : Type 0} {P : A → Type 0} (xs : List A) → All P xs → All P (xs ++ [])
all_same [] all_none = all_none
all_same (y ∷ ys) (all_more q qs) = all_more q (all_same ys qs)

pub all_without : {P : Letter → Type 0} (i : ℕ) (ls : List Letter) → All P ls → All P (without i ls)
unfolding without
all_without i [] all_none = all_none
all_without zero (l ∷ ls) (all_more p ps) = ps
all_without (suc i) (l ∷ ls) (all_more p ps) = all_more p (all_without i ls ps)

-- a turn posts one letter or none
pub posted_few : (c life : ℕ) (a : Act) (q : Query) → length (posted c life a q) ≤ 1
posted_few c life Rests q = omega arith
posted_few c life (Sends n) q = omega arith
posted_few c life Ends q = omega arith

-- of the one at a place, if of the one that stands for none
pub all_at : {A : Type 0} {P : A → Type 0} (xs : List A) (i : ℕ) (d : A) → All P xs → P d → P (get_or xs i d)
all_at [] i d all_none p = p
all_at (x ∷ xs) zero d (all_more q qs) p = q
all_at (x ∷ xs) (suc i) d (all_more q qs) p = all_at xs i d qs p

-- numbered from 1 to n, the one numbered i changed
module _ {A : Type 0} (P : ℕ → A → Type 0) (none : ℕ → A) (xs : List A) (n i : ℕ) (a : A) (long : length xs ≡ n) (from : 1 ≤ i) (to : i ≤ n) where
  pub set_here : get_or (set xs (i - 1) a) (i - 1) (none i) ≡ a
  set_here = get_or-set_same xs (i - 1) a (none i) (omega arith)

  pub set_all : P i a → ((j : ℕ) → 1 ≤ j → j ≤ n → ¬ (j ≡ i) → P j (get_or xs (j - 1) (none j))) → (j : ℕ) → 1 ≤ j → j ≤ n → P j (get_or (set xs (i - 1) a) (j - 1) (none j))
  set_all here others j low high = go (ℕ_discrete i j)
    where
      go : Dec (i ≡ j) → P j (get_or (set xs (i - 1) a) (j - 1) (none j))
      go (yes e) = subst (λ k. P k (get_or (set xs (i - 1) a) (k - 1) (none k))) e (subst (λ b. P i b) (sym set_here) here)
      go (no ne) = subst (λ b. P j b) (sym (get_or-set_other xs (i - 1) (j - 1) a (none j) (λ e. ne (omega arith)))) (others j low high (λ e. ne (sym e)))

-- ---- units 1 to 8, clients 1 to 4

pub client_range : (c : ℕ) → is_client c ≡ true → (1 ≤ c) × (c ≤ 4)
client_range c e = let both = and_both (leb 1 c) (leb c 4) e in (leb-true 1 c both.0, leb-true c 4 both.1)

pub unit_range : (u : ℕ) → is_unit u ≡ true → (1 ≤ u) × (u ≤ 8)
unit_range u e = let both = and_both (leb 1 u) (leb u 8) e in (leb-true 1 u both.0, leb-true u 8 both.1)

pub unit_runs : (a b : Bool) → not (a && b) ≡ false → a ≡ true
unit_runs true b e = refl
unit_runs false b e = absurd (false_true (sym e))
