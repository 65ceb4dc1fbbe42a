-- Laws of `good_set` and `good_sets`: the sets of a good layout, one by one.
use Prim.Native.Nat.{ℕ, zero, suc, ◌<◌, ◌≤◌}
use mathlib.Core.Bool.{true, ◌&&◌}
use mathlib.Core.List.{List, [], ◌∷◌}
use mathlib.Core.Path.{◌≡◌}
use native.Mathlib.Omega.{arith}
use borrow.Author.Tests.{leb-true}
use lib.Dec.{leb}
use lib.ListN.{length, get_or}
use Rattle.num.proofs.Tests.{and_both}
use Rattle.layout.specs.Lay.{good_set, good_sets, rising, set_limit}

pub set_good : (sets : List (List ℕ)) (k : ℕ) → good_sets sets ≡ true → k < length sets → good_set (get_or sets k []) ≡ true
unfolding good_sets
set_good [] k g h = absurd (omega arith)
set_good (us ∷ sets) zero g h = (and_both (good_set us) (good_sets sets) g).0
set_good (us ∷ sets) (suc k) g h = set_good sets k (and_both (good_set us) (good_sets sets) g).1 (omega arith)

pub record GoodSet (us : List ℕ) : Type 0 where
  pub some : 1 ≤ length us
  pub few : length us ≤ set_limit
  pub rise : rising 0 us ≡ true

pub is_good_set : (us : List ℕ) → good_set us ≡ true → GoodSet us
unfolding good_set
is_good_set us g =
    let r = and_both (leb 1 (length us) && leb (length us) set_limit) (rising 0 us) g in
    let q = and_both (leb 1 (length us)) (leb (length us) set_limit) r.0 in
    record { some = leb-true _ _ q.0; few = leb-true _ _ q.1; rise = r.1 }
