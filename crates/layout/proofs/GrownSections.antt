-- Laws of `used_from`: of the units from one on, those that stand in a set.
use Prim.Native.Nat.{ℕ, suc, ◌+◌, ◌-◌, ◌<◌, ◌≤◌}
use mathlib.Core.Bool.{true, false, cond}
use mathlib.Core.List.{List, [], ◌∷◌}
use mathlib.Core.Path.{◌≡◌}
use native.Mathlib.Numerals.{add-one}
use native.Mathlib.Omega.{arith}
use Rattle.layout.specs.Lay.{in_sets, unit_limit, used_from}

-- of the units from u on, those that stand in a set
abbrev pub used_above : ℕ → List (List ℕ) → List ℕ
used_above u ss = used_from u (suc unit_limit - u) ss

module _ (ss : List (List ℕ)) (u : ℕ) where
  used_step : u ≤ unit_limit → used_above u ss ≡ cond (in_sets u ss) (u ∷ used_above (u + 1) ss) (used_above (u + 1) ss)
  unfolding used_from
  used_step h =
      let left : suc unit_limit - u ≡ suc (suc unit_limit - suc u) = omega arith in
      rw (add-one u, left)

  pub used_here : u ≤ unit_limit → in_sets u ss ≡ true → used_above u ss ≡ u ∷ used_above (u + 1) ss
  used_here h e = rw e at (used_step h)

  pub used_not : u ≤ unit_limit → in_sets u ss ≡ false → used_above u ss ≡ used_above (u + 1) ss
  used_not h e = rw e at (used_step h)

  pub used_none : unit_limit < u → used_above u ss ≡ []
  unfolding used_from
  used_none h =
      let z : suc unit_limit - u ≡ 0 = omega arith in
      rw z
