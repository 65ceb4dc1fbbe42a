-- The largest of what two seals tell is no less than either, and keeps every bound that both keep.
use Prim.Native.Nat.{ℕ, ◌≤◌}
use mathlib.Core.Bool.{true}
use mathlib.Core.Path.{◌≡◌}
use native.Mathlib.Omega.{arith}
use borrow.Author.Tests.{leb-true, le-leb}
use lib.Dec.{leb}
use Rattle.num.specs.declared.Edges.{Edges}
use Rattle.num.specs.Limits.{limit}
use Rattle.num.specs.Edges.{largest, within}
use Rattle.num.proofs.Tests.{and_both}

-- no edge is above n
pub record Within (n : ℕ) (e : Edges) : Type 0 where
  pub edge : e.edge.0 ≤ n
  pub written : e.written.0 ≤ n

pub is_within : (e : Edges) → within e ≡ true → Within limit e
unfolding within
is_within e h =
    let (a, b) = and_both (leb e.edge.0 limit) (leb e.written.0 limit) h in
    record { edge = leb-true e.edge.0 limit a; written = leb-true e.written.0 limit b }

pub says_within : (e : Edges) → Within limit e → within e ≡ true
unfolding within
says_within e h = rw (le-leb e.edge.0 limit h.edge, le-leb e.written.0 limit h.written)

module _ (a b : Edges) where
  pub edge_left : a.edge.0 ≤ (largest a b).edge.0
  unfolding largest
  edge_left = omega arith

  pub edge_right : b.edge.0 ≤ (largest a b).edge.0
  unfolding largest
  edge_right = omega arith

  pub largest_within : (n : ℕ) → Within n a → Within n b → Within n (largest a b)
  unfolding largest
  largest_within n left right = record { edge = omega (arith, left.edge, right.edge); written = omega (arith, left.written, right.written) }
