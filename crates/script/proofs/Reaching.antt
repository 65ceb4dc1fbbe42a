-- The loop that passes over new sets: how far they reach, and whether each is small.
use Prim.Native.Nat.{ℕ, ◌+◌, ◌*◌, ◌-◌, ◌<◌, ◌≤◌}
use mathlib.Core.Bool.{true, false, ◌&&◌}
use mathlib.Core.List.{List}
use mathlib.Core.Path.{◌≡◌, refl, sym, ◌∙◌}
use native.Mathlib.Omega.{arith}
use native.Mathlib.Nat.{sub-zero}
use borrow.Author.Tests.{le-leb, lt-leb}
use lib.Dec.{leb}
use lib.ListN.{length, get_or, drop}
use Rattle.layout.specs.Lay.{set_limit}
use Rattle.layout.specs.Value.{chain_of}
use Rattle.layout.specs.Codec.{sets_bytes, set_front, sets_at, sets_said}
use Rattle.layout.proofs.Padded.{length_padded}
use Rattle.layout.proofs.SetsAt.{byte_behind, sets_left, sets_over}
use Rattle.layout.proofs.AreSets.{Scanned, scan_none, scan_more, scan_all}
use Rattle.script.specs.Steps.{small_sets}

-- how many units the set at `past` has
pub count_read : (b : List ℕ) (past t : ℕ) → t ≡ get_or b past 0 → t ≡ length (set_front (drop past b))
count_read b past t e = e ∙ sym (length_padded (get_or (drop past b) 0 0) 0 (drop 1 (drop past b)) ∙ byte_behind b past)

-- i sets of n were passed, up to `past`; each of them is small
pub record Reaching (b : List ℕ) (n past i : ℕ) : Type 0 where
  pub scanned : Scanned b n i past
  pub far : past ≤ 1 + 5 * i
  pub rest : small_sets (sets_at (n - i) (drop past b)) ≡ small_sets (sets_at n (drop 1 b))

pub reach_none : (b : List ℕ) (n : ℕ) → Reaching b n 1 0
reach_none b n = record { scanned = scan_none b n; far = omega arith; rest = rw sub-zero }

module _ {b : List ℕ} {n past i : ℕ} (s : Reaching b n past i) where
  module _ (t : ℕ) (h : i < n) (e : t ≡ get_or b past 0) where
    next : (leb t set_limit && small_sets (sets_at (n - (i + 1)) (drop (past + (1 + t)) b))) ≡ small_sets (sets_at n (drop 1 b))
    unfolding small_sets
    next =
        let count : t ≡ length (set_front (drop past b)) = count_read b past t e in
        rw (sets_left b n i past t (chain_of (set_front (drop past b))) h refl count, ← count) at s.rest

    pub reach_more : t ≤ 4 → Reaching b n (past + (1 + t)) (i + 1)
    reach_more few =
        record {
          scanned = scan_more s.scanned (chain_of (set_front (drop past b))) t h refl (count_read b past t e) (omega arith);
          far = omega (arith, s.far);
          rest = rw (le-leb t 4 few) at next;
        }

    pub reach_stop : 4 < t → n ≡ get_or b 0 0 → small_sets (sets_said b) ≡ false
    reach_stop many en = rw en at (sym (rw (lt-leb t 4 many) at next))

  pub reach_all : n ≤ i → n ≡ get_or b 0 0 → (past ≡ 1 + length (sets_bytes (sets_said b))) × (small_sets (sets_said b) ≡ true)
  unfolding small_sets
  reach_all h e = (rw e at (scan_all s.scanned h), rw e at (sym (rw (sets_over b n i past h) at s.rest)))
