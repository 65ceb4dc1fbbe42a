-- A reorganise put into a lent buffer.
use Prim.Native.Nat.{ℕ, ◌+◌, ◌<◌, ◌≤◌}
use mathlib.Core.Bool.{true, false, ◌&&◌}
use mathlib.Core.List.{List, ◌∷◌, ◌++◌}
use mathlib.Core.Path.{◌≡◌, ap, ◌∙◌}
use native.Mathlib.Omega.{arith}
use Rattle.std.specs.Prelude.{◌⊎◌}
use Rattle.std.proofs.Common.{inl, inr}
use borrow.Author.Tests.{le-leb, lt-leb}
use lib.Dec.{leb}
use lib.ListN.{length, take, set, length-set}
use lib.Seq.{sets, length-sets, length-take-le}
use Rattle.num.proofs.Tests.{and_false}
use Rattle.num.proofs.Storing.{stored_both}
use Rattle.layout.specs.Lay.{sets_limit}
use Rattle.layout.specs.Plan.{new_of}
use Rattle.layout.specs.Codec.{counted, sets_bytes}
use Rattle.client.specs.declared.Change.{Change}
use Rattle.client.specs.Client.{drop_limit}
use Rattle.script.specs.Steps.{cue_bytes}
use Rattle.script.specs.Put.{small_chains, change_fits}
use Rattle.script.proofs.Tags.{reorganise_size}
use Rattle.script.proofs.Putting.{pair_put}

-- the bytes of it
abbrev pub change_bytes : ℕ → Change → List ℕ
change_bytes c h = 6 ∷ c ∷ (counted (take h.count h.drops) ++ (length (new_of h.wish) ∷ sets_bytes (new_of h.wish)))

module _ (h : Change) (n : ℕ) (en : n ≡ h.count) where
  -- more units to drop, or more sets, than there is room for
  pub change_many : (8 < n) ⊎ (16 < h.wish.count) → change_fits h ≡ false
  unfolding change_fits
  change_many (inl m) = rw (← en, lt-leb n drop_limit m)
  change_many (inr m) = rw (lt-leb h.wish.count sets_limit m, and_false (leb h.count drop_limit))

  -- a set of more units
  pub change_large : small_chains (take h.wish.count h.wish.sets) ≡ false → change_fits h ≡ false
  unfolding change_fits
  change_large y = rw (y, and_false (leb h.count drop_limit && leb h.wish.count sets_limit))

  pub change_fits_lem : n ≤ 8 → h.wish.count ≤ 16 → small_chains (take h.wish.count h.wish.sets) ≡ true → change_fits h ≡ true
  unfolding change_fits
  change_fits_lem few some y = rw (← en, y, le-leb n drop_limit few, le-leb h.wish.count sets_limit some)

  pub change_length : (c m : ℕ) → n ≤ length h.drops → m ≡ 1 + length (sets_bytes (new_of h.wish)) → length (change_bytes c h) ≡ (3 + n) + m
  unfolding cue_bytes
  change_length c m few em =
      omega (arith, reorganise_size c (take h.count h.drops) (new_of h.wish), length-take-le h.count h.drops (omega arith))

  pub change_put : (out o₂ o₃ : List ℕ) (at c : ℕ) → n ≤ length h.drops → o₂ ≡ sets (set (set out at 6) (at + 1) c) (at + 2) (counted (take n h.drops))
      → o₃ ≡ sets o₂ ((at + 3) + n) (length (new_of h.wish) ∷ sets_bytes (new_of h.wish)) → o₃ ≡ sets out at (change_bytes c h)
  change_put out o₂ o₃ at c few e f =
      let ds = counted (take h.count h.drops) in
      let ss = length (new_of h.wish) ∷ sets_bytes (new_of h.wish) in
      let first : o₂ ≡ sets (set (set out at 6) (at + 1) c) (at + 2) ds = rw en at e in
      let next : (at + 3) + n ≡ (at + 2) + length ds = omega (arith, length-take-le h.count h.drops (omega arith)) in
      pair_put out at 6 c (ds ++ ss) o₃ (stored_both (set (set out at 6) (at + 1) c) o₂ o₃ (at + 2) ((at + 3) + n) ds ss first f next)

-- what is stored leaves the length as it was
pub pair_long : (out last vs : List ℕ) (at a b i : ℕ) → last ≡ sets (set (set out at a) (at + 1) b) i vs → length last ≡ length out
pair_long out last vs at a b i e =
    ap length e ∙ length-sets (set (set out at a) (at + 1) b) i vs ∙ length-set (set out at a) (at + 1) b ∙ length-set out at a
