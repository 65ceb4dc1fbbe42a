-- The loop that copies the bytes behind a count, as many as there is room for.
use Prim.Native.Nat.{ℕ, ◌+◌, ◌<◌, ◌≤◌}
use mathlib.Core.Bool.{cond}
use mathlib.Core.List.{List}
use mathlib.Core.Path.{◌≡◌, sym, ◌∙◌}
use native.Mathlib.Omega.{arith}
use borrow.Author.Tests.{lt-ltb, le-ltb}
use lib.Dec.{ltb}
use lib.ListN.{length, get_or, drop}
use lib.Seq.{get_or-drop, take_all}
use Rattle.layout.specs.Value.{padded}
use Rattle.layout.specs.Codec.{set_front}
use Rattle.layout.proofs.Padded.{length_padded, padded_at}
use Rattle.layout.proofs.Stored.{stored_whole, Copying, copy_all}

module _ (b : List ℕ) (m : ℕ) where
  module _ (n i : ℕ) where
    padded_byte : i < m → n ≡ get_or b 2 0 → get_or (padded m 0 (set_front (drop 2 b))) i 0 ≡ cond (ltb i n) (get_or b (3 + i) 0) 0
    padded_byte h en =
        let count : get_or (drop 2 b) 0 0 ≡ n = get_or-drop 2 b 0 0 ∙ sym en in
        let here : 2 + (1 + i) ≡ 3 + i = omega arith in
        let byte : get_or (drop 1 (drop 2 b)) i 0 ≡ get_or b (3 + i) 0 = get_or-drop 1 (drop 2 b) i 0 ∙ get_or-drop 2 b (1 + i) 0 ∙ rw here in
        padded_at m i (set_front (drop 2 b)) ∙ rw (lt-ltb i m h) (padded_at (get_or (drop 2 b) 0 0) i (drop 1 (drop 2 b)) ∙ rw (count, byte))

    pub copied_byte : (x : ℕ) → i < m → n ≡ get_or b 2 0 → x ≡ get_or b (3 + i) 0 → i < n → x ≡ get_or (padded m 0 (set_front (drop 2 b))) i 0
    copied_byte x h en ex l = ex ∙ sym (padded_byte h en ∙ rw (lt-ltb i n l))

    pub past_byte : i < m → n ≡ get_or b 2 0 → n ≤ i → 0 ≡ get_or (padded m 0 (set_front (drop 2 b))) i 0
    past_byte h en l = sym (padded_byte h en ∙ rw (le-ltb i n l))

  pub copied : (before : List ℕ) (i : ℕ) (out : List ℕ) → length before ≡ m → m ≤ i → Copying m (padded m 0 (set_front (drop 2 b))) before i out
      → out ≡ padded m 0 (set_front (drop 2 b))
  copied before i out e h s =
      let vs = padded m 0 (set_front (drop 2 b)) in
      let long : length vs ≡ m = length_padded m 0 (set_front (drop 2 b)) in
      copy_all s h ∙ rw (take_all m vs (omega arith)) (stored_whole before vs (long ∙ sym e))
