-- Dropping and putting single entries of the table leaves the letters of the rule in its first places.
use Prim.Native.Nat.{ℕ, zero, suc, ◌+◌, ◌-◌, ◌<◌, ◌≤◌, max}
use mathlib.Core.Bool.{Bool, true, false, cond}
use mathlib.Core.List.{List, [], ◌∷◌, ◌++◌, append_assoc, append-nil}
use mathlib.Core.Path.{◌≡◌, refl, sym, ap, ◌∙◌}
use native.Mathlib.Nat.{not-suc-le-zero, le_of_suc-le-suc}
use native.Mathlib.Omega.{arith}
use borrow.Author.Tests.{lt-ltb, le-leb}
use lib.ListN.{length, get_or, take, drop, set, replicate, take-append-drop, length-append}
use lib.Seq.{length-take-le, drop-cons}
use Rattle.rule.specs.declared.Letter.{Letter}
use Rattle.rule.specs.World.{blank_letter}
use Rattle.yard.specs.Bag.{move_up, close_up, put_at, drop_at}
use Rattle.rule.specs.Steps.{without, keeping}
use Rattle.rule.specs.Lent.{laid}
use Rattle.yard.specs.InsideMoves.{posting, left_at, count_after}
use Rattle.yard.proofs.Delivering.{without_length}

moved_is : (ls : List Letter) (n : ℕ) → n ≤ length ls → move_up ls n ≡ take n ls ++ (blank_letter ∷ drop n ls)
unfolding move_up
moved_is ls zero h = refl
moved_is [] (suc n) h = absurd (not-suc-le-zero h)
moved_is (l ∷ ls) (suc n) h = ap (λ (t : List Letter). l ∷ t) (moved_is ls n (le_of_suc-le-suc h))

closed_is : (ls : List Letter) (n i : ℕ) → i < n → n ≤ length ls → close_up ls n i ≡ without i (take n ls) ++ (blank_letter ∷ drop n ls)
unfolding close_up without
closed_is ls zero i k h = absurd (not-suc-le-zero k)
closed_is [] (suc n) i k h = absurd (not-suc-le-zero h)
closed_is (l ∷ ls) (suc n) zero k h = moved_is ls n (le_of_suc-le-suc h)
closed_is (l ∷ ls) (suc n) (suc i) k h = ap (λ (t : List Letter). l ∷ t) (closed_is ls n i (le_of_suc-le-suc k) (le_of_suc-le-suc h))

set_seam : (xs : List Letter) (y : Letter) (ys : List Letter) (a : Letter) → set (xs ++ (y ∷ ys)) (length xs) a ≡ xs ++ (a ∷ ys)
set_seam [] y ys a = refl
set_seam (x ∷ xs) y ys a = ap (λ (t : List Letter). x ∷ t) (set_seam xs y ys a)

module _ (table : List Letter) (n i : ℕ) (l : Letter) (long : length table ≡ 32) (few : n ≤ 32) where
  front : length (take n table) ≡ n
  front = length-take-le n table (omega arith)

  -- what stands behind the letters: as many blank places as they left, and the rest
  behind : (ls : List Letter) (k j : ℕ) → length ls ≡ k → n - k ≡ j → laid ls n table ≡ ls ++ (replicate j blank_letter ++ drop (max n k) table)
  unfolding laid
  behind ls k j e d = rw (e, d) (append_assoc ls (replicate j blank_letter) (drop (max n k) table))

  stays : laid (take n table ++ []) n table ≡ table
  stays =
      let z : n - n ≡ 0 = omega arith in
      let m : max n n ≡ n = omega arith in
      rw (append-nil (take n table)) (behind (take n table) n 0 front z ∙ rw m (take-append-drop n table))

  comes : n + 1 ≤ 32 → laid (take n table ++ (l ∷ [])) n table ≡ put_at table n l
  comes h =
      let e : length (take n table ++ (l ∷ [])) ≡ n + 1 = length-append (take n table) (l ∷ []) ∙ rw front in
      let z : n - (n + 1) ≡ 0 = omega arith in
      let m : max n (n + 1) ≡ suc n = omega arith in
      let t : table ≡ take n table ++ (get_or table n blank_letter ∷ drop (suc n) table) =
      sym (take-append-drop n table) ∙ ap (λ (d : List Letter). take n table ++ d) (drop-cons table n blank_letter (omega arith)) in
      let p : set table n l ≡ take n table ++ (l ∷ drop (suc n) table) =
      ap (λ (u : List Letter). set u n l) t ∙ ap (λ (k : ℕ). set (take n table ++ (get_or table n blank_letter ∷ drop (suc n) table)) k l) (sym front)
      ∙ set_seam (take n table) (get_or table n blank_letter) (drop (suc n) table) l in
      behind (take n table ++ (l ∷ [])) (n + 1) 0 e z ∙ rw (m, append_assoc) (sym p)

  module _ (h : i < n) where
    abbrev W : List Letter
    W = without i (take n table)

    short : length W ≡ n - 1
    short = without_length i (take n table) (rw front h) ∙ rw front

    dropped : drop_at table n i ≡ W ++ (blank_letter ∷ drop n table)
    dropped = rw (le-leb n (length table) (omega arith), lt-ltb i n h) (closed_is table n i h (omega arith))

    goes : laid (W ++ []) n table ≡ drop_at table n i
    goes =
        let z : n - (n - 1) ≡ 1 = omega arith in
        let m : max n (n - 1) ≡ n = omega arith in
        rw (append-nil W, dropped) (behind W (n - 1) 1 short z ∙ rw m)

    replaced : laid (W ++ (l ∷ [])) n table ≡ put_at (drop_at table n i) (n - 1) l
    replaced =
        let e : length (W ++ (l ∷ [])) ≡ n = length-append W (l ∷ []) ∙ rw short (omega arith) in
        let z : n - n ≡ 0 = omega arith in
        let m : max n n ≡ n = omega arith in
        behind (W ++ (l ∷ [])) n 0 e z ∙ rw (m, append_assoc, dropped, ← short, set_seam)

-- THE TABLE AFTER A STEP
pub laid_is : (table : List Letter) (n i : ℕ) (keep posts : Bool) (l : Letter) → length table ≡ 32 → n ≤ 32 → (keep ≡ false → i < n) → count_after n keep posts ≤ 32
    → laid (keeping keep i (take n table) ++ posting posts l) n table ≡ cond posts (put_at (cond keep table (drop_at table n i)) (left_at n keep) l) (cond keep table (drop_at table n i))
laid_is table n i true true l long few there room = comes table n i l long few room
laid_is table n i true false l long few there room = stays table n i l long few
laid_is table n i false true l long few there room = replaced table n i l long few (there refl)
laid_is table n i false false l long few there room = goes table n i l long few (there refl)
