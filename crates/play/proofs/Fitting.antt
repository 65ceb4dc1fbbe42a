-- Lines put one after another are those that fit: what is still to come of a buffer, a count and a number of bytes, and how a turn moves it.
use Prim.Native.Nat.{ℕ, ◌+◌, ◌-◌, ◌≤◌, ◌<◌}
use native.Mathlib.Nat.{add-zero, zero-add, sub-zero}
use native.Mathlib.Omega.{arith}
use mathlib.Core.Bool.{Bool, true, false}
use mathlib.Core.List.{List, [], ◌∷◌}
use mathlib.Core.Path.{◌≡◌, refl, ◌∙◌}
use borrow.Author.Tests.{le-leb, lt-leb, leb-true, leb-false}
use lib.Dec.{leb}
use lib.ListN.{length, length-append}
use lib.Seq.{sets, length-sets}
use Rattle.std.specs.Prelude.{Some, None}
use Rattle.num.proofs.Storing.{sets_append}
use Rattle.play.specs.declared.Shown.{Shown}
use Rattle.play.specs.Fit.{joined, fit}
use Rattle.play.specs.Going.{has_room, with_line, IsLineShown}

-- With the lines xs still to come behind w bytes in n lines, the buffer will be out', with n' lines in w' bytes.
pub record Coming (out : List ℕ) (n w : ℕ) (xs : List (List ℕ)) (out' : List ℕ) (n' w' : ℕ) : Type 0 where
  pub within : w ≤ length out
  pub out_is : out' ≡ sets out w (joined (fit (length out - w) xs))
  pub lines_is : n' ≡ n + length (fit (length out - w) xs)
  pub written_is : w' ≡ w + length (joined (fit (length out - w) xs))

-- what has come once none is to come
pub record Come (out : List ℕ) (n w : ℕ) (out' : List ℕ) (n' w' : ℕ) : Type 0 where
  pub out_is : out' ≡ out
  pub lines_is : n' ≡ n
  pub written_is : w' ≡ w

pub starts : (out : List ℕ) (xs : List (List ℕ))
    → Coming out 0 0 xs (sets out 0 (joined (fit (length out) xs))) (length (fit (length out) xs)) (length (joined (fit (length out) xs)))
starts out xs = record { within = omega arith; out_is = rw sub-zero; lines_is = rw (sub-zero, zero-add); written_is = rw (sub-zero, zero-add) }

module _ {out : List ℕ} {n w : ℕ} {out' : List ℕ} {n' w' : ℕ} where
  -- none is to come
  pub ends : Coming out n w [] out' n' w' → Come out n w out' n' w'
  unfolding fit joined
  ends c = record { out_is = c.out_is; lines_is = c.lines_is ∙ add-zero n; written_is = c.written_is ∙ add-zero w }

  module _ {x : List ℕ} {xs : List (List ℕ)} (c : Coming out n w (x ∷ xs) out' n' w') where
    -- the next has no room
    pub stops : length out < w + length x → Come out n w out' n' w'
    unfolding fit joined
    stops far =
        let no : leb (length x) (length out - w) ≡ false = lt-leb (length x) (length out - w) (omega (arith, c.within)) in
        record {
          out_is = c.out_is ∙ rw no;
          lines_is = c.lines_is ∙ rw no (add-zero n);
          written_is = c.written_is ∙ rw no (add-zero w);
        }

    -- the next has room and is put
    pub puts : w + length x ≤ length out → Coming (sets out w x) (n + 1) (w + length x) xs out' n' w'
    unfolding fit joined
    puts near =
        let yes : leb (length x) (length out - w) ≡ true = le-leb (length x) (length out - w) (omega (arith, c.within)) in
        let long : length (sets out w x) ≡ length out = length-sets out w x in
        let left : length (sets out w x) - (w + length x) ≡ length out - w - length x = rw long (omega arith) in
        record {
          within = omega (arith, long);
          out_is = c.out_is ∙ rw yes (sets_append out w x _ ∙ rw left);
          lines_is = c.lines_is ∙ rw (yes, left) (omega arith);
          written_is = c.written_is ∙ rw (yes, left, length-append x) (omega arith);
        }

-- ---- a line that is to be shown

module _ {s : Shown} {x out : List ℕ} {out₁ : List ℕ} {xs : List (List ℕ)} {out' : List ℕ} {n' w' : ℕ} (c : Coming out s.lines s.written (x ∷ xs) out' n' w') where
  -- it is put
  pub shows : {r : Shown} → IsLineShown s x out (Some r) out₁ → (r.lines ≡ s.lines + 1) × Coming out₁ r.lines r.written xs out' n' w'
  shows {r} l = go (has_room s x out) refl
    where
      go : (room : Bool) → has_room s x out ≡ room → (r.lines ≡ s.lines + 1) × Coming out₁ r.lines r.written xs out' n' w'
      go true e =
          let both : Some r ≡ Some (with_line s x) = l.shown_is ∙ rw e in
          let is : r ≡ with_line s x = cc in
          let buffer : out₁ ≡ sets out s.written x = l.out_is ∙ rw e in
          (rw is, rw (is, buffer) (puts c (leb-true _ _ e)))
      go false e = let none : Some r ≡ None = l.shown_is ∙ rw e in absurd cc

  -- it has no room
  pub stays : IsLineShown s x out None out₁ → Come out₁ s.lines s.written out' n' w'
  stays l = go (has_room s x out) refl
    where
      go : (room : Bool) → has_room s x out ≡ room → Come out₁ s.lines s.written out' n' w'
      go true e = let some : None ≡ Some (with_line s x) = l.shown_is ∙ rw e in absurd cc
      go false e = let buffer : out₁ ≡ out = l.out_is ∙ rw e in rw buffer (stops c (leb-false _ _ e))
