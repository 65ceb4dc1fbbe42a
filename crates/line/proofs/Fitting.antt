-- A line that fits stands whole in the buffer; one that does not changes nothing.
use Prim.Native.Nat.{ℕ, ◌+◌, ◌<◌, ◌≤◌}
use mathlib.Core.Bool.{Bool, true, false, cond}
use mathlib.Core.List.{List, append_assoc}
use mathlib.Core.Path.{◌≡◌, refl, sym, ap, ◌∙◌}
use native.Mathlib.Omega.{arith}
use borrow.Author.Tests.{le-leb, lt-leb, leb-true, leb-false}
use lib.Dec.{leb}
use lib.ListN.{length, take, drop}
use lib.Seq.{sets, sets-eq, drop-drop}
use borrow.Rule.Slice.PartMut.{put_mid}
use Rattle.std.specs.Prelude.{Some, None}
use Rattle.client.specs.declared.Outcome.{Outcome}
use Rattle.line.specs.Line.{line_of, fits, IsLinePut}

-- a part that is written over
pub mid_sets : (out : List ℕ) (at k : ℕ) (text now : List ℕ) → now ≡ text → k ≡ length text → at + length text ≤ length out → put_mid at k out now ≡ sets out at text
mid_sets out at k text now e len h = rw (e, len, sets-eq text out at h, drop-drop) (sym (append_assoc (take at out) text (drop (at + length text) out)))

module _ (out : List ℕ) (at number answer who : ℕ) (o : Outcome) where
  pub line_past : length out < at + length (line_of number answer who o) → IsLinePut out at number answer who o None out
  unfolding fits
  line_past h =
      let no = lt-leb (at + length (line_of number answer who o)) (length out) h in
      record { count_is = sym (rw no); buffer_is = sym (rw no) }

  pub line_within : (n : ℕ) (after : List ℕ) → n ≡ length (line_of number answer who o) → at + n ≤ length out → after ≡ sets out at (line_of number answer who o)
      → IsLinePut out at number answer who o (Some n) after
  unfolding fits
  line_within n after long h b =
      let yes = le-leb (at + length (line_of number answer who o)) (length out) (omega (arith, long)) in
      record { count_is = ap Some long ∙ sym (rw yes); buffer_is = b ∙ sym (rw yes) }

-- ---- what a caller learns from the answer

module _ {before : List ℕ} {at number answer who : ℕ} {o : Outcome} where
  -- none: the line has no room, and nothing was written
  pub line_refused : {after : List ℕ} → IsLinePut before at number answer who o None after → (length before < at + length (line_of number answer who o)) × (after ≡ before)
  unfolding fits
  line_refused {after} p = go (fits (line_of number answer who o) at before) refl p.count_is p.buffer_is
    where
      go : (t : Bool) → leb (at + length (line_of number answer who o)) (length before) ≡ t → None ≡ cond t (Some (length (line_of number answer who o))) None
          → after ≡ cond t (sets before at (line_of number answer who o)) before → (length before < at + length (line_of number answer who o)) × (after ≡ before)
      go true e c b = cc
      go false e c b = (leb-false _ _ e, b)

  -- anything else: the whole line stands there
  pub line_stands : {r : ℕ} {after : List ℕ} → IsLinePut before at number answer who o (Some r) after
      → (r ≡ length (line_of number answer who o)) × ((at + r ≤ length before) × (after ≡ sets before at (line_of number answer who o)))
  unfolding fits
  line_stands {r} {after} p = go (fits (line_of number answer who o) at before) refl p.count_is p.buffer_is
    where
      go : (t : Bool) → leb (at + length (line_of number answer who o)) (length before) ≡ t → Some r ≡ cond t (Some (length (line_of number answer who o))) None
          → after ≡ cond t (sets before at (line_of number answer who o)) before → (r ≡ length (line_of number answer who o)) × ((at + r ≤ length before) × (after ≡ sets before at (line_of number answer who o)))
      go true e c b = let same : r ≡ length (line_of number answer who o) = cc in (same, (rw same (leb-true _ _ e), b))
      go false e c b = cc
