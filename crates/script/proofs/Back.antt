-- A step that is written is read back.
use Prim.Native.Nat.{ℕ, suc, ◌+◌, ◌^◌, ◌<◌}
use mathlib.Core.Bool.{Bool, true, false, ◌&&◌}
use mathlib.Core.List.{List, ◌∷◌, ◌++◌, append_assoc}
use mathlib.Core.Path.{◌≡◌, refl, ap, ◌∙◌}
use native.Mathlib.Omega.{arith}
use borrow.Author.Tests.{ltb-true, le-leb}
use lib.Dec.{eqb, leb}
use lib.ListN.{length, get_or, drop, length-append}
use lib.Seq.{drop-append_seam}
use Rattle.num.specs.Bytes.{le_bytes, number_at}
use Rattle.num.proofs.Tests.{and_both}
use Rattle.num.proofs.Numbers.{number_behind, number_back}
use Rattle.layout.specs.Lay.{sets_limit}
use Rattle.layout.specs.Value.{padded}
use Rattle.layout.specs.Codec.{sets_bytes}
use Rattle.layout.proofs.Padded.{padded_exact}
use Rattle.layout.proofs.SetsAt.{sets_back}
use Rattle.client.specs.Client.{drop_limit}
use Rattle.std.specs.Prelude.{Some}
use Rattle.script.specs.Cue.{Cue}
use Rattle.script.specs.Cue.Cue.{append, read, fill, trim, prune, reorganise, deliver, drop_at, stop, restart, give_up, forget}
use Rattle.script.specs.Steps.{flag, cue_bytes, cue_for, cue_at, size_at, is_tag, good_flags, small_sets, has_room, is_cue, got_of, got_at, is_byte, are_bytes, sets_are_bytes, is_position, holdable}

-- ---- field by field

place_back : (t c p : ℕ) (ys : List ℕ) → is_position p ≡ true → number_at 8 2 (t ∷ c ∷ (le_bytes 8 p ++ ys)) ≡ p
place_back t c p ys h =
    let small : p < 2 ^ 64 = ltb-true p (2 ^ 64) h in
    number_behind 8 2 (t ∷ c ∷ (le_bytes 8 p ++ ys)) (omega arith) ∙ number_back 8 p ys (omega arith) (omega arith)

flag_read : (k : Bool) → eqb (flag k) 1 ≡ k
flag_read true = refl
flag_read false = refl

flag_low : (k : Bool) → leb (flag k) 1 ≡ true
flag_low true = refl
flag_low false = refl

drops_back : (ds : List ℕ) (rest ys : List ℕ) → padded (length ds) 0 ((ds ++ rest) ++ ys) ≡ ds
drops_back ds rest ys = rw (append_assoc ds rest ys) (padded_exact ds (rest ++ ys))

past_back : (c : ℕ) (ds rest ys : List ℕ) → drop (3 + length ds) (6 ∷ c ∷ length ds ∷ ((ds ++ rest) ++ ys)) ≡ rest ++ ys
past_back c ds rest ys =
    let three : 3 + length ds ≡ suc (suc (suc (length ds))) = omega arith in
    rw (three, append_assoc ds rest ys) (drop-append_seam ds (rest ++ ys))

-- ---- all of them

-- the result: whatever stands behind it
pub cue_back : (c : Cue) (ys : List ℕ) → holdable c ≡ true → cue_at (cue_bytes c ++ ys) ≡ c
unfolding cue_at cue_for cue_bytes holdable
cue_back (append c xs) ys h = ap (append c) (padded_exact xs ys)
cue_back (read c p) ys h = ap (read c) (place_back 2 c p ys (and_both (is_byte c) (is_position p) h).1)
cue_back (fill c p) ys h = ap (fill c) (place_back 3 c p ys (and_both (is_byte c) (is_position p) h).1)
cue_back (trim c p) ys h = ap (trim c) (place_back 4 c p ys (and_both (is_byte c) (is_position p) h).1)
cue_back (prune c p) ys h = ap (prune c) (place_back 5 c p ys (and_both (is_byte c) (is_position p) h).1)
cue_back (reorganise c ds ss) ys h =
    rw (drops_back ds (length ss ∷ sets_bytes ss) ys, past_back c ds (length ss ∷ sets_bytes ss) ys, sets_back ss ys)
cue_back (deliver i k a) ys h = rw (flag_read k, flag_read a)
cue_back (drop_at i) ys h = refl
cue_back (stop u) ys h = refl
cue_back (restart c) ys h = refl
cue_back (give_up c) ys h = refl
cue_back forget ys h = refl

-- its tag is one, and its flags are as they may be
front_tagged : (c : Cue) (ys : List ℕ) → (is_tag (get_or (cue_bytes c ++ ys) 0 0) && good_flags (cue_bytes c ++ ys)) ≡ true
unfolding cue_bytes
front_tagged (append c xs) ys = refl
front_tagged (read c p) ys = refl
front_tagged (fill c p) ys = refl
front_tagged (trim c p) ys = refl
front_tagged (prune c p) ys = refl
front_tagged (reorganise c ds ss) ys = refl
front_tagged (deliver i k a) ys = rw (flag_low k, flag_low a)
front_tagged (drop_at i) ys = refl
front_tagged (stop u) ys = refl
front_tagged (restart c) ys = refl
front_tagged (give_up c) ys = refl
front_tagged forget ys = refl

pub holdable_room : (c : Cue) → holdable c ≡ true → has_room c ≡ true
unfolding holdable has_room
holdable_room (append c xs) h = refl
holdable_room (read c p) h = refl
holdable_room (fill c p) h = refl
holdable_room (trim c p) h = refl
holdable_room (prune c p) h = refl
holdable_room (reorganise c ds ss) h =
    (and_both (is_byte c && are_bytes ds && sets_are_bytes ss) (leb (length ds) drop_limit && leb (length ss) sets_limit && small_sets ss) h).1
holdable_room (deliver i k a) h = refl
holdable_room (drop_at i) h = refl
holdable_room (stop u) h = refl
holdable_room (restart c) h = refl
holdable_room (give_up c) h = refl
holdable_room forget h = refl

module _ (c : Cue) (ys : List ℕ) (h : holdable c ≡ true) where
  -- the result: what is written is a whole step
  pub cue_stands : is_cue (cue_bytes c ++ ys) ≡ true
  unfolding is_cue
  cue_stands =
      let fits : leb (length (cue_bytes c)) (length (cue_bytes c ++ ys)) ≡ true
      = le-leb (length (cue_bytes c)) (length (cue_bytes c ++ ys)) (omega (arith, length-append (cue_bytes c) ys)) in
      rw (front_tagged c ys, cue_back c ys h, holdable_room c h, fits)

  pub size_back : size_at (cue_bytes c ++ ys) ≡ length (cue_bytes c)
  unfolding size_at
  size_back = rw (cue_back c ys h)

  pub past_cue : drop (size_at (cue_bytes c ++ ys)) (cue_bytes c ++ ys) ≡ ys
  past_cue = rw size_back (drop-append_seam (cue_bytes c) ys)

-- what code takes of a whole step
pub got_whole : (b : List ℕ) → is_cue b ≡ true → got_at b ≡ Some (got_of (cue_at b))
unfolding got_at
got_whole b h = rw h
