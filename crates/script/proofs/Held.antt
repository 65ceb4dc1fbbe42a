-- What is read of bytes is a step that a play can hold: so the steps that read are those that are written, and no others.
use Prim.Native.Nat.{ℕ, zero, suc, ◌+◌, ◌^◌, ◌<◌}
use mathlib.Core.Bool.{true, ◌&&◌}
use mathlib.Core.List.{List, [], ◌∷◌}
use mathlib.Core.Path.{◌≡◌, refl}
use native.Mathlib.Omega.{arith}
use borrow.Author.Tests.{le-leb, lt-ltb}
use lib.Dec.{leb}
use lib.ListN.{length, get_or, drop}
use Rattle.num.specs.Bytes.{number_at}
use Rattle.num.proofs.Tests.{and_both}
use Rattle.num.proofs.Numbers.{Bytes, bytes_drop, number_below}
use Rattle.layout.specs.Value.{padded}
use Rattle.layout.specs.Codec.{set_front, sets_at, sets_said}
use Rattle.script.specs.Cue.Cue.{reorganise}
use Rattle.script.specs.Steps.{cue_bytes, past_drops, cue_for, cue_at, size_at, is_tag, good_flags, has_room, stands, is_cue, cues_at, are_cues, is_byte, are_bytes, sets_are_bytes, is_position, holdable, all_holdable}
use Rattle.script.proofs.Tags.{by_tag, counted_length}

padded_bytes : (n : ℕ) (xs : List ℕ) → Bytes xs → are_bytes (padded n 0 xs) ≡ true
unfolding are_bytes padded
padded_bytes zero xs b = refl
padded_bytes (suc n) [] b = padded_bytes n [] b
padded_bytes (suc n) (x ∷ xs) b = rw (lt-ltb x 256 (b 0).fits) (padded_bytes n xs (λ k. b (suc k)))

front_bytes : (xs : List ℕ) → Bytes xs → are_bytes (set_front xs) ≡ true
front_bytes xs b = padded_bytes (get_or xs 0 0) (drop 1 xs) (bytes_drop 1 xs b)

sets_bytes_lem : (n : ℕ) (xs : List ℕ) → Bytes xs → sets_are_bytes (sets_at n xs) ≡ true
unfolding sets_are_bytes sets_at
sets_bytes_lem zero xs b = refl
sets_bytes_lem (suc n) xs b = rw (front_bytes xs b) (sets_bytes_lem n (drop (1 + get_or xs 0 0) xs) (bytes_drop (1 + get_or xs 0 0) xs b))

unfoldable Held : ℕ → Type 0
Held t = (b : List ℕ) → Bytes b → stands (cue_for t b) b ≡ true → holdable (cue_for t b) ≡ true

byte : (b : List ℕ) (k : ℕ) → Bytes b → is_byte (get_or b k 0) ≡ true
byte b k bytes = lt-ltb (get_or b k 0) 256 (bytes k).fits

place : (b : List ℕ) → Bytes b → (is_byte (get_or b 1 0) && is_position (number_at 8 2 b)) ≡ true
place b bytes = rw (byte b 1 bytes, lt-ltb (number_at 8 2 b) (2 ^ 64) (number_below 8 2 b bytes))

held_append : Held 1
unfolding Held cue_for holdable
held_append b bytes h =
    let few : get_or b 2 0 < 256 = (bytes 2).fits in
    let short : leb (length (set_front (drop 2 b))) 255 ≡ true = le-leb (length (set_front (drop 2 b))) 255 (omega (arith, counted_length b (get_or b 2 0) refl)) in
    rw (byte b 1 bytes, short, front_bytes (drop 2 b) (bytes_drop 2 b bytes))

held_reorganise : Held 6
unfolding Held cue_for holdable
held_reorganise b bytes h =
    let new = past_drops b in
    let room : has_room (reorganise (get_or b 1 0) (set_front (drop 2 b)) (sets_said new)) ≡ true
    = (and_both (has_room (reorganise (get_or b 1 0) (set_front (drop 2 b)) (sets_said new))) (leb (length (cue_bytes (reorganise (get_or b 1 0) (set_front (drop 2 b)) (sets_said new)))) (length b)) h).0 in
    let sets = sets_bytes_lem (get_or new 0 0) (drop 1 new) (bytes_drop 1 new (bytes_drop (3 + get_or b 2 0) b bytes)) in
    rw (byte b 1 bytes, front_bytes (drop 2 b) (bytes_drop 2 b bytes), sets, room)

held : (t : ℕ) → is_tag t ≡ true → Held t
unfolding Held cue_for holdable
held =
    by_tag
    Held
    held_append
    (λ b bytes h. place b bytes)
    (λ b bytes h. place b bytes)
    (λ b bytes h. place b bytes)
    (λ b bytes h. place b bytes)
    held_reorganise
    (λ b bytes h. byte b 1 bytes)
    (λ b bytes h. byte b 1 bytes)
    (λ b bytes h. byte b 1 bytes)
    (λ b bytes h. byte b 1 bytes)
    (λ b bytes h. byte b 1 bytes)
    (λ b bytes h. refl)

-- the result
pub cue_held : (b : List ℕ) → Bytes b → is_cue b ≡ true → holdable (cue_at b) ≡ true
unfolding is_cue cue_at Held
cue_held b bytes h =
    let p = and_both (is_tag (get_or b 0 0) && good_flags b) (stands (cue_for (get_or b 0 0) b) b) h in
    held (get_or b 0 0) (and_both (is_tag (get_or b 0 0)) (good_flags b) p.0).0 b bytes p.1

pub cues_held : (n : ℕ) (b : List ℕ) → Bytes b → are_cues n b ≡ true → all_holdable (cues_at n b) ≡ true
unfolding are_cues cues_at all_holdable
cues_held zero b bytes h = refl
cues_held (suc n) b bytes h =
    let p = and_both (is_cue b) (are_cues n (drop (size_at b) b)) h in
    rw (cue_held b bytes p.0) (cues_held n (drop (size_at b) b) (bytes_drop (size_at b) b bytes) p.1)
