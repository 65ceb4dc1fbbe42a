-- What is read of a step is written back as it stood.
use Prim.Native.Nat.{ℕ, zero, suc, ◌+◌, ◌≤◌}
use mathlib.Core.Bool.{true, ◌&&◌}
use mathlib.Core.List.{List, [], ◌∷◌, ◌++◌}
use mathlib.Core.Path.{◌≡◌, refl, ◌∙◌}
use native.Mathlib.Omega.{arith}
use borrow.Author.Tests.{leb-true}
use lib.Dec.{eqb, leb}
use lib.ListN.{length, get_or, drop, length-drop}
use Rattle.num.specs.Bytes.{le_bytes, number_at}
use Rattle.num.proofs.Tests.{and_both, false_true}
use Rattle.num.proofs.Front.{Front, front_cons, front_append, front_number}
use Rattle.num.proofs.Numbers.{Bytes, le_length, number_behind}
use Rattle.layout.specs.Value.{padded}
use Rattle.layout.specs.Codec.{counted, sets_bytes, set_front, sets_said, sets_at}
use Rattle.layout.proofs.Padded.{length_padded}
use Rattle.layout.proofs.SetsAt.{sets_length, front_counted, front_sets}
use Rattle.script.specs.Cue.{Cue}
use Rattle.script.specs.Cue.Cue.{append, reorganise}
use Rattle.script.specs.Steps.{flag, cue_bytes, cue_for, cue_at, is_tag, good_flags, has_room, stands, is_cue}
use Rattle.script.proofs.Tags.{by_tag, tagged, reorganise_size}

-- ---- by the fields that a step has

-- the step c is not cut short
long : (c : Cue) (b : List ℕ) → stands c b ≡ true → length (cue_bytes c) ≤ length b
long c b h = leb-true (length (cue_bytes c)) (length b) (and_both (has_room c) (leb (length (cue_bytes c)) (length b)) h).1

none : (n : ℕ) → suc (suc n) ≤ 1 → ⊥
none n h = omega arith

place_front : (t c : ℕ) (r : List ℕ) → Bytes (t ∷ c ∷ r) → 8 ≤ length r → Front (t ∷ c ∷ le_bytes 8 (number_at 8 2 (t ∷ c ∷ r))) (t ∷ c ∷ r)
place_front t c r bytes h =
    rw (number_behind 8 2 (t ∷ c ∷ r) (omega arith))
    (front_cons t (c ∷ le_bytes 8 (number_at 8 0 r)) (c ∷ r) (front_cons c (le_bytes 8 (number_at 8 0 r)) r (front_number 8 r (λ k. bytes (suc (suc k))) (omega arith) h)))

flag_back : (x : ℕ) → leb x 1 ≡ true → flag (eqb x 1) ≡ x
flag_back zero h = refl
flag_back (suc zero) h = refl
flag_back (suc (suc n)) h = absurd (none n (leb-true (suc (suc n)) 1 h))

new_front : (ys : List ℕ) → 1 + length (sets_bytes (sets_said ys)) ≤ length ys → Front (length (sets_said ys) ∷ sets_bytes (sets_said ys)) ys
new_front [] k = absurd (omega arith)
new_front (y ∷ ys) k = rw (sets_length y ys) (front_cons y (sets_bytes (sets_at y ys)) ys (front_sets y ys (omega arith)))

reorganise_front : (c n : ℕ) (xs : List ℕ) → length (cue_bytes (reorganise c (padded n 0 xs) (sets_said (drop n xs)))) ≤ 3 + length xs
    → Front (cue_bytes (reorganise c (padded n 0 xs) (sets_said (drop n xs)))) (6 ∷ c ∷ n ∷ xs)
unfolding cue_bytes
reorganise_front c n xs h =
    let ss = sets_said (drop n xs) in
    let size : length (6 ∷ c ∷ (counted (padded n 0 xs) ++ (length ss ∷ sets_bytes ss))) ≡ (3 + n) + (1 + length (sets_bytes ss))
    = reorganise_size c (padded n 0 xs) ss ∙ rw (length_padded n 0 xs) in
    let drops : Front (counted (padded n 0 xs)) (n ∷ xs) = front_counted n xs (omega arith) in
    let behind : drop (length (counted (padded n 0 xs))) (n ∷ xs) ≡ drop n xs = rw (length_padded n 0 xs) in
    let fields = counted (padded n 0 xs) ++ (length ss ∷ sets_bytes ss) in
    let all : Front fields (n ∷ xs)
    = front_append (counted (padded n 0 xs)) (length ss ∷ sets_bytes ss) (n ∷ xs) drops (rw behind (new_front (drop n xs) (omega (arith, length-drop n xs)))) in
    front_cons 6 (c ∷ fields) (c ∷ n ∷ xs) (front_cons c fields (n ∷ xs) all)

-- ---- all of them

-- the bytes of a step at the front are those that its fields are written as
unfoldable Written : ℕ → Type 0
Written t = (r : List ℕ) → Bytes (t ∷ r) → tagged t (t ∷ r) ≡ true → stands (cue_for t (t ∷ r)) (t ∷ r) ≡ true → Front (cue_bytes (cue_for t (t ∷ r))) (t ∷ r)

three : (n c d e : ℕ) (xs : List ℕ) → drop (3 + n) (c ∷ d ∷ e ∷ xs) ≡ drop n xs
three n c d e xs =
    let z : 3 + n ≡ suc (suc (suc n)) = omega arith in
    rw z

-- the rows of one shape
placed : (t : ℕ) (r : List ℕ) → Bytes (t ∷ r) → suc (suc (length (le_bytes 8 (number_at 8 2 (t ∷ r))))) ≤ suc (length r)
    → Front (t ∷ get_or r 0 0 ∷ le_bytes 8 (number_at 8 2 (t ∷ r))) (t ∷ r)
placed t [] bytes h = absurd (omega arith)
placed t (c ∷ r) bytes h = place_front t c r bytes (omega (arith, le_length 8 (number_at 8 2 (t ∷ c ∷ r))))

named : (t : ℕ) (r : List ℕ) → 2 ≤ suc (length r) → Front (t ∷ get_or r 0 0 ∷ []) (t ∷ r)
named t [] h = absurd (omega arith)
named t (c ∷ r) h = refl

written_append : Written 1
unfolding Written cue_for cue_bytes
written_append [] bytes y h = absurd (omega (arith, long (cue_for 1 (1 ∷ [])) (1 ∷ []) h))
written_append (c ∷ []) bytes y h = absurd (omega (arith, long (cue_for 1 (1 ∷ c ∷ [])) (1 ∷ c ∷ []) h))
written_append (c ∷ n ∷ xs) bytes y h =
    let fields = counted (padded n 0 xs) in
    front_cons 1 (c ∷ fields) (c ∷ n ∷ xs) (front_cons c fields (n ∷ xs) (front_counted n xs (omega (arith, long (append c (padded n 0 xs)) (1 ∷ c ∷ n ∷ xs) h, length_padded n 0 xs))))

written_read : Written 2
unfolding Written cue_for cue_bytes
written_read r bytes y h = placed 2 r bytes (long (cue_for 2 (2 ∷ r)) (2 ∷ r) h)

written_fill : Written 3
unfolding Written cue_for cue_bytes
written_fill r bytes y h = placed 3 r bytes (long (cue_for 3 (3 ∷ r)) (3 ∷ r) h)

written_trim : Written 4
unfolding Written cue_for cue_bytes
written_trim r bytes y h = placed 4 r bytes (long (cue_for 4 (4 ∷ r)) (4 ∷ r) h)

written_prune : Written 5
unfolding Written cue_for cue_bytes
written_prune r bytes y h = placed 5 r bytes (long (cue_for 5 (5 ∷ r)) (5 ∷ r) h)

written_reorganise : Written 6
unfolding Written cue_for
written_reorganise [] bytes y h =
    absurd (omega (arith, long (cue_for 6 (6 ∷ [])) (6 ∷ []) h, reorganise_size 0 (set_front []) (sets_said (drop 3 (6 ∷ [])))))
written_reorganise (c ∷ []) bytes y h =
    absurd (omega (arith, long (cue_for 6 (6 ∷ c ∷ [])) (6 ∷ c ∷ []) h, reorganise_size c (set_front []) (sets_said (drop 3 (6 ∷ c ∷ [])))))
written_reorganise (c ∷ n ∷ xs) bytes y h =
    let behind : drop (3 + n) (6 ∷ c ∷ n ∷ xs) ≡ drop n xs = three n 6 c n xs in
    let fits : length (cue_bytes (reorganise c (padded n 0 xs) (sets_said (drop n xs)))) ≤ suc (suc (suc (length xs)))
    = rw behind at (long (cue_for 6 (6 ∷ c ∷ n ∷ xs)) (6 ∷ c ∷ n ∷ xs) h) in
    rw behind (reorganise_front c n xs (omega arith))

written_deliver : Written 7
unfolding Written cue_for cue_bytes
written_deliver [] bytes y h = absurd (omega (arith, long (cue_for 7 (7 ∷ [])) (7 ∷ []) h))
written_deliver (i ∷ []) bytes y h = absurd (omega (arith, long (cue_for 7 (7 ∷ i ∷ [])) (7 ∷ i ∷ []) h))
written_deliver (i ∷ k ∷ []) bytes y h = absurd (omega (arith, long (cue_for 7 (7 ∷ i ∷ k ∷ [])) (7 ∷ i ∷ k ∷ []) h))
written_deliver (i ∷ k ∷ a ∷ r) bytes y h =
    let p = and_both (leb k 1) (leb a 1) y in
    rw (flag_back k p.0, flag_back a p.1)

written_drop : Written 8
unfolding Written cue_for cue_bytes
written_drop r bytes y h = named 8 r (long (cue_for 8 (8 ∷ r)) (8 ∷ r) h)

written_stop : Written 9
unfolding Written cue_for cue_bytes
written_stop r bytes y h = named 9 r (long (cue_for 9 (9 ∷ r)) (9 ∷ r) h)

written_restart : Written 10
unfolding Written cue_for cue_bytes
written_restart r bytes y h = named 10 r (long (cue_for 10 (10 ∷ r)) (10 ∷ r) h)

written_give_up : Written 11
unfolding Written cue_for cue_bytes
written_give_up r bytes y h = named 11 r (long (cue_for 11 (11 ∷ r)) (11 ∷ r) h)

written_forget : Written 12
unfolding Written cue_for cue_bytes
written_forget r bytes y h = refl

written : (t : ℕ) → is_tag t ≡ true → Written t
written =
    by_tag
    Written
    written_append
    written_read
    written_fill
    written_trim
    written_prune
    written_reorganise
    written_deliver
    written_drop
    written_stop
    written_restart
    written_give_up
    written_forget

-- the result: where a whole step stands at the front, its own bytes stand there
pub front_cue : (b : List ℕ) → Bytes b → is_cue b ≡ true → Front (cue_bytes (cue_at b)) b
unfolding is_cue cue_at Written
front_cue [] bytes h = absurd (false_true h)
front_cue (t ∷ r) bytes h =
    let p = and_both (is_tag t && good_flags (t ∷ r)) (stands (cue_for t (t ∷ r)) (t ∷ r)) h in
    written t (and_both (is_tag t) (good_flags (t ∷ r)) p.0).0 r bytes p.0 p.1
