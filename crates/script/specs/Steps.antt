-- The bytes of a step: its tag and its fields. And of steps, one behind the other.
use Rattle.std.specs.Prelude.{ℕ, zero, suc, ◌+◌, ◌^◌, Bool, true, ◌&&◌, ◌||◌, not, cond, List, [], ◌∷◌, ◌++◌, eqb, leb, ltb, length, get_or, drop, Option, Some, None}
use Rattle.num.specs.Bytes.{le_bytes, number_at}
use Rattle.layout.specs.Lay.{set_limit, sets_limit}
use Rattle.layout.specs.Codec.{counted, sets_bytes, set_front, sets_said}
use Rattle.client.specs.Client.{drop_limit}
use Rattle.script.specs.declared.step.Got.{Got}
use Rattle.script.specs.Cue.{Cue, step_for, job_for}
use Rattle.script.specs.Cue.Cue.{append, read, fill, trim, prune, reorganise, deliver, drop_at, stop, restart, give_up, forget}

-- ---- writing

-- 1 keeps, 0 does not
abbrev pub flag : Bool → ℕ
flag keep = cond keep 1 0

unfoldable pub cue_bytes : Cue → List ℕ
cue_bytes (append c xs) = 1 ∷ c ∷ counted xs
cue_bytes (read c p) = 2 ∷ c ∷ le_bytes 8 p
cue_bytes (fill c p) = 3 ∷ c ∷ le_bytes 8 p
cue_bytes (trim c p) = 4 ∷ c ∷ le_bytes 8 p
cue_bytes (prune c p) = 5 ∷ c ∷ le_bytes 8 p
cue_bytes (reorganise c ds ss) = 6 ∷ c ∷ (counted ds ++ (length ss ∷ sets_bytes ss))
cue_bytes (deliver i k a) = 7 ∷ i ∷ flag k ∷ flag a ∷ []
cue_bytes (drop_at i) = 8 ∷ i ∷ []
cue_bytes (stop u) = 9 ∷ u ∷ []
cue_bytes (restart c) = 10 ∷ c ∷ []
cue_bytes (give_up c) = 11 ∷ c ∷ []
cue_bytes forget = 12 ∷ []

unfoldable pub cues_bytes : List Cue → List ℕ
cues_bytes [] = []
cues_bytes (c ∷ cs) = cue_bytes c ++ cues_bytes cs

-- ---- reading: what the bytes at the front would say, were they those of a step; past their end they count as 0

-- what stands behind a reorganise's drops
abbrev pub past_drops : List ℕ → List ℕ
past_drops b = drop (3 + get_or b 2 0) b

-- by the tag; `is_tag` below tells one that is none
unfoldable pub cue_for : ℕ → List ℕ → Cue
cue_for t b =
    cond (eqb t 1) (append (get_or b 1 0) (set_front (drop 2 b)))
    (cond (eqb t 2) (read (get_or b 1 0) (number_at 8 2 b))
    (cond (eqb t 3) (fill (get_or b 1 0) (number_at 8 2 b))
    (cond (eqb t 4) (trim (get_or b 1 0) (number_at 8 2 b))
    (cond (eqb t 5) (prune (get_or b 1 0) (number_at 8 2 b))
    (cond (eqb t 6) (reorganise (get_or b 1 0) (set_front (drop 2 b)) (sets_said (past_drops b)))
    (cond (eqb t 7) (deliver (get_or b 1 0) (eqb (get_or b 2 0) 1) (eqb (get_or b 3 0) 1))
    (cond (eqb t 8) (drop_at (get_or b 1 0))
    (cond (eqb t 9) (stop (get_or b 1 0))
    (cond (eqb t 10) (restart (get_or b 1 0))
    (cond (eqb t 11) (give_up (get_or b 1 0))
    forget))))))))))

unfoldable pub cue_at : List ℕ → Cue
cue_at b = cue_for (get_or b 0 0) b

-- how many bytes it has
unfoldable pub size_at : List ℕ → ℕ
size_at b = length (cue_bytes (cue_at b))

-- ---- whether a whole step stands at the front

abbrev pub is_tag : ℕ → Bool
is_tag t = leb 1 t && leb t 12

-- a delivery's flags are 0 or 1
abbrev pub good_flags : List ℕ → Bool
good_flags b = not (eqb (get_or b 0 0) 7) || (leb (get_or b 2 0) 1 && leb (get_or b 3 0) 1)

-- at most 4 units in each
unfoldable pub small_sets : List (List ℕ) → Bool
small_sets [] = true
small_sets (us ∷ ss) = leb (length us) set_limit && small_sets ss

-- at most 8 drops, 16 new sets, 4 units in each: no step has room for more
unfoldable pub has_room : Cue → Bool
has_room (append c xs) = true
has_room (read c p) = true
has_room (fill c p) = true
has_room (trim c p) = true
has_room (prune c p) = true
has_room (reorganise c ds ss) = leb (length ds) drop_limit && leb (length ss) sets_limit && small_sets ss
has_room (deliver i k a) = true
has_room (drop_at i) = true
has_room (stop u) = true
has_room (restart c) = true
has_room (give_up c) = true
has_room forget = true

-- room for all of it, and not cut short
abbrev pub stands : Cue → List ℕ → Bool
stands c b = has_room c && leb (length (cue_bytes c)) (length b)

-- a tag, a delivery's flags as they may be, and the whole step
unfoldable pub is_cue : List ℕ → Bool
is_cue b = is_tag (get_or b 0 0) && good_flags b && stands (cue_at b) b

-- ---- what code reads at the front: none where no whole step stands there

abbrev pub got_of : Cue → Got
got_of c = record { size = length (cue_bytes c); step = step_for c; job = job_for c }

-- what is taken of a step where it stands whole
abbrev pub whole : List ℕ → Cue → Option Got
whole b c = cond (stands c b) (Some (got_of c)) None

unfoldable pub got_at : List ℕ → Option Got
got_at b = cond (is_cue b) (Some (got_of (cue_at b))) None

-- ---- steps, one behind the other

-- what stands behind the first k
unfoldable pub past : ℕ → List ℕ → List ℕ
past zero b = b
past (suc k) b = past k (drop (size_at b) b)

-- the step numbered k, from 0 on
abbrev pub cue_no : ℕ → List ℕ → Cue
cue_no k b = cue_at (past k b)

-- the first n
unfoldable pub cues_at : ℕ → List ℕ → List Cue
cues_at zero b = []
cues_at (suc n) b = cue_at b ∷ cues_at n (drop (size_at b) b)

-- n whole steps, and no byte left over
unfoldable pub are_cues : ℕ → List ℕ → Bool
are_cues zero b = eqb (length b) 0
are_cues (suc n) b = is_cue b && are_cues n (drop (size_at b) b)

-- ---- the steps that a play can hold

abbrev pub is_byte : ℕ → Bool
is_byte n = ltb n 256

unfoldable pub are_bytes : List ℕ → Bool
are_bytes [] = true
are_bytes (x ∷ xs) = is_byte x && are_bytes xs

unfoldable pub sets_are_bytes : List (List ℕ) → Bool
sets_are_bytes [] = true
sets_are_bytes (us ∷ ss) = are_bytes us && sets_are_bytes ss

abbrev pub is_position : ℕ → Bool
is_position p = ltb p (2 ^ 64)

-- every field in the range of its bytes
unfoldable pub holdable : Cue → Bool
holdable (append c xs) = is_byte c && leb (length xs) 255 && are_bytes xs
holdable (read c p) = is_byte c && is_position p
holdable (fill c p) = is_byte c && is_position p
holdable (trim c p) = is_byte c && is_position p
holdable (prune c p) = is_byte c && is_position p
holdable (reorganise c ds ss) = is_byte c && are_bytes ds && sets_are_bytes ss && has_room (reorganise c ds ss)
holdable (deliver i k a) = is_byte i
holdable (drop_at i) = is_byte i
holdable (stop u) = is_byte u
holdable (restart c) = is_byte c
holdable (give_up c) = is_byte c
holdable forget = true

unfoldable pub all_holdable : List Cue → Bool
all_holdable [] = true
all_holdable (c ∷ cs) = holdable c && all_holdable cs
