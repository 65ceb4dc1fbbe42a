-- A play as bytes: the layout behind its count of bytes, then the steps behind their count.
use Rattle.std.specs.Prelude.{ℕ, zero, suc, ◌+◌, Bool, ◌&&◌, cond, List, ◌++◌, eqb, leb, length, take, drop, Result, Ok, Err}
use Rattle.num.specs.declared.refusal.Refusal.{Refusal}
use Rattle.num.specs.declared.refusal.Refusal.TheVariants.{Play}
use Rattle.num.specs.Bytes.{le_bytes, number_at}
use Rattle.layout.specs.declared.Layout.{Layout}
use Rattle.layout.specs.Value.{good_value}
use Rattle.layout.specs.Codec.{is_layout, read_layout, bytes_of}
use Rattle.script.specs.declared.judge.Judged.{Judged}
use Rattle.script.specs.Cue.{Cue}
use Rattle.script.specs.Steps.{cues_bytes, size_at, past, are_cues}

-- the bytes of the longest play
abbrev pub play_limit : ℕ
play_limit = 65536

-- ---- writing

-- what stands before n steps
unfoldable pub start_bytes : Layout → ℕ → List ℕ
start_bytes l n = le_bytes 2 (length (bytes_of l)) ++ bytes_of l ++ le_bytes 4 n

unfoldable pub play_bytes : Layout → List Cue → List ℕ
play_bytes l cs = start_bytes l (length cs) ++ cues_bytes cs

-- ---- reading

abbrev pub layout_size : List ℕ → ℕ
layout_size b = number_at 2 0 b

abbrev pub layout_part : List ℕ → List ℕ
layout_part b = take (layout_size b) (drop 2 b)

-- the layout of a play; none where its bytes are those of no good layout
unfoldable pub layout_of : List ℕ → Layout
layout_of b = read_layout (layout_part b)

-- how many steps it has
unfoldable pub count_of : List ℕ → ℕ
count_of b = number_at 4 (2 + layout_size b) b

-- where the first stands
unfoldable pub first_of : List ℕ → ℕ
first_of b = 6 + layout_size b

unfoldable pub steps_of : List ℕ → List ℕ
steps_of b = drop (first_of b) b

-- where the step numbered k stands, from 0 on
unfoldable pub offset : ℕ → List ℕ → ℕ
offset zero b = first_of b
offset (suc k) b = offset k b + size_at (past k (steps_of b))

-- ---- nothing else is taken for a play

-- a good layout of epoch 1: no other starts a fresh yard
abbrev pub starts_yard : Layout → Bool
starts_yard l = good_value l && eqb l.epoch.0 1

-- not too long, both counts within it, the bytes of a layout that starts a yard, whole steps, and no byte left over
unfoldable pub is_play : List ℕ → Bool
is_play b =
    leb (length b) play_limit && leb (first_of b) (length b)
    && is_layout (layout_part b) && starts_yard (layout_of b)
    && are_cues (count_of b) (steps_of b)

-- ---- what code judges: refused by 22 where it is no play

unfoldable pub judged_of : List ℕ → Result Judged Refusal
judged_of b = cond (is_play b) (Ok (record { layout = layout_of b; count = count_of b; first = first_of b })) (Err Play)
