-- Example 10's layout, and what the rules of the layouts answer of it.
use Rattle.std.specs.Prelude.{ℕ, ◌%◌, List, [], ◌∷◌, get_or}
use Rattle.num.specs.Bytes.{number_at}
use Rattle.layout.specs.declared.Chain.{Chain}
use Rattle.layout.specs.Value.{no_wish}
use Rattle.layout.specs.Codec.{read_layout}
use Rattle.layout.specs.Places.{placed_at}
use Rattle.layout.specs.Plan.{Planned, planned_for}
use Rattle.marked.specs.Rows.{Told}

abbrev pub told : ℕ → ℕ → ℕ → Told
told answer first second = record { answer = answer; first = first; second = second }

-- 01000000 00 03010203 03 020102 020203 020103 02 0000000000000000 02 0A00000000000000 01: of a small yard
abbrev pub tenth : List ℕ
tenth =
    1 ∷ 0 ∷ 0 ∷ 0
    ∷ 0
    ∷ 3 ∷ 1 ∷ 2 ∷ 3
    ∷ 3 ∷ 2 ∷ 1 ∷ 2 ∷ 2 ∷ 2 ∷ 3 ∷ 2 ∷ 1 ∷ 3
    ∷ 2 ∷ 0 ∷ 0 ∷ 0 ∷ 0 ∷ 0 ∷ 0 ∷ 0 ∷ 0 ∷ 2 ∷ 10 ∷ 0 ∷ 0 ∷ 0 ∷ 0 ∷ 0 ∷ 0 ∷ 0 ∷ 1
    ∷ []

-- the set of a position, counted from 0
unfoldable pub place_told : ℕ → Told
place_told p = told (placed_at (read_layout tenth) p).answer (placed_at (read_layout tenth) p).set 0

-- what a reorganise that drops units a and b makes of the layout
abbrev pub dropped : ℕ → ℕ → Planned
dropped a b = planned_for (read_layout tenth) (a ∷ b ∷ []) no_wish

-- its set numbered k
abbrev pub set_left : ℕ → ℕ → ℕ → Chain
set_left a b k = get_or (dropped a b).layout.sets (k % 16) (record { count = 0; units = [] })

-- how many units the set has, and the units, a byte each, lowest first
unfoldable pub drop_told : ℕ → ℕ → ℕ → Told
drop_told a b k = told (dropped a b).answer (set_left a b k).count (number_at 4 0 (set_left a b k).units)
