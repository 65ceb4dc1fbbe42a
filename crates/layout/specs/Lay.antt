-- A layout as docs/RULES.md, 5, speaks of it, and when it is good.
use Rattle.std.specs.Prelude.{ℕ, zero, suc, ◌+◌, Bool, true, false, ◌&&◌, ◌||◌, cond, List, [], ◌∷◌, leb, ltb, eqb, length}
use Rattle.num.specs.Limits.{limit, last_epoch}
pub use Rattle.num.specs.Limits.{unit_limit}

-- a range: its start, and how many sets it uses
pub record Span : Type 0 where
  pub start : ℕ
  pub uses : ℕ

-- shape: the kind of all units of the yard, 0 small, 1 large. sets: each the units of a set. spans: the ranges
pub record Lay : Type 0 where
  pub epoch : ℕ
  pub shape : ℕ
  pub sets : List (List ℕ)
  pub spans : List Span

-- ---- limits

-- shapes are 0 and 1; any other is unknown
abbrev pub last_shape : ℕ
last_shape = 1

abbrev pub set_limit : ℕ
set_limit = 4

abbrev pub sets_limit : ℕ
sets_limit = 16

abbrev pub ranges_limit : ℕ
ranges_limit = 8

-- ---- good

-- units of 1 to 8, each above the one before it
unfoldable pub rising : ℕ → List ℕ → Bool
rising low [] = true
rising low (u ∷ us) = ltb low u && leb u unit_limit && rising u us

-- 1 to 4 units, rising
unfoldable pub good_set : List ℕ → Bool
good_set us = leb 1 (length us) && leb (length us) set_limit && rising 0 us

unfoldable pub good_sets : List (List ℕ) → Bool
good_sets [] = true
good_sets (us ∷ sets) = good_set us && good_sets sets

-- starts strictly rising from low on and below 2^40, each range uses at least one set
unfoldable pub good_spans : ℕ → List Span → Bool
good_spans low [] = true
good_spans low (s ∷ ss) = leb low s.start && ltb s.start limit && leb 1 s.uses && good_spans (s.start + 1) ss

-- the first range starts at 0
unfoldable pub first_at_zero : List Span → Bool
first_at_zero [] = false
first_at_zero (s ∷ ss) = eqb s.start 0

-- how many sets the ranges use
unfoldable pub used : List Span → ℕ
used [] = 0
used (s ∷ ss) = s.uses + used ss

-- limits kept, epoch at least 1, shape known, sets good, first start 0, starts rising, the ranges use all sets
unfoldable pub good : Lay → Bool
good l =
    leb 1 l.epoch && leb l.epoch last_epoch
    && leb l.shape last_shape
    && leb (length l.sets) sets_limit && leb (length l.spans) ranges_limit
    && good_sets l.sets
    && first_at_zero l.spans && good_spans 0 l.spans
    && eqb (used l.spans) (length l.sets)

-- ---- the units of a layout

infix 60 ◌in?◌
unfoldable pub ◌in?◌ : ℕ → List ℕ → Bool
u in? [] = false
u in? (x ∷ xs) = eqb u x || (u in? xs)

unfoldable pub in_sets : ℕ → List (List ℕ) → Bool
in_sets u [] = false
in_sets u (us ∷ sets) = (u in? us) || in_sets u sets

-- of the n units from u on, those that stand in a set
unfoldable pub used_from : ℕ → ℕ → List (List ℕ) → List ℕ
used_from u zero sets = []
used_from u (suc n) sets = cond (in_sets u sets) (u ∷ used_from (suc u) n sets) (used_from (suc u) n sets)

-- all units of the layout, in rising number
unfoldable pub units_of : List (List ℕ) → List ℕ
units_of sets = used_from 1 unit_limit sets
