-- A lawful successor: the same shape, the same starts and set numbers, each old set replaced by a non-empty sublist of itself;
-- then at most one more range, starting above the last old start (docs/RULES.md, 5.4).
use Rattle.std.specs.Prelude.{ℕ, Bool, true, false, ◌&&◌, ◌||◌, cond, List, [], ◌∷◌, eqb, ltb, leb, length}
use Rattle.layout.specs.Lay.{Span, Lay}

unfoldable pub sublist : List ℕ → List ℕ → Bool
sublist [] ys = true
sublist (x ∷ xs) [] = false
sublist (x ∷ xs) (y ∷ ys) = cond (eqb x y) (sublist xs ys) (sublist (x ∷ xs) ys)

-- each old set is kept by a non-empty sublist; the sets behind them are the new range's
unfoldable pub keeps_sets : List (List ℕ) → List (List ℕ) → Bool
keeps_sets [] new = true
keeps_sets (o ∷ os) [] = false
keeps_sets (o ∷ os) (n ∷ ns) = leb 1 (length n) && sublist n o && keeps_sets os ns

-- the same starts and numbers of sets, then at most one range above `last`, the last old start
unfoldable pub keeps_spans : ℕ → List Span → List Span → Bool
keeps_spans last [] [] = true
keeps_spans last [] (n ∷ []) = ltb last n.start
keeps_spans last [] (n ∷ m ∷ ms) = false
keeps_spans last (o ∷ os) [] = false
keeps_spans last (o ∷ os) (n ∷ ns) = eqb o.start n.start && eqb o.uses n.uses && keeps_spans o.start os ns

-- with no range more there is no set more
unfoldable pub lawful : Lay → Lay → Bool
lawful old new =
    eqb old.shape new.shape
    && keeps_spans 0 old.spans new.spans && keeps_sets old.sets new.sets
    && (ltb (length old.spans) (length new.spans) || eqb (length old.sets) (length new.sets))
