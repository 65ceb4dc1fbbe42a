-- The bag of letters in a lent table: what taking, putting and dropping give, for every table and every place.
use Rattle.std.specs.Prelude.{ℕ, suc, zero, ◌&&◌, cond, List, [], ◌∷◌, length, get_or, set, leb, ltb}
use Rattle.rule.specs.declared.Letter.{Letter}
use Rattle.rule.specs.World.{blank_letter}

-- the letter at a place, and the blank letter past the end
abbrev pub take_at : List Letter → ℕ → Letter
take_at ls i = get_or ls i blank_letter

-- a letter at a place; past the end nothing changes
abbrev pub put_at : List Letter → ℕ → Letter → List Letter
put_at ls n l = set ls n l

-- n followers move up one place, and the place that their last leaves behind becomes blank
unfoldable pub move_up : List Letter → ℕ → List Letter
move_up ls zero = blank_letter ∷ ls
move_up [] (suc n) = blank_letter ∷ []
move_up (l ∷ ls) (suc n) = l ∷ move_up ls n

-- of the first n letters the one at i is gone
unfoldable pub close_up : List Letter → ℕ → ℕ → List Letter
close_up [] n i = []
close_up (l ∷ ls) zero i = l ∷ ls
close_up (l ∷ ls) (suc n) zero = move_up ls n
close_up (l ∷ ls) (suc n) (suc i) = l ∷ close_up ls n i

-- where there is no such letter, nothing changes
abbrev pub drop_at : List Letter → ℕ → ℕ → List Letter
drop_at ls n i = cond (leb n (length ls) && ltb i n) (close_up ls n i) ls

-- the first n places blank, or all where there are fewer
unfoldable pub blanked : List Letter → ℕ → List Letter
blanked [] n = []
blanked (l ∷ ls) zero = l ∷ ls
blanked (l ∷ ls) (suc n) = blank_letter ∷ blanked ls n
