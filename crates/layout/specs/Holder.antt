-- The layout holder: it installs a lawful successor only with held epoch plus 1, so two reorganisers cannot both win (docs/RULES.md, 6).
use Rattle.std.specs.Prelude.{ℕ, ◌+◌, ◌&&◌, not, cond, List, [], ◌∷◌, eqb, Result}
use Rattle.num.specs.declared.refusal.Refusal.{Refusal}
use Rattle.num.specs.Refusals.{answered, given}
use Rattle.num.specs.Checks.{Check, lowest, ◌if◌}
use Rattle.layout.specs.declared.Layout.{Layout}
use Rattle.layout.specs.Value.{lay_of, good_value, blank}
use Rattle.layout.specs.Successor.{lawful}

-- 10: either layout is not good; 11: the offered epoch is not the held one plus 1; 12: not a lawful successor
abbrev pub offer_checks : Layout → Layout → List Check
offer_checks held offered =
    10 if not (good_value held && good_value offered)
    ∷ 11 if not (eqb offered.epoch.0 (held.epoch.0 + 1))
    ∷ 12 if not (lawful (lay_of held) (lay_of offered))
    ∷ []

unfoldable pub offer_answer : Layout → Layout → ℕ
offer_answer held offered = lowest (offer_checks held offered)

-- an answer, and what is held afterwards
pub record Offered : Type 0 where
  pub answer : ℕ
  pub held : Layout

abbrev pub offered_in : {A : Type 0} → Result A Refusal → Layout → Offered
offered_in r held = record { answer = answered r; held = held }

-- the offered layout is installed where it is fine; otherwise the held one stays
unfoldable pub offered_to : Layout → Layout → Offered
offered_to held offered = record {
  answer = offer_answer held offered;
  held = cond (eqb (offer_answer held offered) 0) offered held;
}

-- an answer, and the held layout
pub record Fetched : Type 0 where
  pub answer : ℕ
  pub layout : Layout

abbrev pub fetched_in : Result Layout Refusal → Fetched
fetched_in r = record { answer = answered r; layout = given blank r }

-- the held layout; none where it is not good
unfoldable pub fetched_from : Layout → Fetched
fetched_from held = record {
  answer = lowest (10 if not (good_value held) ∷ []);
  layout = cond (good_value held) held blank;
}
