use mathlib.Core.Path.{◌∙◌}
use Rattle.desk.proofs.Telling.{offer_answered}
use Rattle.desk.proofs.layout_offer.Goals as goal

pub returns : goal.returns
returns c =
    record { answer_is = c.number_of.ensures ∙ offer_answered _ _ _ _ _ c.layout_in-holds.ensures c.layout_in.ensures c.offer.ensures }
