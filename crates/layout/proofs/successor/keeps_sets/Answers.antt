use Rattle.std.proofs.Common.{sym, ◌∙◌, arith, length-drop}
use Rattle.std.proofs.lemmas.List.{length-map}
use Rattle.layout.proofs.Keeps.{sets_short}
use Rattle.layout.proofs.successor.keeps_sets.Goals as goal

pub returns-in_default : goal.returns-in_default
returns-in_default c = sym (sets_short _ _ (simp (length-map, length-drop) (omega arith)) (simp length-map c.in_default.len_below)) ∙ c.loop-o.invariant
