use Rattle.std.proofs.Common.{sym, ◌∙◌, arith, length-drop}
use Rattle.std.proofs.lemmas.List.{length-map}
use Rattle.layout.proofs.Keeps.{spans_short}
use Rattle.layout.proofs.successor.keeps_spans.Goals as goal

pub returns-in_default : goal.returns-in_default
returns-in_default c = sym (spans_short _ _ _ (simp (length-map, length-drop) (omega arith)) (simp length-map c.in_default.len_below)) ∙ c.loop-o.invariant
