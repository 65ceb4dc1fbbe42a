use Rattle.std.proofs.Common.{ℕ, sym, ◌∙◌, arith, length-drop}
use Rattle.layout.proofs.Sublist.{sublist_end}
use Rattle.layout.proofs.successor.sublist.Goals as goal

pub returns : goal.returns
returns c = c.is_empty.ensures ∙ sym (sublist_end c.loop-unit.rest.now _ (omega (arith, length-drop {A = ℕ}))) ∙ c.loop-unit.invariant
