use mathlib.Core.Path.{◌∙◌, sym}
use native.Mathlib.Omega.{arith}
use Rattle.num.proofs.Numbers.{number_wide, number_past, number_within}
use Rattle.num.proofs.bytes.number_at.Goals as goal

pub returns-then-width-gt8 : goal.returns-then-width-gt8
returns-then-width-gt8 c = number_wide _ _ _ (omega arith)

pub returns-then-bytes-width : goal.returns-then-bytes-width
returns-then-bytes-width c = number_past _ _ _ (omega arith)

pub returns-then-bytes-width-2 : goal.returns-then-bytes-width-2
returns-then-bytes-width-2 c = number_past _ _ _ (omega arith)

pub returns : goal.returns
returns c = c.number_within.ensures ∙ sym (number_within _ _ _ (omega arith) (omega arith))
