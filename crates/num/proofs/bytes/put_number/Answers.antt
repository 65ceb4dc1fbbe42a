use mathlib.Core.Path.{◌∙◌, sym}
use native.Mathlib.Omega.{arith}
use Rattle.num.proofs.Numbers.{stored_past, stored_within}
use Rattle.num.proofs.bytes.put_number.Goals as goal

pub returns-then-bytes-width : goal.returns-then-bytes-width
returns-then-bytes-width c = stored_past _ _ _ _ (omega arith)

pub returns-then-bytes-width-2 : goal.returns-then-bytes-width-2
returns-then-bytes-width-2 c = stored_past _ _ _ _ (omega arith)

pub returns : goal.returns
returns c = c.store_within.ensures ∙ sym (stored_within _ _ _ _ (omega arith))
