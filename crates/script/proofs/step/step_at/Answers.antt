use Prim.Native.Nat.{◌<◌}
use mathlib.Core.Path.{sym, ap, ◌∙◌}
use native.Mathlib.Omega.{arith}
use lib.ListN.{length}
use Rattle.script.specs.Steps.{got_at}
use Rattle.script.proofs.Tags.{behind_part, got_past}
use Rattle.script.proofs.step.step_at.Goals as goal

pub returns-in_err-get : goal.returns-in_err-get
returns-in_err-get c =
    let past : length c.args.file.now < c.args.at = omega (arith, c.in_err-get.ensures.lookup) in
    c.from_residual.ensures ∙ sym (got_past c.args.file.now c.args.at past)

pub returns : goal.returns
returns c = c.front.ensures ∙ ap got_at (c.in_ok-get.ensures.lookup.0.2 ∙ behind_part c.args.file.now c.args.at)
