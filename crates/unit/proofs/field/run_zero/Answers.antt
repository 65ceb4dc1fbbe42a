use Rattle.std.proofs.Common.{◌≡◌, ℕ, drop, ap, ◌∙◌, arith}
use Rattle.unit.specs.Zeros.{zeros}
use Rattle.unit.proofs.Fields.{tested_none, tested_more}
use Rattle.unit.proofs.field.run_zero.Goals as goal

pub loop-i-init : goal.loop-i-init
loop-i-init c = tested_none _ _

pub loop-i-preserved : goal.loop-i-preserved
loop-i-preserved c = tested_more c.loop-i.invariant (omega arith)

pub returns : goal.returns
returns c =
    let e : c.loop-i.i ≡ c.args.count = omega arith in
    c.loop-i.invariant.so ∙ ap (λ (n : ℕ). zeros n (drop c.args.at c.args.mem.now)) e
