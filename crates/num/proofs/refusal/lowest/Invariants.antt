use Rattle.std.proofs.Common.{◌≡◌, drop}
use Rattle.num.specs.Refusals.{rows}
use Rattle.num.specs.Checks.{lowest}
use Rattle.num.proofs.refusal.lowest.Given as goal

-- the rows passed do not apply
abbrev pub invariant-loop-check : goal.invariant-loop-check
invariant-loop-check l = lowest (rows (drop l.check-index l.fn.checks)) ≡ lowest (rows l.fn.checks)
