use Rattle.std.proofs.Common.{◌≡◌, drop}
use Rattle.rule.specs.Lent.{good_clients}
use Rattle.yard.proofs.decide.good_clients.Given as goal

-- those passed hold good layouts
abbrev pub invariant-loop-client : goal.invariant-loop-client
invariant-loop-client l = good_clients (drop l.client-index l.fn.clients) ≡ good_clients l.fn.clients
