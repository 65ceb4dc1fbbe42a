use Rattle.std.proofs.Common.{take}
use Rattle.line.specs.Text.{hex_bytes}
use Rattle.line.specs.Put.{IsPut}
use Rattle.line.proofs.Line.put_hex.Given as goal

abbrev pub invariant-loop-b : goal.invariant-loop-b
invariant-loop-b l = IsPut l.initial.self (hex_bytes (take l.b-index l.bytes)) l.self
