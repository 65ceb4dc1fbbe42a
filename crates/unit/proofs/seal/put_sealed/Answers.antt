use Rattle.std.proofs.Common.{◌∙◌, arith}
use Rattle.num.proofs.Numbers.{Bytes}
use Rattle.unit.proofs.Goodness.{is_good_lem}
use Rattle.unit.proofs.Sealing.{seal_bytes}
use Rattle.unit.proofs.seal.put_sealed.Goals as goal

pub put_number-requires : goal.put_number-requires
put_number-requires c =
    omega (arith, is_good_lem _ _ c.requires)

pub returns : goal.returns
returns c =
    let bytes : Bytes c.args.mem.now = assumption in
    c.put_number.ensures ∙ seal_bytes c.args.sh c.args.mem.now c.args.n bytes c.requires
