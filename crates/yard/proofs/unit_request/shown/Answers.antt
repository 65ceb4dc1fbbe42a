use Rattle.std.proofs.Common.{arith}
use Rattle.std.proofs.lemmas.Result.{err_from_is_err_and}
use Rattle.unit.specs.Unit.Request.{read}
use Rattle.rule.specs.Serve.{page_shown, page_of}
use Rattle.yard.proofs.Doing.{read_on, tells, payload_short, kind_byte}
use Rattle.yard.proofs.Serving.{passed_reply, refused_case}
use Rattle.yard.proofs.unit_request.shown.Goals as goal

pub returns-in_err-seen : goal.returns-in_err-seen
unfolding page_shown
returns-in_err-seen c =
    rw (passed_reply (err_from_is_err_and _ c.from_residual.ensures.1), ← read_on c.args.mem.now c.type_inv.mem c.requires c.in_err-seen.ensures, refused_case)

pub overflow_cast-result : goal.overflow_cast-result
overflow_cast-result c = let a = c.args in record { fits = rw c.payload-part.ensures.payload_is (omega (arith, payload_short a.mem.now a.epoch a.p)) }

pub returns : goal.returns
unfolding page_shown page_of
returns c =
    let a = c.args in
    let w = c.in_ok-seen.ensures in
    rw (
      ← read_on a.mem.now c.type_inv.mem c.requires w,
      c.bare.ensures,
      c.padded.ensures,
      c.payload-part.ensures.payload_is,
      kind_byte c.in_ok-seen.seen.kind,
      w.kind_is,
      tells a.mem.now c.type_inv.mem c.requires (read a.epoch a.p),
    )
