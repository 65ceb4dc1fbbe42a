use Rattle.num.specs.Edges.{no_edges}
use Rattle.num.proofs.Numbers.{Bytes}
use Rattle.std.proofs.Common.{refl, sym, arith}
use Rattle.std.proofs.lemmas.Result.{err_from_is_err_and}
use Rattle.unit.specs.Shape.{shape_of}
use Rattle.unit.proofs.Answers.{after_read}
use Rattle.unit.proofs.Encoding.{encode_decode}
use Rattle.rule.specs.Serve.{unit_says, unit_after}
use Rattle.yard.proofs.Doing.{answered_on, sealed_on}
use Rattle.yard.proofs.Serving.{passed_saying, passed_edges}
use Rattle.yard.proofs.unit_request.ask_unit.Goals as goal

pub returns-in_err-write-in-Write : goal.returns-in_err-write-in-Write
unfolding unit_says unit_after
returns-in_err-write-in-Write c =
    let bytes : Bytes c.args.mem.now = assumption in
    rw (c.in-Write.is, ← c.offered-kind.ensures.0, ← c.offered-kind.ensures.1, passed_saying (err_from_is_err_and _ c.from_residual.ensures.1)) (answered_on c.args.mem.now bytes c.requires refl c.in_err-write-in-Write.ensures c.type_inv.mem)

pub returns-in_ok-write-in-Write : goal.returns-in_ok-write-in-Write
unfolding unit_says unit_after
returns-in_ok-write-in-Write c =
    let bytes : Bytes c.args.mem.now = assumption in
    rw (c.in-Write.is, ← c.offered-kind.ensures.0, ← c.offered-kind.ensures.1, c.bare.ensures) (answered_on c.args.mem.now bytes c.requires refl c.in_ok-write-in-Write.ensures c.type_inv.mem)

pub returns-in_err-trim-in-Trim : goal.returns-in_err-trim-in-Trim
unfolding unit_says unit_after
returns-in_err-trim-in-Trim c =
    let bytes : Bytes c.args.mem.now = assumption in
    rw (c.in-Trim.is, passed_saying (err_from_is_err_and _ c.from_residual-in_err-trim-in-Trim.ensures.1)) (answered_on c.args.mem.now bytes c.requires refl c.in_err-trim-in-Trim.ensures c.type_inv.mem)

pub returns-in_ok-trim-in-Trim : goal.returns-in_ok-trim-in-Trim
unfolding unit_says unit_after
returns-in_ok-trim-in-Trim c =
    let bytes : Bytes c.args.mem.now = assumption in
    rw (c.in-Trim.is, c.bare-in-Trim.ensures) (answered_on c.args.mem.now bytes c.requires refl c.in_ok-trim-in-Trim.ensures c.type_inv.mem)

pub returns-in_err-prune-in-Prune : goal.returns-in_err-prune-in-Prune
unfolding unit_says unit_after
returns-in_err-prune-in-Prune c =
    let bytes : Bytes c.args.mem.now = assumption in
    rw (c.in-Prune.is, passed_saying (err_from_is_err_and _ c.from_residual-in_err-prune-in-Prune.ensures.1)) (answered_on c.args.mem.now bytes c.requires refl c.in_err-prune-in-Prune.ensures c.type_inv.mem)

pub returns-in_ok-prune-in-Prune : goal.returns-in_ok-prune-in-Prune
unfolding unit_says unit_after
returns-in_ok-prune-in-Prune c =
    let bytes : Bytes c.args.mem.now = assumption in
    rw (c.in-Prune.is, c.bare-in-Prune.ensures) (answered_on c.args.mem.now bytes c.requires refl c.in_ok-prune-in-Prune.ensures c.type_inv.mem)

pub returns-in-Read : goal.returns-in-Read
unfolding unit_says unit_after
returns-in-Read c =
    let bytes : Bytes c.args.mem.now = assumption in
    rw c.in-Read.is (record { response_is = c.shown.ensures; memory_is = sym (rw (after_read _ _ _ _) (encode_decode (shape_of c.args.mem.now) c.args.mem.now bytes c.requires)) })

pub returns-in_err-edges-in-Seal : goal.returns-in_err-edges-in-Seal
unfolding unit_says unit_after
returns-in_err-edges-in-Seal c =
    let bytes : Bytes c.args.mem.now = assumption in
    rw (c.in-Seal.is, passed_edges no_edges (err_from_is_err_and _ c.from_residual-in_err-edges-in-Seal.ensures.1)) (sealed_on c.args.mem.now bytes c.requires (omega arith) c.in_err-edges-in-Seal.ensures c.type_inv.mem)

pub returns-in_ok-edges-in-Seal : goal.returns-in_ok-edges-in-Seal
unfolding unit_says unit_after
returns-in_ok-edges-in-Seal c =
    let bytes : Bytes c.args.mem.now = assumption in
    rw (c.in-Seal.is, c.bare-in-Seal.ensures) (sealed_on c.args.mem.now bytes c.requires (omega arith) c.in_ok-edges-in-Seal.ensures c.type_inv.mem)
