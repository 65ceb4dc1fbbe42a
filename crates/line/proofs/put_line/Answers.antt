use native.Mathlib.Omega.{arith}
use lib.ListN.{length}
use mathlib.Core.Path.{◌≡◌, ◌∙◌}
use Rattle.line.specs.Line.{line_of}
use Rattle.line.proofs.Sizes.{Bounded, line_few}
use Rattle.line.proofs.Fitting.{line_past, line_within, mid_sets}
use Rattle.line.proofs.put_line.Goals as goal

pub put_all-requires : goal.put_all-requires
put_all-requires c =
    let o = c.args.outcome in
    let room : length o.page.bytes ≡ 80 = omega arith in
    let bounded : Bounded o = record { number = omega arith; position = omega arith; epoch = omega arith; kind = omega arith; sent = omega arith; bytes = omega arith } in
    omega (arith, line_few c.args.who o (omega arith) bounded c.args.number c.args.answer (omega arith) (omega arith))

pub returns-in_err-end : goal.returns-in_err-end
returns-in_err-end c =
    let a = c.args in
    rw c.from_residual.ensures (line_past a.out.now a.at a.number a.answer a.who a.outcome (omega (arith, c.in_err-end.ensures, c.put_all.ensures.count_is)))

pub returns-then-out-end : goal.returns-then-out-end
returns-then-out-end c =
    let a = c.args in
    line_past a.out.now a.at a.number a.answer a.who a.outcome (omega (arith, c.in_ok-end.ensures, c.put_all.ensures.count_is))

pub returns : goal.returns
returns c =
    let a = c.args in
    let text = line_of a.number a.answer a.who a.outcome in
    let fits = c.in_ok-end.ensures in
    let held : c.copy_from_slice.new.self ≡ text = c.copy_from_slice.ensures.after ∙ c.put_all.ensures.held_is in
    line_within a.out.now a.at a.number a.answer a.who a.outcome _ _ (omega (arith, c.put_all.ensures.count_is)) (omega (arith, fits)) (mid_sets a.out.now a.at _ text _ held (omega (arith, fits, c.put_all.ensures.count_is)) (omega (arith, fits, c.put_all.ensures.count_is)))
