use native.Mathlib.Omega.{arith}
use Rattle.line.specs.Line.{page_text}
use Rattle.line.proofs.Putting.{put_both}
use Rattle.line.proofs.Sizes.{page_size, payload_is}
use Rattle.line.proofs.Line.put_page.Goals as goal

pub put_word-requires : goal.put_word-requires
put_word-requires c = rw c.from-2.ensures (omega (arith, page_size c.args.page))

pub put-requires : goal.put-requires
put-requires c = omega (arith, rw c.from-2.ensures at c.put_word.ensures.count_is, page_size c.args.page)

pub put_hex-requires : goal.put_hex-requires
put_hex-requires c =
    let p = c.args.page in
    rw (payload_is p c.min-n.result (omega arith) (omega arith)) (omega (arith, rw c.from-2.ensures at c.put_word.ensures.count_is, page_size p))

pub returns : goal.returns
unfolding page_text
returns c =
    let p = c.args.page in
    put_both (rw c.from-2.ensures at c.put_word.ensures) (put_both c.put.ensures (rw (payload_is p c.min-n.result (omega arith) (omega arith)) at c.put_hex.ensures))
