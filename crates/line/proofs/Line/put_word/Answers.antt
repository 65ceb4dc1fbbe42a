use native.Mathlib.Omega.{arith}
use Rattle.line.specs.Text.{word}
use Rattle.line.proofs.Putting.{put_both}
use Rattle.line.proofs.Sizes.{word_size}
use Rattle.line.proofs.Line.put_word.Goals as goal

pub put-requires : goal.put-requires
put-requires c = omega (arith, word_size c.args.n)

pub put_decimal-requires : goal.put_decimal-requires
put_decimal-requires c = omega (arith, word_size c.args.n)

pub returns : goal.returns
unfolding word
returns c = put_both c.put.ensures c.put_decimal.ensures
