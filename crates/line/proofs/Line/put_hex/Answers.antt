use Rattle.std.proofs.Common.{◌≡◌, ◌*◌, ◌≤◌, arith, rules, length, take, take_all, length-take}
use Rattle.line.specs.Text.{hex_byte, hex_bytes, hex_text}
use Rattle.line.proofs.Hex.{text_none, text_of, hex_length, hex_more}
use Rattle.line.proofs.Putting.{put_none, put_both}
use Rattle.line.proofs.Line.put_hex.Goals as goal

pub put-requires : goal.put-requires
put-requires c = rw (text_none c.args.bytes.now (search rules)) at c.requires

pub returns-then-is_empty : goal.returns-then-is_empty
returns-then-is_empty c = rw (text_none c.args.bytes.now (search rules)) c.put.ensures

pub put-requires-in-loop-b : goal.put-requires-in-loop-b
put-requires-in-loop-b c =
    let bs = c.args.bytes.now in
    let i = c.loop-b.b-index in
    let long : length (hex_text bs) ≡ 2 * length bs = rw (text_of bs (search rules)) (hex_length bs) in
    omega (arith, long, hex_length (take i bs), length-take i bs)

pub loop-b-init : goal.loop-b-init
unfolding hex_bytes
loop-b-init c = put_none _ (omega arith)

pub loop-b-preserved : goal.loop-b-preserved
unfolding hex_byte
loop-b-preserved c = rw (hex_more c.args.bytes.now c.loop-b.b-index (search rules)) (put_both c.loop-b.invariant (rw (c.hex_digit.ensures, c.hex_digit-in-loop-b.ensures) at c.put-in-loop-b.ensures))

pub returns : goal.returns
returns c =
    let all : length c.args.bytes.now ≤ c.loop-b.b-index = omega arith in
    rw (text_of c.args.bytes.now (search rules)) (rw take_all at c.loop-b.invariant)
