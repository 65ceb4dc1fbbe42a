use native.Mathlib.Omega.{arith}
use Prim.Native.Nat.{◌<◌}
use mathlib.Core.Path.{◌≡◌, refl, ◌∙◌}
use lib.ListN.{length, get_or, drop}
use Rattle.layout.specs.Value.{padded}
use Rattle.layout.specs.Codec.{set_front}
use Rattle.layout.proofs.Padded.{length_padded}
use Rattle.layout.proofs.Stored.{copy_none, copy_more}
use Rattle.script.proofs.Copying.{copied_byte, past_byte, copied}
use Rattle.script.proofs.step.copy_counted.Goals as goal
use Rattle.script.proofs.step.copy_counted.Goals.{then-i-n, else-i-n}

pub loop-i-init : goal.loop-i-init
loop-i-init c = copy_none _ _ _

pub loop-i-preserved : goal.loop-i-preserved
loop-i-preserved c =
    let m = length c.args.out.now in
    let b = c.args.b.now in
    let i = c.loop-i.i in
    let here : i < m = omega arith in
    let byte : c.if-i-n.x ≡ get_or (padded m 0 (set_front (drop 2 b))) i 0 =
    elim c.if-i-n.branch [
      | then-i-n w ↦ w.x-is ∙ copied_byte b m c.from-n.result i _ here (c.from-n.ensures ∙ c.byte_at.ensures) w.byte_at-then-i-n.ensures w.if-i-n.true
      | else-i-n w ↦ w.x-is ∙ past_byte b m c.from-n.result i here (c.from-n.ensures ∙ c.byte_at.ensures) w.if-i-n.false
    ] in
    rw byte (copy_more c.loop-i.invariant (omega arith) (omega (arith, length_padded m 0 (set_front (drop 2 b)))))

pub returns : goal.returns
returns c =
    copied c.args.b.now (length c.args.out.now) c.args.out.now c.loop-i.i c.loop-i.out refl (omega arith) c.loop-i.invariant
