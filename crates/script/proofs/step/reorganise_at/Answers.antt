use Rattle.std.proofs.Common.{inl, inr}
use Prim.Native.Nat.{◌+◌, ◌<◌}
use lib.ListN.{length, drop}
use native.Mathlib.Omega.{arith}
use mathlib.Core.Path.{◌≡◌, refl, ◌∙◌}
use Rattle.script.proofs.Tags.{behind_part, reorganise_short, reorganise_large, reorganise_many, reorganise_whole}
use Rattle.script.proofs.step.reorganise_at.Goals as goal
use Rattle.script.proofs.step.reorganise_at.Goals.{then-count-gt-DROPS-via-then-count-gt-DROPS, then-count-gt-DROPS-via-else-count-gt-DROPS+then-byte_at-gt-MOST}

pub returns-in_err-new : goal.returns-in_err-new
returns-in_err-new c =
    let short : length c.args.b.now < 3 + c.from-count.result = omega (arith, c.in_err-new.ensures.lookup) in
    c.from_residual.ensures ∙ reorganise_short c.args.b.now _ c.from-count.result (c.from-count.ensures ∙ c.byte_at.ensures) short

pub returns-in_err-size : goal.returns-in_err-size
returns-in_err-size c =
    let b = c.args.b.now in
    let behind : c.in_ok-new.new.now ≡ drop (3 + c.from-count.result) b = c.in_ok-new.ensures.lookup.0.2 ∙ behind_part b (3 + c.from-count.result) in
    c.from_residual-in_err-size.ensures ∙ reorganise_large b _ c.from-count.result (c.from-count.ensures ∙ c.byte_at.ensures) _ _ behind refl c.in_err-size.ensures

pub returns-then-count-gt-DROPS : goal.returns-then-count-gt-DROPS
returns-then-count-gt-DROPS c =
    let b = c.args.b.now in
    let behind : c.in_ok-new.new.now ≡ drop (3 + c.from-count.result) b = c.in_ok-new.ensures.lookup.0.2 ∙ behind_part b (3 + c.from-count.result) in
    elim c.then-count-gt-DROPS.branch [
      | then-count-gt-DROPS-via-then-count-gt-DROPS w ↦ reorganise_many b _ c.from-count.result (c.from-count.ensures ∙ c.byte_at.ensures) _ _ behind refl (inl w.if-count-gt-DROPS.true)
      | then-count-gt-DROPS-via-else-count-gt-DROPS+then-byte_at-gt-MOST w ↦
          reorganise_many b _ c.from-count.result (c.from-count.ensures ∙ c.byte_at.ensures) _ _ behind w.byte_at-else-count-gt-DROPS.ensures (inr w.if-byte_at-gt-MOST.true)
    ]

pub returns : goal.returns
returns c =
    let b = c.args.b.now in
    let behind : c.in_ok-new.new.now ≡ drop (3 + c.from-count.result) b = c.in_ok-new.ensures.lookup.0.2 ∙ behind_part b (3 + c.from-count.result) in
    (rw (c.reorganise-job.ensures, c.byte_at-2.ensures) at c.sized.ensures)
    ∙ reorganise_whole b _ c.from-count.result (c.from-count.ensures ∙ c.byte_at.ensures) _ _ behind c.byte_at-else-count-gt-DROPS.ensures c.in_ok-size.size c.change_at.result
    c.in_ok-size.ensures.0 c.change_at.ensures c.if-count-gt-DROPS.false c.if-byte_at-gt-MOST.false c.in_ok-size.ensures.1.0
