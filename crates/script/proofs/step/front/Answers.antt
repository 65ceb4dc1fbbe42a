use native.Mathlib.Omega.{arith}
use mathlib.Core.Path.{◌∙◌}
use Rattle.script.proofs.Tags.{got_append, got_read, got_fill, got_trim, got_prune, got_reorganise, got_deliver, got_drop, got_stop, got_restart, got_give_up, got_forget, got_other}
use Rattle.script.proofs.step.front.Goals as goal

pub returns-in-1 : goal.returns-in-1
returns-in-1 c = c.append_at.ensures ∙ got_append c.args.b.now c.byte_at-tag.result c.byte_at-tag.ensures c.in-1.is

pub returns-in-2 : goal.returns-in-2
returns-in-2 c = c.seek_at.ensures ∙ got_read c.args.b.now c.byte_at-tag.result c.byte_at-tag.ensures c.number_at.result c.in-2.is c.number_at.ensures

pub returns-in-3 : goal.returns-in-3
returns-in-3 c = c.seek_at-in-3.ensures ∙ got_fill c.args.b.now c.byte_at-tag.result c.byte_at-tag.ensures c.number_at.result c.in-3.is c.number_at.ensures

pub returns-in-4 : goal.returns-in-4
returns-in-4 c = c.seek_at-in-4.ensures ∙ got_trim c.args.b.now c.byte_at-tag.result c.byte_at-tag.ensures c.number_at.result c.in-4.is c.number_at.ensures

pub returns-in-5 : goal.returns-in-5
returns-in-5 c = c.seek_at-in-5.ensures ∙ got_prune c.args.b.now c.byte_at-tag.result c.byte_at-tag.ensures c.number_at.result c.in-5.is c.number_at.ensures

pub returns-in-6 : goal.returns-in-6
returns-in-6 c = c.reorganise_at.ensures ∙ got_reorganise c.args.b.now c.byte_at-tag.result c.byte_at-tag.ensures c.in-6.is

pub returns-in-7 : goal.returns-in-7
returns-in-7 c = c.deliver_at.ensures ∙ got_deliver c.args.b.now c.byte_at-tag.result c.byte_at-tag.ensures c.in-7.is

pub returns-in-8 : goal.returns-in-8
returns-in-8 c = c.name_at.ensures ∙ got_drop c.args.b.now c.byte_at-tag.result c.byte_at-tag.ensures c.byte_at-who.result c.in-8.is c.byte_at-who.ensures

pub returns-in-9 : goal.returns-in-9
returns-in-9 c = c.name_at-in-9.ensures ∙ got_stop c.args.b.now c.byte_at-tag.result c.byte_at-tag.ensures c.byte_at-who.result c.in-9.is c.byte_at-who.ensures

pub returns-in-10 : goal.returns-in-10
returns-in-10 c = c.name_at-in-10.ensures ∙ got_restart c.args.b.now c.byte_at-tag.result c.byte_at-tag.ensures c.byte_at-who.result c.in-10.is c.byte_at-who.ensures

pub returns-in-11 : goal.returns-in-11
returns-in-11 c = c.name_at-in-11.ensures ∙ got_give_up c.args.b.now c.byte_at-tag.result c.byte_at-tag.ensures c.byte_at-who.result c.in-11.is c.byte_at-who.ensures

pub returns-in-12 : goal.returns-in-12
returns-in-12 c = (rw c.of.ensures at c.sized.ensures) ∙ got_forget c.args.b.now c.byte_at-tag.result c.byte_at-tag.ensures c.in-12.is

pub returns-in_default : goal.returns-in_default
returns-in_default c =
    got_other c.args.b.now c.byte_at-tag.result c.byte_at-tag.ensures (omega arith) (omega arith) (omega arith) (omega arith) (omega arith) (omega arith) (omega arith) (omega arith) (omega arith) (omega arith) (omega arith) (omega arith)
