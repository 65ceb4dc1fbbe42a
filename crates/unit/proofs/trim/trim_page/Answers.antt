use Rattle.std.proofs.Common.{◌≡◌, Option, Some, sym, ap, ◌∙◌, arith}
use Rattle.num.proofs.Numbers.{Bytes}
use Rattle.unit.specs.declared.kind.Kind.{Kind}
use Rattle.unit.specs.Kinds.{no_kind, is_gone, held_code}
use Rattle.unit.specs.State.{State}
use Rattle.unit.specs.Memory.{encode}
use Rattle.unit.proofs.Goodness.{is_good_lem}
use Rattle.unit.proofs.Questions.{some_code}
use Rattle.unit.proofs.Encoding.{unchanged}
use Rattle.unit.proofs.Answers.{trim_below, trim_again, trim_new, trim_old, room_left}
use Rattle.unit.proofs.trim.trim_page.Goals as goal

pub word_at-floor-requires : goal.word_at-floor-requires
word_at-floor-requires c = omega (arith, is_good_lem _ _ c.requires.mem_value)

pub returns-then-p-floor : goal.returns-then-p-floor
returns-then-p-floor c =
    let bytes : Bytes c.args.mem.now = assumption in
    unchanged c.args.sh c.args.mem.now bytes c.requires.mem_value
    (trim_below c.args.sh c.args.mem.now c.args.p _ _ c.word_at-floor.ensures c.requires.at_value.1 c.if-p-floor.true)

pub insert_slot-requires : goal.insert_slot-requires
insert_slot-requires c =
    let z = sym c.requires.at_value.1 ∙ ap held_code c.in-None.is in
    let r = room_left c.args.sh c.args.mem.now c.args.p _ c.requires.mem_value_2 c.word_at-floor.ensures c.if-p-floor.false z in
    record { mem_value = c.requires.mem_value; at_value = (c.requires.at_value.0, c.requires.at_value.2, rw c.requires.at_value.2 r, omega arith, omega arith); p_value = z }

pub returns-in-None : goal.returns-in-None
returns-in-None c =
    c.insert_slot.ensures
    ∙ ap (λ (u : State). encode c.args.sh u) (sym (trim_new c.args.sh c.args.mem.now c.args.p _ _ c.word_at-floor.ensures c.requires.at_value.1 c.if-p-floor.false (ap held_code c.in-None.is)))

-- what stands there is some kind
some : (k : Kind) (o : Option Kind) → o ≡ Some k → held_code o ≡ no_kind → ⊥
some k o e z = some_code k (ap held_code (sym e) ∙ z)

pub retire_slot-requires : goal.retire_slot-requires
retire_slot-requires c = record { mem_value = c.requires.mem_value; at_value = (c.requires.at_value.0, λ z. some _ _ c.in-Some.is (c.requires.at_value.1 ∙ z)) }

pub returns-then-not-is_gone : goal.returns-then-not-is_gone
returns-then-not-is_gone c =
    let stays = ap is_gone (ap held_code c.in-Some.is) ∙ sym c.is_gone.ensures ∙ c.if-not-is_gone.true in
    c.retire_slot.ensures
    ∙ ap (λ (u : State). encode c.args.sh u) (sym (trim_old c.args.sh c.args.mem.now c.args.p _ _ c.word_at-floor.ensures c.requires.at_value.1 c.if-p-floor.false stays (some _ _ c.in-Some.is)))

pub returns-else-not-is_gone : goal.returns-else-not-is_gone
returns-else-not-is_gone c =
    let bytes : Bytes c.args.mem.now = assumption in
    let gone = ap is_gone (ap held_code c.in-Some.is) ∙ sym c.is_gone.ensures ∙ c.if-not-is_gone.false in
    unchanged c.args.sh c.args.mem.now bytes c.requires.mem_value
    (trim_again c.args.sh c.args.mem.now c.args.p _ _ c.word_at-floor.ensures c.requires.at_value.1 c.if-p-floor.false gone)
