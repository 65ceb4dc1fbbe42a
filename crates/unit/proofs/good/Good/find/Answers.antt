use Rattle.std.proofs.Common.{◌≤◌, sym, ap, arith}
use Rattle.unit.specs.State.{Slot}
use Rattle.unit.proofs.Shapes.{sized}
use Rattle.unit.proofs.Goodness.{is_good_lem, slots_within}
use Rattle.unit.proofs.Places.{placed, placed_within, placed_room, placed_at, placed_past, placed_other, placed_code}
use Rattle.unit.proofs.good.Good.find.Goals.{else-before-count-via-then-before-count+else-word_at-p, else-before-count-via-else-before-count}
use Rattle.unit.proofs.good.Good.find.Goals as goal

pub place-before-requires : goal.place-before-requires
place-before-requires c =
    let m = c.args.self.now in
    let g = is_good_lem m.shape m.mem.now m.is_good in
    (slots_within m.shape m.mem.now g.size _ (rw c.count-count.ensures g.header.count), rw c.count-count.ensures g.slots)

pub overflow_add-at : goal.overflow_add-at
overflow_add-at c =
    let short : c.args.self.now.shape.cap ≤ 255 = rw c.args.self.now.named (sized _).cap in
    omega arith

pub overflow_mul-at : goal.overflow_mul-at
overflow_mul-at c =
    let f = placed _ _ c.args.p _ _ c.args.self.now.is_good c.count-count.ensures c.place-before.ensures in
    omega (arith, placed_within f)

pub overflow_add-at-2 : goal.overflow_add-at-2
overflow_add-at-2 c =
    let f = placed _ _ c.args.p _ _ c.args.self.now.is_good c.count-count.ensures c.place-before.ensures in
    omega (arith, placed_within f)

pub word_at-requires : goal.word_at-requires
word_at-requires c =
    let f = placed _ _ c.args.p _ _ c.args.self.now.is_good c.count-count.ensures c.place-before.ensures in
    omega (arith, placed_room f c.if-before-count.true)

pub overflow_add-at-then-word_at-p : goal.overflow_add-at-then-word_at-p
overflow_add-at-then-word_at-p c =
    let f = placed _ _ c.args.p _ _ c.args.self.now.is_good c.count-count.ensures c.place-before.ensures in
    omega (arith, placed_room f c.if-before-count.true)

pub bounds-self-at : goal.bounds-self-at
bounds-self-at c =
    let f = placed _ _ c.args.p _ _ c.args.self.now.is_good c.count-count.ensures c.place-before.ensures in
    omega (arith, placed_room f c.if-before-count.true)

pub returns-then-word_at-p : goal.returns-then-word_at-p
returns-then-word_at-p c =
    let f = placed _ _ c.args.p _ _ c.args.self.now.is_good c.count-count.ensures c.place-before.ensures in
    (placed_at f, placed_code f _ _ c.if-before-count.true c.word_at.ensures c.if-word_at-p.true c.of.ensures)

pub returns : goal.returns
returns c =
    let f = placed _ _ c.args.p _ _ c.args.self.now.is_good c.count-count.ensures c.place-before.ensures in (
      placed_at f,
      elim c.else-before-count.branch [
        | else-before-count-via-then-before-count+else-word_at-p w ↦ sym (ap (λ (s : Slot). s.kind) (placed_other f _ w.if-before-count.true w.word_at.ensures w.if-word_at-p.false))
        | else-before-count-via-else-before-count w ↦ sym (ap (λ (s : Slot). s.kind) (placed_past f w.if-before-count.false))
      ],
    )
