use Rattle.std.proofs.Common.{◌+◌, ◌-◌, ◌*◌, refl, ◌∙◌, arith}
use Rattle.unit.specs.Shape.{slot_size}
use Rattle.unit.proofs.Goodness.{last_within}
use Rattle.unit.proofs.Sealing.{behind_none, behind_last, slot_below}
use Rattle.unit.proofs.good.Good.edge_behind.Goals as goal

pub returns-then-n-eq0 : goal.returns-then-n-eq0
returns-then-n-eq0 c =
    let m = c.args.self.now in
    c.floor.ensures ∙ behind_none m.shape m.mem.now c.args.n c.if-n-eq0.true

pub overflow_add-at : goal.overflow_add-at
overflow_add-at c = let m = c.args.self.now in omega (arith, m.whole, last_within m.shape m.mem.now c.args.n m.is_good c.requires c.if-n-eq0.false)

pub overflow_mul-at : goal.overflow_mul-at
overflow_mul-at c = let m = c.args.self.now in omega (arith, m.whole, last_within m.shape m.mem.now c.args.n m.is_good c.requires c.if-n-eq0.false)

pub overflow_add-at-2 : goal.overflow_add-at-2
overflow_add-at-2 c = let m = c.args.self.now in omega (arith, m.whole, last_within m.shape m.mem.now c.args.n m.is_good c.requires c.if-n-eq0.false)

pub word_at-requires : goal.word_at-requires
word_at-requires c = let m = c.args.self.now in omega (arith, last_within m.shape m.mem.now c.args.n m.is_good c.requires c.if-n-eq0.false)

pub overflow_add-word_at : goal.overflow_add-word_at
overflow_add-word_at c =
    let m = c.args.self.now in
    let n = c.args.n in
    let l = slot_below m.shape m.mem.now (n - 1) (24 + (n - 1) * slot_size m.shape.cap) m.is_good (omega (arith, c.requires, c.if-n-eq0.false)) refl in
    omega (arith, l, c.word_at.ensures)

pub returns : goal.returns
returns c =
    let m = c.args.self.now in
    let n = c.args.n in
    c.max.ensures ∙ rw c.floor-2.ensures (behind_last m.shape m.mem.now n (24 + (n - 1) * slot_size m.shape.cap) _ (omega (arith, c.if-n-eq0.false)) refl c.word_at.ensures)
