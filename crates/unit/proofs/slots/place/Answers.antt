-- `slots::place` meets its contract. The invariant and its steps are `Places`'s `Between`.
use Rattle.std.proofs.Common.{◌≡◌, ◌+◌, ◌-◌, ◌*◌, ◌/◌, ◌≤◌, length, ◌∙◌, arith}
use Rattle.unit.specs.Shape.{slot_size}
use Rattle.unit.proofs.Places.{between_all, between_wider, between_up, between_down, between_room, between_done}
use Rattle.unit.proofs.slots.place.Goals as goal
use Rattle.unit.proofs.slots.place.Goals.{then-word_at-p-2, else-word_at-p-2}

pub returns-then-count-eq0 : goal.returns-then-count-eq0
returns-then-count-eq0 c =
    let n : c.args.count ≤ 0 = omega arith in
    between_done (between_all c.args.cap c.args.mem.now c.args.count c.args.p) n

pub overflow_sub-count : goal.overflow_sub-count
overflow_sub-count c = omega arith

pub overflow_add-cap : goal.overflow_add-cap
overflow_add-cap c =
    let last : (c.args.count ≡ 0 → ⊥) → 24 + (c.args.count - 1) * slot_size c.args.cap + slot_size c.args.cap ≤ length c.args.mem.now =
    λ h. between_room (between_all c.args.cap c.args.mem.now c.args.count c.args.p) (c.args.count - 1) (omega arith) c.requires.0 in
    omega (arith, last c.if-count-eq0.false)

pub overflow_mul-count : goal.overflow_mul-count
overflow_mul-count c =
    let last : (c.args.count ≡ 0 → ⊥) → 24 + (c.args.count - 1) * slot_size c.args.cap + slot_size c.args.cap ≤ length c.args.mem.now =
    λ h. between_room (between_all c.args.cap c.args.mem.now c.args.count c.args.p) (c.args.count - 1) (omega arith) c.requires.0 in
    omega (arith, last c.if-count-eq0.false)

pub overflow_add-count : goal.overflow_add-count
overflow_add-count c =
    let last : (c.args.count ≡ 0 → ⊥) → 24 + (c.args.count - 1) * slot_size c.args.cap + slot_size c.args.cap ≤ length c.args.mem.now =
    λ h. between_room (between_all c.args.cap c.args.mem.now c.args.count c.args.p) (c.args.count - 1) (omega arith) c.requires.0 in
    omega (arith, last c.if-count-eq0.false)

pub word_at-requires : goal.word_at-requires
word_at-requires c =
    let last : (c.args.count ≡ 0 → ⊥) → 24 + (c.args.count - 1) * slot_size c.args.cap + slot_size c.args.cap ≤ length c.args.mem.now =
    λ h. between_room (between_all c.args.cap c.args.mem.now c.args.count c.args.p) (c.args.count - 1) (omega arith) c.requires.0 in
    omega (arith, last c.if-count-eq0.false)

pub returns-then-word_at-p : goal.returns-then-word_at-p
returns-then-word_at-p c =
    let k = c.args.count - 1 in
    let b = between_up (between_all c.args.cap c.args.mem.now c.args.count c.args.p) c.requires.1 k (24 + k * slot_size c.args.cap) c.word_at.result
    (omega arith) (omega arith) c.word_at.ensures c.if-word_at-p.true in
    let n : c.args.count ≡ k + 1 = omega arith in
    n ∙ between_done b (omega arith)

pub loop-size-init : goal.loop-size-init
loop-size-init c =
    let k = c.args.count - 1 in
    between_wider
    (between_down (between_all c.args.cap c.args.mem.now c.args.count c.args.p) k (24 + k * slot_size c.args.cap) c.word_at.result
    (omega arith) (omega arith) c.word_at.ensures c.if-word_at-p.false)
    0 (0 + c.args.count - 1) (omega arith) (omega arith) (omega arith)

pub overflow_add-low : goal.overflow_add-low
overflow_add-low c = omega arith

pub overflow_sub-low : goal.overflow_sub-low
overflow_sub-low c = omega arith

pub overflow_add-cap-in-loop-size : goal.overflow_add-cap-in-loop-size
overflow_add-cap-in-loop-size c =
    let room : 24 + (c.loop-size.low + c.loop-size.size / 2 - 1) * slot_size c.args.cap + slot_size c.args.cap ≤ length c.args.mem.now =
    between_room c.loop-size.invariant (c.loop-size.low + c.loop-size.size / 2 - 1) (omega arith) c.requires.0 in
    omega (arith, room)

pub overflow_mul-low : goal.overflow_mul-low
overflow_mul-low c =
    let room : 24 + (c.loop-size.low + c.loop-size.size / 2 - 1) * slot_size c.args.cap + slot_size c.args.cap ≤ length c.args.mem.now =
    between_room c.loop-size.invariant (c.loop-size.low + c.loop-size.size / 2 - 1) (omega arith) c.requires.0 in
    omega (arith, room)

pub overflow_add-low-in-loop-size : goal.overflow_add-low-in-loop-size
overflow_add-low-in-loop-size c =
    let room : 24 + (c.loop-size.low + c.loop-size.size / 2 - 1) * slot_size c.args.cap + slot_size c.args.cap ≤ length c.args.mem.now =
    between_room c.loop-size.invariant (c.loop-size.low + c.loop-size.size / 2 - 1) (omega arith) c.requires.0 in
    omega (arith, room)

pub word_at-requires-in-loop-size : goal.word_at-requires-in-loop-size
word_at-requires-in-loop-size c =
    let room : 24 + (c.loop-size.low + c.loop-size.size / 2 - 1) * slot_size c.args.cap + slot_size c.args.cap ≤ length c.args.mem.now =
    between_room c.loop-size.invariant (c.loop-size.low + c.loop-size.size / 2 - 1) (omega arith) c.requires.0 in
    omega (arith, room)

pub overflow_add-low-then-word_at-p-2 : goal.overflow_add-low-then-word_at-p-2
overflow_add-low-then-word_at-p-2 c = omega arith

pub overflow_sub-size : goal.overflow_sub-size
overflow_sub-size c = omega arith

pub loop-size-smaller : goal.loop-size-smaller
loop-size-smaller c = omega arith

pub loop-size-preserved : goal.loop-size-preserved
loop-size-preserved c =
    let half = c.loop-size.size / 2 in
    let k = c.loop-size.low + half - 1 in
    elim c.if-word_at-p-2.branch [
      | then-word_at-p-2 w ↦ rw w.low-is
          (between_wider
          (between_up c.loop-size.invariant c.requires.1 k (24 + k * slot_size c.args.cap) c.word_at-in-loop-size.result (omega arith) (omega arith) c.word_at-in-loop-size.ensures w.if-word_at-p-2.true)
          (c.loop-size.low + half) (c.loop-size.low + half + (c.loop-size.size - half) - 1) (omega arith) (omega arith) (omega arith))
      | else-word_at-p-2 w ↦ rw w.low-is
          (between_wider
          (between_down c.loop-size.invariant k (24 + k * slot_size c.args.cap) c.word_at-in-loop-size.result (omega arith) (omega arith) c.word_at-in-loop-size.ensures w.if-word_at-p-2.false)
          c.loop-size.low (c.loop-size.low + (c.loop-size.size - half) - 1) (omega arith) (omega arith) (omega arith))
    ]

pub returns : goal.returns
returns c = between_done c.loop-size.invariant (omega arith)
