use Rattle.std.proofs.Common.{◌≡◌, ℕ, List, length, sym, ◌∙◌, arith}
use Rattle.unit.specs.Shape.{Shape, memory_size, shape_of}
use Rattle.unit.proofs.Shapes.{Sized, sized}
use Rattle.unit.proofs.Goodness.{header_good, good_length, good_header_lem, good_slots_lem, slots_within}
use Rattle.unit.proofs.memory.is_good.Goals as goal

-- past the first test the memory is as long as a memory of its shape
whole : {sh : Shape} (m : List ℕ) → sh ≡ shape_of m → length m ≡ 6168 → length m ≡ memory_size sh
whole m is e = rw is (e ∙ sym (sized _).whole)

pub returns-then-mem-ne-SIZE : goal.returns-then-mem-ne-SIZE
returns-then-mem-ne-SIZE c = good_length _ _ (λ e. c.if-mem-ne-SIZE.true (e ∙ (sized _).whole))

pub good_header-requires : goal.good_header-requires
good_header-requires c =
    let fitting : Sized c.shape_of-sh.result =
    rw c.shape_of-sh.ensures (sized _) in
    (omega arith, omega (arith, fitting.room))

pub returns-then-not-good_header : goal.returns-then-not-good_header
returns-then-not-good_header c =
    rw (← c.shape_of-sh.ensures) (good_header_lem _ _ _ (whole _ c.shape_of-sh.ensures c.if-mem-ne-SIZE.false) c.good_header.ensures c.if-not-good_header.true)

pub good_slots-requires : goal.good_slots-requires
good_slots-requires c =
    let fitting : Sized c.shape_of-sh.result =
    rw c.shape_of-sh.ensures (sized _) in
    let m = c.args.mem.now in
    let h = header_good c.shape_of-sh.result m (sym c.good_header.ensures ∙ c.if-not-good_header.false) in
    let z = fitting in
    (slots_within c.shape_of-sh.result m (whole _ c.shape_of-sh.ensures c.if-mem-ne-SIZE.false) _ (rw c.pair_at.ensures h.count), rw c.word_at.ensures h.floor, z.four, z.page, z.lines)

pub returns : goal.returns
returns c =
    rw (← c.shape_of-sh.ensures)
    (good_slots_lem _ _ _ _ _ _ (whole _ c.shape_of-sh.ensures c.if-mem-ne-SIZE.false) c.good_header.ensures c.if-not-good_header.false
    c.pair_at.ensures c.word_at.ensures c.good_slots.ensures)
