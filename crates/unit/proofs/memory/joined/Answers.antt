-- `memory::joined` meets its contract, by the laws of `Words`.
use Rattle.std.proofs.Common.{◌≡◌, ℕ, ◌+◌, ◌-◌, Bool, List, length, drop, sym, refl, ap, ◌∙◌, arith}
use Rattle.unit.specs.Zeros.{zeros}
use Rattle.unit.proofs.Words.{rest_none, rest_six, ruler_length}
use Rattle.unit.proofs.memory.joined.Goals as goal

-- of the bytes of `size` those behind the first n are zero
abbrev clear : ℕ → ℕ → List ℕ → ℕ → Bool
clear k at m size = zeros (size - (128 - k)) (drop (at + (128 - k)) m)

pub returns-then-size-eq0 : goal.returns-then-size-eq0
returns-then-size-eq0 c =
    rest_none (128 - c.args.k) c.args.at c.args.mem.now ∙ ap (clear c.args.k c.args.at c.args.mem.now) (sym c.if-size-eq0.true)

pub masked-requires : goal.masked-requires
masked-requires c =
    let ruled : length c.args.full.now ≡ 208 =
    ap length c.requires.1 ∙ ruler_length in
    let sized : (c.args.size ≡ 0 → ⊥) → c.args.size ≡ 48 =
    λ n. omega arith in
    (omega (arith, sized c.if-size-eq0.false), omega (arith, sized c.if-size-eq0.false, ruled))

pub masked-requires-2 : goal.masked-requires-2
masked-requires-2 c =
    let ruled : length c.args.full.now ≡ 208 =
    ap length c.requires.1 ∙ ruler_length in
    let sized : (c.args.size ≡ 0 → ⊥) → c.args.size ≡ 48 =
    λ n. omega arith in
    (omega (arith, sized c.if-size-eq0.false), omega (arith, sized c.if-size-eq0.false, ruled))

pub masked-requires-3 : goal.masked-requires-3
masked-requires-3 c =
    let ruled : length c.args.full.now ≡ 208 =
    ap length c.requires.1 ∙ ruler_length in
    let sized : (c.args.size ≡ 0 → ⊥) → c.args.size ≡ 48 =
    λ n. omega arith in
    (omega (arith, sized c.if-size-eq0.false), omega (arith, sized c.if-size-eq0.false, ruled))

pub masked-requires-4 : goal.masked-requires-4
masked-requires-4 c =
    let ruled : length c.args.full.now ≡ 208 =
    ap length c.requires.1 ∙ ruler_length in
    let sized : (c.args.size ≡ 0 → ⊥) → c.args.size ≡ 48 =
    λ n. omega arith in
    (omega (arith, sized c.if-size-eq0.false), omega (arith, sized c.if-size-eq0.false, ruled))

pub masked-requires-5 : goal.masked-requires-5
masked-requires-5 c =
    let ruled : length c.args.full.now ≡ 208 =
    ap length c.requires.1 ∙ ruler_length in
    let sized : (c.args.size ≡ 0 → ⊥) → c.args.size ≡ 48 =
    λ n. omega arith in
    (omega (arith, sized c.if-size-eq0.false), omega (arith, sized c.if-size-eq0.false, ruled))

pub masked-requires-6 : goal.masked-requires-6
masked-requires-6 c =
    let ruled : length c.args.full.now ≡ 208 =
    ap length c.requires.1 ∙ ruler_length in
    let sized : (c.args.size ≡ 0 → ⊥) → c.args.size ≡ 48 =
    λ n. omega arith in
    (omega (arith, sized c.if-size-eq0.false), omega (arith, sized c.if-size-eq0.false, ruled))

pub returns : goal.returns
returns c =
    let sized : (c.args.size ≡ 0 → ⊥) → c.args.size ≡ 48 =
    λ n. omega arith in
    rest_six (128 - c.args.k) c.args.at c.args.mem.now c.args.full.now c.type_inv.mem c.requires.1
    c.args.k refl (omega (arith, sized c.if-size-eq0.false)) _ _ _ _ _ _
    c.masked.ensures c.masked-2.ensures c.masked-3.ensures
    c.masked-4.ensures c.masked-5.ensures c.masked-6.ensures
    ∙ ap (clear c.args.k c.args.at c.args.mem.now) (sym (sized c.if-size-eq0.false))
