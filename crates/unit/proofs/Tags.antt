-- Laws of a slot's second word, of its kind, its length and six zeros: how the test of the used slots counts one that is not good, and takes the length out.
use Rattle.std.proofs.Common.{◌≡◌, ℕ, ◌+◌, ◌-◌, ◌*◌, ◌/◌, ◌%◌, ◌^◌, ◌<◌, ◌≤◌, Bool, true, false, ◌||◌, eqb, ltb, leb, sym, refl, ◌∙◌, le_trans, arith, ltb-false, ltb-true, lt-ltb, eqb-true, le-leb, leb-false, leb-true}
use borrow.Author.Tests.{lt-leb, eqb-false}
use Rattle.num.proofs.Tests.{false_true, and_both}
use Rattle.unit.specs.Kinds.{is_kind, has_bytes}
use Rattle.unit.specs.Memory.{good_fields}
use Rattle.unit.proofs.Goodness.{FieldsGood, fields_good}

not_so : (b : Bool) → (b ≡ true → ⊥) → b ≡ false
not_so true h = absurd (h refl)
not_so false h = refl

or_true : (b : Bool) → (b || true) ≡ true
or_true true = refl
or_true false = refl

pub turned_fits : (t : ℕ) → t < 2 ^ 64 → t / 256 + t % 256 * 72057594037927936 < 2 ^ 64
turned_fits t h = sum (t / 256) (t % 256) (omega arith) (omega arith)
  where
    sum : (a b : ℕ) → a < 72057594037927936 → b < 256 → a + b * 72057594037927936 < 2 ^ 64
    sum a b h l = omega arith

turned_plain : (cap tag t : ℕ) → tag ≡ t + 1 → tag % 256 ≡ 1 → tag / 256 ≤ cap → t / 256 + t % 256 * 72057594037927936 ≤ cap
turned_plain cap tag t e k l =
    let z : t % 256 ≡ 0 = omega arith in
    let n : t / 256 ≤ cap = omega arith in
    rw z (omega arith)

turned_parts : (cap a b : ℕ) → cap ≤ 80 → a + b * 72057594037927936 ≤ cap → (a ≤ cap) × (b ≡ 0)
turned_parts cap a b l h = (omega arith, omega arith)

few_next : (tag t : ℕ) → (t + 1) % 2 ^ 64 ≡ tag → t ≤ 20480 → tag ≡ t + 1
few_next tag t e h = omega arith

plain_next : (cap tag t : ℕ) → tag ≡ t + 1 → t % 256 ≡ 0 → t / 256 ≤ cap → (tag % 256 ≡ 1) × (tag / 256 ≤ cap)
plain_next cap tag t e z h = (omega arith, omega arith)

few_plain : (t : ℕ) → t % 256 ≡ 0 → t / 256 ≤ 80 → t ≤ 20480
few_plain t z h = omega arith

turned_back : (cap tag t : ℕ) → cap ≤ 80 → (t + 1) % 2 ^ 64 ≡ tag → t / 256 + t % 256 * 72057594037927936 ≤ cap → (tag % 256 ≡ 1) × (tag / 256 ≤ cap)
turned_back cap tag t c e l =
    let (h, z) = turned_parts cap (t / 256) (t % 256) c l in
    plain_next cap tag t (few_next tag t e (few_plain t z (le_trans h c))) z h

-- a turned word that is a length from 1 on is none of the four of no length, and of these only the first is turned to 0
plain_far : (t turn : ℕ) → turn ≡ t / 256 + t % 256 * 72057594037927936 → 1 ≤ turn → turn ≤ 80 → 3 < t
plain_far t turn e l h =
    let (_, z) = turned_parts 80 (t / 256) (t % 256) (omega arith) (rw e at h) in
    omega arith

plain_length : (tag t : ℕ) → tag < 2 ^ 64 → t < 2 ^ 64 → (t + 1) % 2 ^ 64 ≡ tag → 1 ≤ tag % 256 → t / 256 ≡ tag / 256
plain_length tag t hg ht e h =
    let n : tag ≡ t + 1 = omega arith in
    omega arith

turned_low : (turn a b : ℕ) → turn ≡ a + b * 72057594037927936 → a ≤ 80 → turn % 128 ≡ a
turned_low turn a b e h = omega arith

-- w is one less than a turned word
one_less : (cap w turn : ℕ) → cap ≤ 80 → (w + 1) % 2 ^ 64 ≡ turn → w < cap → (1 ≤ turn) × (turn ≤ cap)
one_less cap w turn c e h = (omega arith, omega arith)

one_less_past : (cap w turn : ℕ) → w < 2 ^ 64 → (w + 1) % 2 ^ 64 ≡ turn → cap ≤ w → 1 ≤ turn → cap < turn
one_less_past cap w turn h e l n = omega arith

plain_some : (t turn : ℕ) → turn ≡ t / 256 + t % 256 * 72057594037927936 → 3 < t → 1 ≤ turn
plain_some t turn e h = omega arith

-- t is one less than the word, and its low byte is moved to the top
pub tag_good : (cap tag t : ℕ) → cap ≤ 80 → tag < 2 ^ 64 → t < 2 ^ 64 → (t + 1) % 2 ^ 64 ≡ tag
    → (leb (t / 256 + t % 256 * 72057594037927936) cap || leb t 3) ≡ good_fields cap 0 0 (tag % 256) (tag / 256)
unfolding is_kind has_bytes
tag_good cap tag t hc hg ht e = go (leb turned cap) refl (leb t 3) refl
  where
    turned : ℕ
    turned = t / 256 + t % 256 * 72057594037927936

    go : (a : Bool) → leb turned cap ≡ a → (b : Bool) → leb t 3 ≡ b → (a || b) ≡ good_fields cap 0 0 (tag % 256) (tag / 256)
    go true h b g =
        let (k, n) = turned_back cap tag t hc e (leb-true turned cap h) in
        sym (rw (k, le-leb (tag / 256) cap n))
    go false h true g =
        let l = leb-true t 3 g in
        let q = few_next tag t e (omega arith) in
        let n : tag / 256 ≡ 0 = omega arith in
        let k : 1 ≤ tag % 256 = omega arith in
        let m : tag % 256 ≤ 4 = omega arith in
        sym (rw (n, le-leb 1 (tag % 256) k, le-leb (tag % 256) 4 m, le-leb 0 cap (omega arith), or_true))
    go false h false g = sym (not_so _ (λ y. none (fields_good cap 0 0 (tag % 256) (tag / 256) y)))
      where
        none : FieldsGood cap 0 0 (tag % 256) (tag / 256) → ⊥
        none f = pick (eqb (tag % 256) 1) refl
          where
            pick : (b : Bool) → eqb (tag % 256) 1 ≡ b → ⊥
            pick true q =
                let k = eqb-true (tag % 256) 1 q in
                let n : tag ≡ t + 1 = omega arith in
                false_true (sym h ∙ le-leb turned cap (turned_plain cap tag t n k f.fits))
            pick false q =
                let d = eqb-false (tag % 256) 1 q in
                let l = eqb-true (tag / 256) 0 (rw q at f.plain) in
                let x = leb-false t 3 g in
                let (least, most) = and_both (leb 1 (tag % 256)) (leb (tag % 256) 4) f.known in
                let a = leb-true 1 (tag % 256) least in
                let b = leb-true (tag % 256) 4 most in
                let n : tag ≡ t + 1 = omega arith in
                omega arith

-- x counts a word that is no length from 1 to cap, and y takes off one of no length
pub tag_faults : (cap tag t turn w x y : ℕ) → cap ≤ 80 → tag < 2 ^ 64 → t < 2 ^ 64 → w < 2 ^ 64 → (t + 1) % 2 ^ 64 ≡ tag
    → turn ≡ t / 256 + t % 256 * 72057594037927936 → (w + 1) % 2 ^ 64 ≡ turn → x ≤ 1 → eqb x 0 ≡ ltb w cap → y ≤ 1 → eqb y 0 ≡ ltb 3 t
    → (y ≤ x) × (eqb (x - y) 0 ≡ good_fields cap 0 0 (tag % 256) (tag / 256))
tag_faults cap tag t turn w x y hc hg ht hw e et ew hx ex hy ey = ((go (ltb w cap) refl (ltb 3 t) refl).0, (go (ltb w cap) refl (ltb 3 t) refl).1 ∙ rw et (tag_good cap tag t hc hg ht e))
  where
    both : (x y : ℕ) → x ≡ 0 → y ≡ 0 → y ≤ x
    both x y ex ey = omega arith

    only : (x : ℕ) → x ≤ 1 → (x ≡ 0 → ⊥) → x ≡ 1
    only x h n = omega arith

    go : (a : Bool) → ltb w cap ≡ a → (b : Bool) → ltb 3 t ≡ b → (y ≤ x) × (eqb (x - y) 0 ≡ (leb turn cap || leb t 3))
    go true a b q =
        let l = ltb-true w cap a in
        let z = eqb-true x 0 (ex ∙ a) in
        let (some, most) = one_less cap w turn hc ew l in
        let n = eqb-true y 0 (ey ∙ lt-ltb 3 t (plain_far t turn et some (le_trans most hc))) in
        (both x y z n, rw (z, n, le-leb turn cap most))
    go false a true q =
        let l = ltb-false w cap a in
        let z = eqb-false x 0 (ex ∙ a) in
        let n = eqb-true y 0 (ey ∙ q) in
        let far = ltb-true 3 t q in
        let past = one_less_past cap w turn hw ew l (plain_some t turn et far) in
        let one = only x hx z in
        (rw n (omega arith), rw (one, n, lt-leb turn cap past, lt-leb t 3 far))
    go false a false q =
        let z = eqb-false x 0 (ex ∙ a) in
        let n = eqb-false y 0 (ey ∙ q) in
        let near = ltb-false 3 t q in
        let one = only x hx z in
        let other = only y hy n in
        (rw (one, other) (omega arith), rw (one, other, le-leb t 3 near) (sym (or_true (leb turn cap))))

-- and the length of a word that may be good
pub tag_length : (tag t turn : ℕ) → tag < 2 ^ 64 → t < 2 ^ 64 → (t + 1) % 2 ^ 64 ≡ tag → turn ≡ t / 256 + t % 256 * 72057594037927936
    → 1 ≤ tag % 256 → tag / 256 ≤ 80 → turn % 128 ≡ tag / 256
tag_length tag t turn hg ht e et h l =
    let q = plain_length tag t hg ht e h in
    turned_low turn (t / 256) (t % 256) et (rw q l) ∙ q
