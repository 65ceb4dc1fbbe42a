-- The two shapes: the numbers that the code takes for granted of both, and which one a good memory is of.
use Rattle.std.proofs.Common.{◌≡◌, ℕ, ◌%◌, ◌^◌, ◌<◌, ◌≤◌, Bool, true, false, cond, ◌&&◌, eqb, List, length, sym, refl, ap, ◌∙◌, subst, arith, ne_eqb, eqb-true}
use borrow.Author.Tests.{eqb-false}
use Rattle.unit.specs.Shape.{Shape, small, large, shape_for, shape_of, memory_size}
use Rattle.unit.specs.Memory.{good, code_of}
use Rattle.unit.proofs.Goodness.{is_good_lem}

-- either is as long, its payload is four words, or six more, a page in a letter and a byte for its length hold a payload, and two bytes hold the count of slots
pub record Sized (sh : Shape) : Type 0 where
  pub whole : memory_size sh ≡ 6168
  pub page : sh.cap ≤ 80
  pub four : 32 ≤ sh.cap
  pub lines : sh.cap % 48 ≡ 32
  pub cap : sh.cap ≤ 255
  pub room : sh.room < 256 ^ 2

pub sized : (code : ℕ) → Sized (shape_for code)
unfolding shape_for
sized code = go (eqb code 1)
  where
    go : (b : Bool) → Sized (cond b large small)
    go true = record { whole = refl; page = omega arith; four = omega arith; lines = refl; cap = omega arith; room = omega arith }
    go false = record { whole = refl; page = omega arith; four = omega arith; lines = refl; cap = omega arith; room = omega arith }

-- a shape that its byte names: small and large are the two
abbrev pub Known : Shape → Type 0
Known sh = shape_for sh.code ≡ sh

pub small_known : Known small
unfolding shape_for
small_known = refl

pub large_known : Known large
unfolding shape_for
large_known = refl

-- the shape that a byte names is known
pub for_known : (code : ℕ) → Known (shape_for code)
unfolding shape_for
for_known code = go (eqb code 1)
  where
    go : (b : Bool) → Known (cond b large small)
    go true = refl
    go false = refl

pub known_sized : (sh : Shape) → Known sh → Sized sh
known_sized sh k = subst Sized k (sized sh.code)

-- and its byte is 0 or 1
code_low : (code : ℕ) → (shape_for code).code ≤ 1
unfolding shape_for
code_low code = go (eqb code 1)
  where
    go : (b : Bool) → (cond b large small).code ≤ 1
    go true = omega arith
    go false = omega arith

-- a byte that names a shape is the shape's own
pub code_own : (code : ℕ) → code ≤ 1 → (shape_for code).code ≡ code
unfolding shape_for
code_own code h = go (eqb code 1) refl
  where
    go : (b : Bool) → eqb code 1 ≡ b → (cond b large small).code ≡ code
    go true e = sym (eqb-true code 1 e)
    go false e = let other : code ≡ 1 → ⊥ = eqb-false code 1 e in omega arith

pub known_code : (sh : Shape) → Known sh → sh.code ≤ 1
known_code sh k = subst (λ (s : Shape). s.code ≤ 1) k (code_low sh.code)

-- A MEMORY THAT IS GOOD IN A KNOWN SHAPE NAMES IT: what the functions promise of the shape that the memory names, they promise of this one
pub names_shape : (sh : Shape) (m : List ℕ) → Known sh → good sh m ≡ true → shape_of m ≡ sh
names_shape sh m k g = ap shape_for (is_good_lem sh m g).header.named ∙ k

-- and it is as long as every unit's
pub good_whole : (m : List ℕ) → good (shape_of m) m ≡ true → length m ≡ 6168
good_whole m g = (is_good_lem (shape_of m) m g).size ∙ (sized (code_of m)).whole

-- a memory whose second byte is 0 is of the small shape, as before there were two
pub old_small : (m : List ℕ) → code_of m ≡ 0 → shape_of m ≡ small
old_small m e = ap shape_for e ∙ small_known

-- a memory that names no shape is not good
pub names_none : (m : List ℕ) → (code_of m ≡ 0 → ⊥) → (code_of m ≡ 1 → ⊥) → good (shape_of m) m ≡ false
unfolding shape_for
names_none m h0 h1 = go (good (shape_of m) m) refl
  where
    go : (b : Bool) → good (shape_of m) m ≡ b → good (shape_of m) m ≡ false
    go false e = e
    go true e =
        let n : code_of m ≡ (shape_of m).code = (is_good_lem (shape_of m) m e).header.named in
        let z : code_of m ≡ 0 = n ∙ rw (ne_eqb (code_of m) 1 h1) in
        absurd (h0 z)

-- a memory is good in a known shape where it is good in the one that it names, and names this one: how a yard tests its memories for its shape
pub good_named : (sh : Shape) (m : List ℕ) → Known sh → (eqb (code_of m) sh.code && good (shape_of m) m) ≡ good sh m
good_named sh m k = go (eqb (code_of m) sh.code) refl (good sh m) refl
  where
    go : (b : Bool) → eqb (code_of m) sh.code ≡ b → (g : Bool) → good sh m ≡ g → (b && good (shape_of m) m) ≡ g
    go true e g q = ap (λ (s : Shape). good s m) (ap shape_for (eqb-true (code_of m) sh.code e) ∙ k) ∙ q
    go false e true q = absurd (eqb-false (code_of m) sh.code e (is_good_lem sh m q).header.named)
    go false e false q = refl

-- and so of a byte from elsewhere, known or not
pub good_code : (code : ℕ) (m : List ℕ) → eqb (code_of m) code ≡ true → good (shape_of m) m ≡ true → good (shape_for code) m ≡ true
good_code code m e g = ap (λ (n : ℕ). good (shape_for n) m) (sym (eqb-true (code_of m) code e)) ∙ g
