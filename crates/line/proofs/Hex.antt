-- Laws of hex: read back it is the byte, so two bytes never look the same; two digits a byte.
use Prim.Native.Nat.{ℕ, suc, ◌+◌, ◌*◌, ◌-◌, ◌/◌, ◌%◌, ◌<◌, ◌≤◌}
use mathlib.Core.Bool.{Bool, true, false, cond}
use mathlib.Core.List.{List, [], ◌∷◌, ◌++◌, append_assoc, append-nil}
use mathlib.Core.Path.{◌≡◌, refl, sym, ap, ◌∙◌}
use native.Mathlib.Omega.{arith}
use borrow.Author.Tests.{lt-ltb, le-ltb, ltb-true, ltb-false}
use lib.Dec.{ltb}
use lib.ListN.{length, get_or, take}
use Rattle.std.proofs.lemmas.List.{take_more}
use Rattle.num.proofs.Numbers.{Bytes}
use Rattle.line.specs.Text.{dash, digit, hex_digit, hex_byte, hex_bytes, hex_text}

pub hex_low : (d : ℕ) → d < 10 → hex_digit d ≡ digit d
unfolding hex_digit
hex_low d h = rw (lt-ltb d 10 h)

pub hex_high : (d : ℕ) → 10 ≤ d → hex_digit d ≡ 87 + d
unfolding hex_digit
hex_high d h = rw (le-ltb d 10 h)

-- ---- read back

-- what a letter stands for
unfoldable pub hex_value : ℕ → ℕ
hex_value c = cond (ltb c 97) (c - 48) (c - 87)

digit_back : (d : ℕ) → d < 16 → hex_value (hex_digit d) ≡ d
unfolding hex_value
digit_back d h = go (ltb d 10) refl
  where
    go : (t : Bool) → ltb d 10 ≡ t → hex_value (hex_digit d) ≡ d
    go true e = let l : d < 10 = ltb-true d 10 e in rw (hex_low d l, lt-ltb (digit d) 97 (omega arith)) (omega arith)
    go false e = let l : 10 ≤ d = ltb-false d 10 e in rw (hex_high d l, le-ltb (87 + d) 97 (omega arith)) (omega arith)

-- the bytes of a text, two letters each; a letter left over is none
unfoldable pub hex_read : List ℕ → List ℕ
hex_read [] = []
hex_read (h ∷ []) = []
hex_read (h ∷ l ∷ rest) = (16 * hex_value h + hex_value l) ∷ hex_read rest

pub hex_back : (bs : List ℕ) → Bytes bs → hex_read (hex_bytes bs) ≡ bs
unfolding hex_read hex_bytes hex_byte
hex_back [] h = refl
hex_back (b ∷ bs) h =
    let small : b < 256 = (h 0).fits in
    let byte : 16 * hex_value (hex_digit (b / 16)) + hex_value (hex_digit (b % 16)) ≡ b
    = rw (digit_back (b / 16) (omega arith), digit_back (b % 16) (omega arith)) (omega arith) in
    rw (byte, hex_back bs (λ k. h (suc k)))

-- bytes that look the same are the same
pub hex_same : (cs bs : List ℕ) → Bytes cs → Bytes bs → hex_bytes cs ≡ hex_bytes bs → cs ≡ bs
hex_same cs bs p q e = sym (hex_back cs p) ∙ ap hex_read e ∙ hex_back bs q

-- ---- how long

pub hex_length : (bs : List ℕ) → length (hex_bytes bs) ≡ 2 * length bs
unfolding hex_bytes hex_byte
hex_length [] = refl
hex_length (b ∷ bs) = omega (arith, hex_length bs)

pub text_length : (bs : List ℕ) → length (hex_text bs) ≤ 1 + 2 * length bs
unfolding hex_text
text_length [] = omega arith
text_length (b ∷ bs) = omega (arith, hex_length (b ∷ bs))

pub text_some : (bs : List ℕ) → 1 ≤ length (hex_text bs)
unfolding hex_text
text_some [] = omega arith
text_some (b ∷ bs) = omega (arith, hex_length (b ∷ bs))

-- ---- a byte more

hex_append : (cs bs : List ℕ) → hex_bytes (cs ++ bs) ≡ hex_bytes cs ++ hex_bytes bs
unfolding hex_bytes
hex_append [] bs = refl
hex_append (c ∷ cs) bs = rw (hex_append cs bs) (sym (append_assoc (hex_byte c) (hex_bytes cs) (hex_bytes bs)))

pub hex_more : (bs : List ℕ) (i : ℕ) → i < length bs → hex_bytes (take (i + 1) bs) ≡ hex_bytes (take i bs) ++ hex_byte (get_or bs i 0)
unfolding hex_bytes
hex_more bs i h = rw (take_more bs i 0 h, hex_append (take i bs) (get_or bs i 0 ∷ [])) (rw append-nil)

pub text_none : (bs : List ℕ) → length bs ≡ 0 → hex_text bs ≡ dash ∷ []
unfolding hex_text
text_none [] h = refl
text_none (b ∷ bs) h = absurd (omega (arith, h))

pub text_of : (bs : List ℕ) → (length bs ≡ 0 → ⊥) → hex_text bs ≡ hex_bytes bs
unfolding hex_text hex_bytes
text_of [] h = absurd (h refl)
text_of (b ∷ bs) h = refl
