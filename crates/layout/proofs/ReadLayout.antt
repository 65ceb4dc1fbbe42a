-- Laws of `read_layout` and `bytes_of`: read (write v) is v, write (read b) is b, and no two values have the same bytes.
use Prim.Native.Nat.{ℕ}
use mathlib.Core.Bool.{true, not}
use mathlib.Core.List.{List}
use mathlib.Core.Path.{◌≡◌, sym, ap, ◌∙◌}
use native.Mathlib.Omega.{arith}
use borrow.Author.Tests.{not-false}
use Rattle.num.proofs.Tests.{cond_zero}
use Rattle.layout.specs.declared.Layout.{Layout}
use Rattle.layout.specs.Value.{lay_of, good_value}
use Rattle.layout.specs.Codec.{encode, is_layout, read_answer, read_layout, bytes_of, decode}
use Rattle.layout.proofs.ValueOf.{value_of_good, lay_of_value, value_is_good}
use Rattle.layout.proofs.Decode.{decode_encode, encode_is_layout, encode_decode}

pub read_written : (v : Layout) → good_value v ≡ true → (read_answer (bytes_of v) ≡ 0) × (read_layout (bytes_of v) ≡ v)
unfolding read_layout bytes_of
read_written v h =
    let g = value_of_good v h in
    let taken : is_layout (encode (lay_of v)) ≡ true = encode_is_layout (lay_of v) g.0 in
    (rw taken, rw (taken, decode_encode (lay_of v) g.0) (sym g.1))

pub written_read : (b : List ℕ) → read_answer b ≡ 0 → (good_value (read_layout b) ≡ true) × (bytes_of (read_layout b) ≡ b)
unfolding read_layout bytes_of
written_read b h =
    let taken : is_layout b ≡ true = not-false (is_layout b) (cond_zero (not (is_layout b)) 10 0 (omega arith) h).0 in
    let p = encode_decode b taken in
    (rw taken (value_is_good (decode b) p.0), rw (taken, lay_of_value (decode b) p.0) p.1)

pub bytes_once : (v w : Layout) → good_value v ≡ true → good_value w ≡ true → bytes_of v ≡ bytes_of w → v ≡ w
bytes_once v w g h e = sym (read_written v g).1 ∙ ap read_layout e ∙ (read_written w h).1
