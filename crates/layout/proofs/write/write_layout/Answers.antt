use Prim.Native.Nat.{◌≤◌}
use native.Mathlib.Nat.{zero-add}
use mathlib.Core.Bool.{false}
use borrow.Author.Tests.{le-ltb}
use Rattle.std.proofs.Common.{◌≡◌, ◌++◌, length, drop, sym, ◌∙◌, arith}
use Rattle.std.proofs.lemmas.List.Edits.{sets, sets-eq}
use Rattle.layout.specs.Codec.{bytes_of, write_refused}
use Rattle.layout.proofs.write.write_layout.Goals as goal

pub returns : goal.returns
unfolding write_refused
returns c =
    let l = c.args.l in
    let out = c.args.out.now in
    let bytes : c.as_slice-bytes.result.now ≡ bytes_of l = c.as_slice-bytes.ensures ∙ c.bytes_of-encoded.ensures in
    let fits : length (bytes_of l) ≤ length out = rw bytes at c.if-out-bytes.false in
    let fine : write_refused l out ≡ false = rw (← c.is_good.ensures, c.if-not-is_good.false, le-ltb (length out) (length (bytes_of l)) fits) in
    let put : bytes_of l ++ drop (length (bytes_of l)) out ≡ sets out 0 (bytes_of l) = sym (rw (zero-add (length (bytes_of l))) at (sets-eq (bytes_of l) out 0 (omega arith))) in
    record { answer_is = rw fine; count_is = rw (fine, bytes); buffer_is = rw (fine, c.copy_from_slice.ensures.after, bytes) put }
