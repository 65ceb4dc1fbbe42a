-- One line is shown: from what putting it answers to what is shown then.
use Prim.Native.Nat.{ℕ, ◌+◌}
use mathlib.Core.List.{List}
use mathlib.Core.Path.{sym, ◌∙◌}
use borrow.Author.Tests.{le-leb, lt-leb}
use lib.ListN.{length}
use Rattle.std.specs.Prelude.{Some, None}
use Rattle.client.specs.declared.Outcome.{Outcome}
use Rattle.line.specs.Line.{line_of, IsLinePut}
use Rattle.line.proofs.Fitting.{line_refused, line_stands}
use Rattle.play.specs.declared.Shown.{Shown}
use Rattle.play.specs.Going.{IsLineShown}

module _ {s : Shown} {n answer who : ℕ} {o : Outcome} {out out' : List ℕ} where
  -- it has no room
  pub no_room : IsLinePut out s.written n answer who o None out' → IsLineShown s (line_of n answer who o) out None out'
  no_room p =
      let r = line_refused p in
      let full = lt-leb (s.written + length (line_of n answer who o)) (length out) r.0 in
      record { shown_is = sym (rw full); out_is = r.1 ∙ sym (rw full) }

  -- it stands whole
  pub room : {size : ℕ} → IsLinePut out s.written n answer who o (Some size) out'
      → IsLineShown s (line_of n answer who o) out (Some (record { lines = s.lines + 1; written = s.written + size })) out'
  room p =
      let r = line_stands p in
      let fits = le-leb (s.written + length (line_of n answer who o)) (length out) (rw r.0 at r.1.0) in
      record { shown_is = rw (fits, r.0); out_is = r.1.1 ∙ sym (rw fits) }
