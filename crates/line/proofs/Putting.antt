-- Texts put one behind the other.
use Prim.Native.Nat.{ℕ, ◌≤◌}
use mathlib.Core.List.{List, [], ◌++◌, append-nil, append_assoc}
use mathlib.Core.Path.{sym, ap, ◌∙◌}
use native.Mathlib.Omega.{arith}
use lib.ListN.{length-append}
use Rattle.line.specs.declared.Line.{Line}
use Rattle.line.specs.Put.{held, IsPut}

-- nothing
pub put_none : (a : Line) → a.count ≤ 256 → IsPut a [] a
put_none a h = record { count_is = omega arith; fits = h; held_is = sym (append-nil (held a)) }

module _ {a b : Line} {t : List ℕ} (p : IsPut a t b) where
  pub put_both : {u : List ℕ} {c : Line} → IsPut b u c → IsPut a (t ++ u) c
  put_both {u} {c} q = record {
    count_is = omega (arith, p.count_is, q.count_is, length-append t u);
    fits = q.fits;
    held_is = q.held_is ∙ ap (λ (xs : List ℕ). xs ++ u) p.held_is ∙ append_assoc (held a) t u;
  }
