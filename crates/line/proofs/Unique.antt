-- No second answer, and no second content of the lent buffer, meets the promise.
use Prim.Native.Nat.{ℕ}
use mathlib.Core.List.{List}
use mathlib.Core.Path.{◌≡◌}
use Rattle.num.proofs.Unique.{once}
use Rattle.client.specs.declared.Outcome.{Outcome}
use Rattle.std.specs.Prelude.{Option}
use Rattle.line.specs.Line.{IsLinePut}

-- put_line
pub line_put_once : (before : List ℕ) (at number answer who : ℕ) (o : Outcome) (r r' : Option ℕ) (after after' : List ℕ)
    → IsLinePut before at number answer who o r after → IsLinePut before at number answer who o r' after' → (r ≡ r') × (after ≡ after')
line_put_once before at number answer who o r r' after after' p q = (once p.count_is q.count_is, once p.buffer_is q.buffer_is)
