-- The page that a letter or an outcome bears: how a page's value enters the history.
-- Rests on the history's Words and on the yard's rules.
use Prim.Native.Nat.{ℕ}
use mathlib.Core.Bool.{cond}
use mathlib.Core.List.{List}
use lib.Dec.{eqb}
use Rattle.client.specs.declared.Page.{Page as PageValue}
use Rattle.rule.specs.Serve.{kind_of, bytes_of}
use Rattle.history.specs.Words.{Page}
use Rattle.history.specs.Words.Page.{junk, bytes}

-- kind 2 is junk, kind 1 data; no unit takes another kind
abbrev pub page_with : ℕ → List ℕ → Page
page_with kind payload = cond (eqb kind 2) junk (bytes payload)

abbrev pub carried : PageValue → Page
carried g = page_with (kind_of g) (bytes_of g)
