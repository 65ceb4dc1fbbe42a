-- What a client sends and what is handed back to it (docs/RULES.md, 8.1).
use Rattle.std.specs.Prelude.{◌≡◌, ℕ, Bool, true, false, cond, ◌&&◌, ◌||◌, eqb, leb, ltb, replicate, Option, None, Some}
use Rattle.num.specs.declared.Edges.{Edges}
use Rattle.num.specs.declared.Position.{Position}
use Rattle.num.specs.declared.refusal.Refusal.{Refusal}
use Rattle.num.specs.Refusals.{number}
use Rattle.layout.specs.declared.Layout.{Layout}
use Rattle.layout.specs.Value.{blank}
use Rattle.client.specs.declared.Page.{Page}
use Rattle.client.specs.declared.Ask.{Ask}
use Rattle.client.specs.declared.Ask.TheVariants.{Fetch, Offer}
use Rattle.client.specs.declared.Query.{Query}
use Rattle.client.specs.declared.Reply.{Reply}
use Rattle.client.specs.declared.Response.{Response}
use Rattle.client.specs.declared.Reply.TheVariants.{Held, Given, Fine, Shown, Edged, Refused}

-- a page has room for 80 bytes, whatever the yard's shape
abbrev pub page_limit : ℕ
page_limit = 80

-- the bytes that a data page may hold in a yard of a shape: 0 small, 1 large
unfoldable pub data_limit : ℕ → ℕ
data_limit shape = cond (eqb shape 1) 80 32

-- no page: what stands where none is given
abbrev pub no_page : Page
no_page = record { kind = 0; len = 0; bytes = replicate page_limit 0 }

abbrev pub junk : Page
junk = record { kind = 2; len = 0; bytes = replicate page_limit 0 }

-- a page that a unit may show: data or junk, and no longer than there is room for
unfoldable pub is_showable : Page → Bool
is_showable g = (eqb g.kind 1 || eqb g.kind 2) && leb g.len page_limit

-- ---- requests

-- with no page and no layout
abbrev pub plain : Ask → Query
plain a = record { ask = a; page = no_page; layout = blank }

-- with a page
abbrev pub bearing : Ask → Page → Query
bearing a g = record { ask = a; page = g; layout = blank }

-- the offer of a layout
abbrev pub offering : Layout → Query
offering l = record { ask = Offer; page = no_page; layout = l }

abbrev pub no_query : Query
no_query = plain Fetch

-- ---- answers

-- what stands where nothing is answered: it answers no request
abbrev pub no_response : Response
no_response = record { reply = Refused 0; page = no_page; layout = blank }

-- the number of each (docs/RULES.md, 10), 0 where it is no refusal
abbrev pub number_of : Reply → ℕ
number_of Held = 0
number_of (Given p) = 0
number_of Fine = 0
number_of Shown = 0
number_of (Edged e) = 0
number_of (Refused n) = n

-- the last number that a machine gives: a unit 1 to 8, the sequencer 2, 4 and 9, the holder 10 to 12 (docs/RULES.md, 10)
abbrev pub last_refusal : ℕ
last_refusal = 12

-- no machine refuses by it
unfoldable pub no_refusal : ℕ → Bool
no_refusal n = eqb n 0 || ltb last_refusal n

-- the refusal of a machine that has the number, if any
abbrev pub IsRefusal : ℕ → Option Refusal → Type 0
IsRefusal n None = no_refusal n ≡ true
IsRefusal n (Some r) = (number r ≡ n) × (no_refusal n ≡ false)

-- ---- what an answer gives where it is the expected one, and what any other gives

abbrev pub if_held : {A : Type 0} → Reply → A → A → A
if_held Held a d = a
if_held (Given p) a d = d
if_held Fine a d = d
if_held Shown a d = d
if_held (Edged e) a d = d
if_held (Refused n) a d = d

abbrev pub if_given : {A : Type 0} → Reply → (Position → A) → A → A
if_given Held f d = d
if_given (Given p) f d = f p
if_given Fine f d = d
if_given Shown f d = d
if_given (Edged e) f d = d
if_given (Refused n) f d = d

abbrev pub if_fine : {A : Type 0} → Reply → A → A → A
if_fine Held a d = d
if_fine (Given p) a d = d
if_fine Fine a d = a
if_fine Shown a d = d
if_fine (Edged e) a d = d
if_fine (Refused n) a d = d

abbrev pub if_shown : {A : Type 0} → Reply → A → A → A
if_shown Held a d = d
if_shown (Given p) a d = d
if_shown Fine a d = d
if_shown Shown a d = a
if_shown (Edged e) a d = d
if_shown (Refused n) a d = d

abbrev pub if_edged : {A : Type 0} → Reply → (Edges → A) → A → A
if_edged Held f d = d
if_edged (Given p) f d = d
if_edged Fine f d = d
if_edged Shown f d = d
if_edged (Edged e) f d = f e
if_edged (Refused n) f d = d
