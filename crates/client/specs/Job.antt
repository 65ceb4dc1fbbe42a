-- What an operation asks for, as it is when it begins (docs/RULES.md, 9.2).
use Rattle.std.specs.Prelude.{ℕ, Bool, false, List, [], ◌∷◌, leb, ltb, take}
use Rattle.num.specs.Limits.{limit}
use Rattle.num.specs.Checks.{Check, lowest, ◌if◌}
use Rattle.num.specs.declared.Position.{Position}
use Rattle.layout.specs.Value.{padded}
use Rattle.client.specs.declared.Page.{Page}
use Rattle.client.specs.declared.Work.{Work}
use Rattle.client.specs.declared.Work.TheVariants.{Append, Read, Fill, Trim, Prune, Reorganise}
use Rattle.client.specs.declared.Change.{Change}
use Rattle.client.specs.declared.state.Job.{Job}
use Rattle.client.specs.Message.{page_limit, data_limit, no_page, junk}
use Rattle.client.specs.Client.{drop_limit, no_change}

-- 2: position of 2^40 or more; prune above 2^40
abbrev pub past : Work → Bool
past Append = false
past (Read p) = leb limit p.0
past (Fill p) = leb limit p.0
past (Trim p) = leb limit p.0
past (Prune p) = ltb limit p.0
past Reorganise = false

-- 3: data longer than a page of the yard's shape holds
abbrev pub too_long : Work → ℕ → ℕ → Bool
too_long Append len shape = ltb (data_limit shape) len
too_long (Read p) len shape = false
too_long (Fill p) len shape = false
too_long (Trim p) len shape = false
too_long (Prune p) len shape = false
too_long Reorganise len shape = false

-- 10: more units to drop than one reorganise may
abbrev pub too_many_drops : Work → ℕ → Bool
too_many_drops Append count = false
too_many_drops (Read p) count = false
too_many_drops (Fill p) count = false
too_many_drops (Trim p) count = false
too_many_drops (Prune p) count = false
too_many_drops Reorganise count = ltb drop_limit count

-- "Position and page (2, 3) are checked when an operation begins, after the yard's own checks"; and how many units are to be dropped (10), behind them
abbrev pub job_checks : Job → ℕ → List Check
job_checks j shape = 2 if past j.work ∷ 3 if too_long j.work j.len shape ∷ 10 if too_many_drops j.work j.change.count ∷ []

abbrev pub job_answer : Job → ℕ → ℕ
job_answer j shape = lowest (job_checks j shape)

-- ---- what the client then keeps of it

abbrev pub position_for : Work → Position
position_for Append = record { 0 = 0 }
position_for (Read p) = p
position_for (Fill p) = p
position_for (Trim p) = p
position_for (Prune p) = p
position_for Reorganise = record { 0 = 0 }

-- data of a length, blank past it
abbrev pub data_page : ℕ → List ℕ → Page
data_page len bytes = record { kind = 1; len = len; bytes = padded page_limit 0 (take len bytes) }

-- an append carries its data, a fill junk
abbrev pub page_for : Work → ℕ → List ℕ → Page
page_for Append len bytes = data_page len bytes
page_for (Read p) len bytes = no_page
page_for (Fill p) len bytes = junk
page_for (Trim p) len bytes = no_page
page_for (Prune p) len bytes = no_page
page_for Reorganise len bytes = no_page

abbrev pub change_for : Work → Change → Change
change_for Append ch = no_change
change_for (Read p) ch = no_change
change_for (Fill p) ch = no_change
change_for (Trim p) ch = no_change
change_for (Prune p) ch = no_change
change_for Reorganise ch = ch
