-- A client between two steps (docs/RULES.md, 8).
use Rattle.std.specs.Prelude.{ℕ, ◌-◌, ◌^◌, Bool, true, false, List, replicate}
use Rattle.num.specs.declared.Position.{Position}
use Rattle.num.specs.declared.Request.{Request}
use Rattle.layout.specs.declared.Layout.{Layout}
use Rattle.layout.specs.Lay.{sets_limit}
use Rattle.layout.specs.Value.{blank, no_chain}
use Rattle.client.specs.declared.Page.{Page}
use Rattle.client.specs.declared.Work.{Work}
use Rattle.client.specs.declared.Work.TheVariants.{Append, Reorganise}
use Rattle.client.specs.declared.Change.{Change}
use Rattle.client.specs.declared.state.Job.{Job}
use Rattle.client.specs.declared.Phase.{Phase}
use Rattle.client.specs.declared.Stage.{Stage}
use Rattle.client.specs.declared.Stage.TheVariants.{Idle, Fetching, Working}
use Rattle.client.specs.declared.Client.{Client}
use Rattle.client.specs.Message.{page_limit, no_page}

-- ---- limits

-- tokens that one append may take
abbrev pub token_limit : ℕ
token_limit = 8

abbrev pub last_life : ℕ
last_life = 65535

-- units that one reorganise may drop
abbrev pub drop_limit : ℕ
drop_limit = 8

-- the last request number
abbrev pub last_number : ℕ
last_number = 2 ^ 32 - 1

-- ---- what is asked of it

abbrev pub no_change : Change
no_change = record { count = 0; drops = replicate drop_limit 0; wish = record { count = 0; sets = replicate sets_limit no_chain } }

-- an operation that brings neither data nor a change
abbrev pub job_of : Work → Job
job_of w = record { work = w; len = 0; bytes = replicate page_limit 0; change = no_change }

abbrev pub append_of : ℕ → List ℕ → Job
append_of n xs = record { work = Append; len = n; bytes = xs; change = no_change }

abbrev pub reorganise_of : Change → Job
reorganise_of h = record { work = Reorganise; len = 0; bytes = replicate page_limit 0; change = h }

-- ---- with no operation

unfoldable pub idle : ℕ → Request → Client
idle life used = record {
  life = life;
  used = used;
  begun = record { 0 = 0 };
  stage = Idle;
  work = Append;
  change = no_change;
  position = record { 0 = 0 };
  page = no_page;
  layout = blank;
  plan = blank;
}

-- idle in life 1 with no number used
abbrev pub fresh : Client
fresh = idle 1 (record { 0 = 0 })

-- it has an operation
abbrev pub busy : Stage → Bool
busy Idle = false
busy Fetching = true
busy (Working p) = true

-- ---- one thing changed

abbrev pub in_phase : Client → Phase → Client
in_phase c p = record c { stage = Working p }

abbrev pub at_position : Client → Position → Client
at_position c p = record c { position = p }

abbrev pub carrying : Client → Page → Client
carrying c g = record c { page = g }

abbrev pub holding : Client → Layout → Client
holding c l = record c { layout = l }

abbrev pub planning : Client → Layout → Client
planning c l = record c { plan = l }
