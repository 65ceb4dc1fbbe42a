-- A play's bytes put into a lent buffer, part by part.
use Rattle.std.specs.Prelude.{ℕ, ◌+◌, Bool, true, ◌&&◌, cond, List, [], ◌∷◌, ◌≡◌, leb, length, take, Option, Some, None}
use Rattle.std.proofs.lemmas.List.Edits.{sets}
use Rattle.layout.specs.declared.Chain.{Chain}
use Rattle.layout.specs.declared.Layout.{Layout}
use Rattle.layout.specs.Lay.{set_limit, sets_limit}
use Rattle.layout.specs.Plan.{new_of}
use Rattle.client.specs.declared.Work.{Work}
use Rattle.client.specs.declared.Work.TheVariants.{Append, Read, Fill, Trim, Prune, Reorganise}
use Rattle.client.specs.declared.Change.{Change}
use Rattle.client.specs.declared.state.Job.{Job}
use Rattle.client.specs.Message.{page_limit}
use Rattle.client.specs.Client.{drop_limit}
use Rattle.rule.specs.declared.Step.{Step}
use Rattle.rule.specs.declared.Step.TheVariants.{Begin, Deliver, Drop, Stop, Restart, GiveUp, Forget}
use Rattle.script.specs.Cue.{Cue}
use Rattle.script.specs.Cue.Cue.{append, read, fill, trim, prune, reorganise, deliver, drop_at, stop, restart, give_up, forget}
use Rattle.script.specs.Steps.{cue_bytes}
use Rattle.script.specs.Play.{start_bytes, starts_yard}

-- ---- the step of a play that a step of the yard is

-- a begin, by what it asks for
abbrev pub begun : ℕ → Job → Work → Cue
begun c j Append = append c (take j.len j.bytes)
begun c j (Read p) = read c p.0
begun c j (Fill p) = fill c p.0
begun c j (Trim p) = trim c p.0
begun c j (Prune p) = prune c p.0
begun c j Reorganise =
    reorganise c (take j.change.count j.change.drops) (new_of j.change.wish)

unfoldable pub cue_of : Step → Job → Cue
cue_of (Begin c) j = begun c j j.work
cue_of (Deliver i k a) j = deliver i k a
cue_of (Drop i) j = drop_at i
cue_of (Stop u) j = stop u
cue_of (Restart c) j = restart c
cue_of (GiveUp c) j = give_up c
cue_of Forget j = forget

-- ---- whether it has such bytes: every count within the room there is

-- each has room for its units
unfoldable pub small_chains : List Chain → Bool
small_chains [] = true
small_chains (c ∷ cs) = leb c.count set_limit && small_chains cs

unfoldable pub change_fits : Change → Bool
change_fits h = leb h.count drop_limit && leb h.wish.count sets_limit && small_chains (take h.wish.count h.wish.sets)

abbrev pub job_fits : Job → Work → Bool
job_fits j Append = leb j.len page_limit
job_fits j (Read p) = true
job_fits j (Fill p) = true
job_fits j (Trim p) = true
job_fits j (Prune p) = true
job_fits j Reorganise = change_fits j.change

unfoldable pub step_fits : Step → Job → Bool
step_fits (Begin c) j = job_fits j j.work
step_fits (Deliver i k a) j = true
step_fits (Drop i) j = true
step_fits (Stop u) j = true
step_fits (Restart c) j = true
step_fits (GiveUp c) j = true
step_fits Forget j = true

-- ---- in the buffer: bytes at a place, where they are to be put and fit

abbrev pub fits_at : Bool → List ℕ → ℕ → List ℕ → Bool
fits_at wanted out at vs = wanted && leb (at + length vs) (length out)

pub record IsPut (wanted : Bool) (at : ℕ) (vs before : List ℕ) (count : Option ℕ) (after : List ℕ) : Type 0 where
  pub count_is : count ≡ cond (fits_at wanted before at vs) (Some (length vs)) None
  pub buffer_is : after ≡ cond (fits_at wanted before at vs) (sets before at vs) before

abbrev pub StartPut : Layout → ℕ → List ℕ → Option ℕ → List ℕ → Type 0
StartPut l n = IsPut (starts_yard l) 0 (start_bytes l n)

abbrev pub StepPut : Step → Job → ℕ → List ℕ → Option ℕ → List ℕ → Type 0
StepPut s j at = IsPut (step_fits s j) at (cue_bytes (cue_of s j))
