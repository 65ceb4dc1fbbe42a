-- The steps of a play, and what the yard's step is handed for each.
use Rattle.std.specs.Prelude.{ℕ, Bool, List, map, length}
use Rattle.layout.specs.Lay.{sets_limit}
use Rattle.layout.specs.Value.{padded, no_chain, chain_of}
use Rattle.client.specs.declared.Change.{Change}
use Rattle.client.specs.declared.state.Job.{Job}
use Rattle.client.specs.declared.Work.TheVariants.{Append, Read, Fill, Trim, Prune}
use Rattle.client.specs.Message.{page_limit}
use Rattle.client.specs.Client.{drop_limit, job_of, append_of, reorganise_of}
use Rattle.rule.specs.declared.Step.{Step}
use Rattle.rule.specs.declared.Step.TheVariants.{Begin, Deliver, Drop, Stop, Restart, GiveUp, Forget}

-- append: a client and all its bytes, also more than a page holds. read, fill, trim, prune: a client and a position.
-- reorganise: a client, the units to drop, the new sets. deliver: a place, whether the letter is kept, whether the answer is.
-- dropAt: a place. stop: a unit. restart, giveUp: a client
pub data Cue : Type 0 where
  append : ℕ → List ℕ → Cue
  read : ℕ → ℕ → Cue
  fill : ℕ → ℕ → Cue
  trim : ℕ → ℕ → Cue
  prune : ℕ → ℕ → Cue
  reorganise : ℕ → List ℕ → List (List ℕ) → Cue
  deliver : ℕ → Bool → Bool → Cue
  drop_at : ℕ → Cue
  stop : ℕ → Cue
  restart : ℕ → Cue
  give_up : ℕ → Cue
  forget : Cue

-- ---- what the yard's step is handed

unfoldable pub step_for : Cue → Step
step_for (append c xs) = Begin c
step_for (read c p) = Begin c
step_for (fill c p) = Begin c
step_for (trim c p) = Begin c
step_for (prune c p) = Begin c
step_for (reorganise c ds ss) = Begin c
step_for (deliver i k a) = Deliver i k a
step_for (drop_at i) = Drop i
step_for (stop u) = Stop u
step_for (restart c) = Restart c
step_for (give_up c) = GiveUp c
step_for forget = Forget

-- what comes with a step that begins nothing: it is not looked at
abbrev pub no_job : Job
no_job = job_of Append

-- drops and sets in their places, the rest blank
abbrev pub change_of : List ℕ → List (List ℕ) → Change
change_of ds ss = record {
  count = length ds;
  drops = padded drop_limit 0 ds;
  wish = record { count = length ss; sets = padded sets_limit no_chain (map chain_of ss) };
}

-- of an append: how many bytes, and those that a page has room for
unfoldable pub job_for : Cue → Job
job_for (append c xs) = append_of (length xs) (padded page_limit 0 xs)
job_for (read c p) = job_of (Read (record { 0 = p }))
job_for (fill c p) = job_of (Fill (record { 0 = p }))
job_for (trim c p) = job_of (Trim (record { 0 = p }))
job_for (prune c p) = job_of (Prune (record { 0 = p }))
job_for (reorganise c ds ss) = reorganise_of (change_of ds ss)
job_for (deliver i k a) = no_job
job_for (drop_at i) = no_job
job_for (stop u) = no_job
job_for (restart c) = no_job
job_for (give_up c) = no_job
job_for forget = no_job
