-- Operations: each is known by the begin that asked for it, and never by what its client keeps of it.
-- Rests on Runs.
use Rattle.std.specs.Prelude.{◌≡◌, ℕ}
use Rattle.layout.specs.declared.Layout.{Layout}
use Rattle.client.specs.declared.state.Job.{Job}
use Rattle.client.specs.declared.Outcome.{Outcome}
use Rattle.rule.specs.declared.Step.TheVariants.{Begin, Restart}
use Rattle.rule.specs.Steps.{Done}
use Rattle.vouch.specs.Runs.{Move, Moves, ◌≼◌, Stepping, result_by, world_by}
use Rattle.vouch.specs.Runs.Moves.{◌▸◌}

module _ (f : Stepping) (l : Layout) where
  -- what the move m after ms answers, whose operation it ends and how
  abbrev pub done : Moves → Move → Done
  done ms m = result_by f (world_by f l ms) m

  abbrev pub outcome : Moves → Move → Outcome
  outcome ms m = (done ms m).outcome

  -- the move m after ms begins an operation of client c with job j, and is not refused
  pub record Begins (ms : Moves) (m : Move) (c : ℕ) (j : Job) : Type 0 where
    pub does_begin : m.does ≡ Begin c
    pub job_is : m.job ≡ j
    pub not_refused : (done ms m).answer ≡ 0

  -- with it no operation of client c ends, and c is not restarted
  pub record Leaves (ms : Moves) (m : Move) (c : ℕ) : Type 0 where
    pub not_ended : ¬ ((done ms m).who ≡ c)
    pub not_restarted : m.does ≡ Restart c → ¬ ((done ms m).answer ≡ 0)

  -- the operation of c with job j is under way after the moves
  pub data UnderWay (c : ℕ) (j : Job) : Moves → Type 0 where
    begun : {ms : Moves} {m : Move} → Begins ms m c j → ¬ ((done ms m).who ≡ c) → UnderWay c j (ms ▸ m)
    still : {ms : Moves} {m : Move} → UnderWay c j ms → Leaves ms m c → UnderWay c j (ms ▸ m)

  -- with the move m after ms it ends; perhaps with the very move that begins it
  pub data Ends (ms : Moves) (m : Move) (c : ℕ) (j : Job) : Type 0 where
    later : UnderWay c j ms → (done ms m).who ≡ c → Ends ms m c j
    at_once : Begins ms m c j → (done ms m).who ≡ c → Ends ms m c j

  -- among the moves ms, a begin that was not refused asked for j
  pub record Asked (ms : Moves) (j : Job) : Type 0 where
    pub before : Moves
    pub move : Move
    pub within : before ▸ move ≼ ms
    pub client : ℕ
    pub begins : Begins before move client j
