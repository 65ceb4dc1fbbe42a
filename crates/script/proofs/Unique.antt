-- No second answer, and no second content of lent memory, meets the promise of a public function.
use Prim.Native.Nat.{ℕ}
use mathlib.Core.List.{List}
use mathlib.Core.Path.{◌≡◌}
use lib.ListN.{drop}
use Rattle.num.proofs.Unique.{once}
use Rattle.std.specs.Prelude.{Option, Result}
use Rattle.num.specs.declared.refusal.Refusal.{Refusal}
use Rattle.layout.specs.declared.Layout.{Layout}
use Rattle.client.specs.declared.state.Job.{Job}
use Rattle.rule.specs.declared.Step.{Step}
use Rattle.script.specs.declared.step.Got.{Got}
use Rattle.script.specs.declared.judge.Judged.{Judged}
use Rattle.script.specs.Steps.{got_at}
use Rattle.script.specs.Play.{judged_of}
use Rattle.script.specs.Put.{StartPut, StepPut}

-- step_at
pub step_at_once : (b : List ℕ) (at : ℕ) {r q : Option Got} → r ≡ got_at (drop at b) → q ≡ got_at (drop at b) → r ≡ q
step_at_once b at e f = once e f

-- judge
pub judge_once : (b : List ℕ) {r q : Result Judged Refusal} → r ≡ judged_of b → q ≡ judged_of b → r ≡ q
judge_once b e f = once e f

-- put_start
pub put_start_once : (l : Layout) (n : ℕ) (out : List ℕ) {r q : Option ℕ} {m k : List ℕ} → StartPut l n out r m → StartPut l n out q k → (r ≡ q) × (m ≡ k)
put_start_once l n out x y = (once x.count_is y.count_is, once x.buffer_is y.buffer_is)

-- put_step
pub put_step_once : (s : Step) (j : Job) (at : ℕ) (out : List ℕ) {r q : Option ℕ} {m k : List ℕ} → StepPut s j at out r m → StepPut s j at out q k → (r ≡ q) × (m ≡ k)
put_step_once s j at out x y = (once x.count_is y.count_is, once x.buffer_is y.buffer_is)
