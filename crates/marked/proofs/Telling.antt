-- From what a unit's function promises to what a run of writes is told.
use Rattle.std.proofs.Common.{◌≡◌, ℕ, ◌+◌, List, Result, Ok, Err, cond, eqb, refl, ◌∙◌, add-one, ne_eqb}
use Rattle.std.specs.Result.{result_and}
use Rattle.num.specs.declared.refusal.Refusal.{Refusal}
use Rattle.num.specs.Refusals.{answered, number}
use Rattle.num.proofs.Refusals.{number_above}
use Rattle.unit.specs.Promises.{IsAnswered}
use Rattle.marked.specs.Asks.{data_at, fill_memory, fill_answer, IsFilled}
use Rattle.marked.specs.Lays.{told}

-- the first refusal of two
pub and_answered : {A B : Type 0} (a : Result A Refusal) (b : Result B Refusal) → answered (result_and a b) ≡ cond (eqb (answered a) 0) (answered b) (answered a)
and_answered (Ok x) b = refl
and_answered (Err r) b = rw (ne_eqb (number r) 0 (number_above r))

pub told_eq : {a a' b b' c c' : ℕ} → a ≡ a' → b ≡ b' → c ≡ c' → told a b c ≡ told a' b' c'
told_eq p q r = rw (p, q, r)

-- a run of writes, position by position
pub filled_none : (m : List ℕ) → IsFilled m 0 0 m
unfolding fill_answer fill_memory
filled_none m = record { answer_is = refl; memory_is = refl }

pub filled_more : {m after later : List ℕ} {p answer number r : ℕ} → IsFilled m p answer after → IsAnswered after (data_at p) number later
    → r ≡ cond (eqb answer 0) number answer → IsFilled m (p + 1) r later
unfolding fill_answer fill_memory
filled_more {m} {p = p} f w e =
    rw (add-one p) (record {
      answer_is = e ∙ rw (w.answer_is, f.answer_is, f.memory_is);
      memory_is = w.memory_is ∙ rw f.memory_is;
    })
