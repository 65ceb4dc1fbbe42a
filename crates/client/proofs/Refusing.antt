-- What a machine refuses by is one of the refusals numbered 1 to 12.
use Rattle.std.proofs.Common.{ℕ, ◌≤◌, Result, Ok, Err, ne_eqb, le-ltb, arith}
use Rattle.std.specs.Result.{result_ok}
use Rattle.num.specs.declared.refusal.Refusal.{Refusal}
use Rattle.num.specs.declared.refusal.Refusal.TheVariants.{Memory, Position, Page, Sealed, Trimmed, Written, Unwritten, Full, Spent, Layout, Overtaken, Successor}
use Rattle.num.specs.Refusals.{Numbered}
use Rattle.client.specs.Message.{last_refusal, no_refusal, IsRefusal}

pub machine_refusal : (n : ℕ) (r : Result Refusal ℕ) → Numbered n r → 1 ≤ n → n ≤ last_refusal → IsRefusal n (result_ok r)
unfolding no_refusal
machine_refusal n (Ok x) e some few = (e, rw (ne_eqb n 0 (λ z. omega arith), le-ltb last_refusal n few))
machine_refusal n (Err m) e some few =
    absurd (omega (arith, e.1 Memory, e.1 Position, e.1 Page, e.1 Sealed, e.1 Trimmed, e.1 Written, e.1 Unwritten, e.1 Full, e.1 Spent, e.1 Layout, e.1 Overtaken, e.1 Successor))
