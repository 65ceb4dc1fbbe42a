use Rattle.std.proofs.Common.{◌≡◌, ℕ, Bool, true, false, cond, refl, ap, ◌∙◌, rules}
use Rattle.num.specs.Refusals.{answered}
use Rattle.num.proofs.Refusals.{number_above, handed_on}
use Rattle.unit.specs.Kinds.{is_gone, held_code}
use Rattle.unit.specs.Memory.{decode}
use Rattle.unit.specs.Unit.{says}
use Rattle.unit.proofs.Questions.{unwritten_held}
use Rattle.unit.proofs.good.Good.may_read.Goals as goal

-- the first three rows, and what is left of the table where none of them applies
abbrev first : Bool → Bool → Bool → ℕ → ℕ
first a b c later = cond a 2 (cond b 4 (cond c 5 later))

refused : (a b c : Bool) (later : ℕ) → (first a b c 0 ≡ 0 → ⊥) → first a b c 0 ≡ first a b c later
refused true b c l h = refl
refused false true c l h = refl
refused false false true l h = refl
refused false false false l h = absurd (h refl)

left : (a b c : Bool) (later : ℕ) → 0 ≡ first a b c 0 → later ≡ first a b c later
left true b c l h = cc
left false true c l h = cc
left false false true l h = cc
left false false false l h = refl

pub returns-in_err-lowest-clause-answer : goal.returns-in_err-lowest-clause-answer
unfolding decode says is_gone
returns-in_err-lowest-clause-answer c =
    let gone : c.is_some_and-gone.result ≡ is_gone (held_code c.args.held) = search rules in
    let e = rw (c.when.ensures, c.when-2.ensures, c.when-3.ensures, gone, c.from.ensures, c.sealed.ensures, c.floor.ensures, c.requires) at c.in_err-lowest.ensures in
    handed_on _ _ c.from_residual.ensures.1 ∙ e ∙ refused _ _ _ _ (λ z. number_above _ (e ∙ z))

pub returns-clause-answer : goal.returns-clause-answer
unfolding decode says is_gone
returns-clause-answer c =
    let gone : c.is_some_and-gone.result ≡ is_gone (held_code c.args.held) = search rules in
    let e = rw (c.when.ensures, c.when-2.ensures, c.when-3.ensures, gone, c.from.ensures, c.sealed.ensures, c.floor.ensures, c.requires) at c.in_ok-lowest.ensures in
    ap answered c.ok_or.ensures.value ∙ unwritten_held c.args.held ∙ rw c.requires (left _ _ _ _ e)
