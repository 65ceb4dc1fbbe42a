-- From what the layouts' functions promise to what a row is told of example 10's layout.
use Rattle.std.proofs.Common.{◌≡◌, ℕ, ◌%◌, [], ◌∷◌, get_or, Result, Ok, Err, IsOk, refl, sym, ap, ◌∙◌, arith}
use Rattle.std.proofs.lemmas.List.{get_or-replicate}
use Rattle.num.specs.declared.refusal.Refusal.{Refusal}
use Rattle.num.specs.Bytes.{number_at, le, le_bytes}
use Rattle.num.specs.Refusals.{number, answered}
use Rattle.num.proofs.Refusals.{number_above}
use Rattle.layout.specs.declared.Chain.{Chain}
use Rattle.layout.specs.declared.Layout.{Layout}
use Rattle.layout.specs.declared.Wish.{Wish}
use Rattle.layout.specs.Lay.{rising, good_set, good_sets, good_spans, first_at_zero, used, good, ◌in?◌, in_sets, used_from, units_of}
use Rattle.layout.specs.Value.{padded, lay_of, value_of, zeros, tidy_chain, tidy_chains, blank_ranges, tidy, good_value, no_wish, no_chain, blank}
use Rattle.layout.specs.Codec.{sets_bytes, spans_bytes, sets_at, past_sets, spans_at, decode, encode, same, is_layout, read_layout, read_answer}
use Rattle.layout.specs.Plan.{Planned, planned_in, planned_for}
use Rattle.marked.specs.Lays.{told, tenth, drop_told}

-- the bytes are those of a good layout, computed
tenth_fine : read_answer tenth ≡ 0
unfolding rising good_set good_sets good_spans first_at_zero used good ◌in?◌ in_sets used_from units_of padded lay_of value_of zeros tidy_chain tidy_chains blank_ranges tidy good_value sets_bytes spans_bytes sets_at past_sets spans_at decode encode same is_layout number_at le le_bytes
tenth_fine = refl

fine_is_ok : {A : Type 0} (r : Result A Refusal) → answered r ≡ 0 → IsOk r
fine_is_ok (Ok x) e = refl
fine_is_ok (Err r) e = absurd (number_above r e)

pub tenth_read : (r : Result Layout Refusal) → answered r ≡ read_answer tenth → IsOk r
tenth_read r e = fine_is_ok r (e ∙ tenth_fine)

abbrev past : Chain
past = record { count = 0; units = [] }

module _ {l : Layout} {w : Wish} (a b k : ℕ) (is : l ≡ read_layout tenth) (none : w ≡ no_wish) where
  drop_as : (s : Planned) → s ≡ planned_for l (a ∷ b ∷ []) w → told s.answer (get_or s.layout.sets (k % 16) past).count (number_at 4 0 (get_or s.layout.sets (k % 16) past).units) ≡ drop_told a b k
  unfolding drop_told
  drop_as s e = rw (e, is, none)

  -- where the plan is refused no set has a unit
  pub drop_refused : (f : Refusal) → planned_in (Err f) ≡ planned_for l (a ∷ b ∷ []) w → told (number f) 0 0 ≡ drop_told a b k
  unfolding number_at le
  drop_refused f e =
      let blank_set : get_or blank.sets (k % 16) past ≡ no_chain = get_or-replicate 16 (k % 16) no_chain past (omega arith) in
      ap (λ (c : Chain). told (number f) c.count (number_at 4 0 c.units)) (sym blank_set) ∙ drop_as (planned_in (Err f)) e
