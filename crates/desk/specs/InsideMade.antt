-- On the way to a plan told: what the inner functions promise.
use Rattle.std.specs.Prelude.{ℕ, cond, List, [], ◌≡◌, eqb, length, replicate}
use Rattle.std.proofs.lemmas.List.Edits.{sets}
use Rattle.layout.specs.declared.Layout.{Layout}
use Rattle.layout.specs.declared.Wish.{Wish}
use Rattle.layout.specs.Value.{no_chain, blank}
use Rattle.layout.specs.Codec.{sets_said, are_sets, bytes_of}
use Rattle.desk.specs.Told.{made_answer, new_layout, plan_told}

-- the sets that name a unit: none where the bytes are not good sets
unfoldable pub named_sets : List ℕ → List (List ℕ)
named_sets b = cond (are_sets b) (sets_said b) []

-- one empty set
abbrev pub empty_wish : Wish
empty_wish = record { count = 1; sets = replicate 16 no_chain }

-- the new layout; none where it is refused
pub record IsMade (held : Layout) (drops new : List ℕ) (edge answer : ℕ) (layout : Layout) : Type 0 where
  pub answer_is : answer ≡ made_answer held drops new edge
  pub layout_is : layout ≡ cond (eqb (made_answer held drops new edge) 0) (new_layout held drops new edge) blank

-- what is answered, how many bytes were written, and the buffer afterwards
pub record IsDone (held : Layout) (drops new : List ℕ) (edge : ℕ) (out : List ℕ) (answer count : ℕ) (after : List ℕ) : Type 0 where
  pub answer_is : answer ≡ plan_told held drops new edge out
  pub out_is : after ≡ cond (eqb (plan_told held drops new edge out) 0) (sets out 0 (bytes_of (new_layout held drops new edge))) out
  pub count_is : answer ≡ 0 → count ≡ length (bytes_of (new_layout held drops new edge))
