-- What a caller learns from the answer of a judged file.
use Prim.Native.Nat.{ℕ}
use mathlib.Core.Bool.{Bool, true, false}
use mathlib.Core.List.{List}
use mathlib.Core.Path.{◌≡◌, refl, ap, ◌∙◌}
use Rattle.std.specs.Prelude.{Result, Ok, Err}
use Rattle.num.specs.declared.refusal.Refusal.{Refusal}
use Rattle.num.specs.declared.refusal.Refusal.TheVariants.{Play}
use Rattle.script.specs.declared.judge.Judged.{Judged}
use Rattle.script.specs.Play.{layout_of, count_of, first_of, is_play, judged_of}

-- it is a play, and these are its parts
pub record Fine (b : List ℕ) (j : Judged) : Type 0 where
  pub holds_play : is_play b ≡ true
  pub layout_is : j.layout ≡ layout_of b
  pub count_is : j.count ≡ count_of b
  pub first_is : j.first ≡ first_of b

module _ (b : List ℕ) where
  pub judged_yes : is_play b ≡ true → judged_of b ≡ Ok (record { layout = layout_of b; count = count_of b; first = first_of b })
  unfolding judged_of
  judged_yes h = rw h

  pub judged_no : is_play b ≡ false → judged_of b ≡ Err Play
  unfolding judged_of
  judged_no h = rw h

  pub judged_fine : {j : Judged} → Ok j ≡ judged_of b → Fine b j
  judged_fine {j} e = go (is_play b) refl
    where
      go : (t : Bool) → is_play b ≡ t → Fine b j
      go true y =
          let both : Ok j ≡ Ok (record { layout = layout_of b; count = count_of b; first = first_of b }) = e ∙ judged_yes y in
          let is : j ≡ record { layout = layout_of b; count = count_of b; first = first_of b } = cc in
          record {
            holds_play = y;
            layout_is = ap (λ (x : Judged). x.layout) is;
            count_is = ap (λ (x : Judged). x.count) is;
            first_is = ap (λ (x : Judged). x.first) is;
          }
      go false y = let both : Ok j ≡ Err Play = e ∙ judged_no y in cc

  pub judged_none : {r : Refusal} → Err r ≡ judged_of b → (is_play b ≡ false) × (r ≡ Play)
  judged_none {r} e = go (is_play b) refl
    where
      go : (t : Bool) → is_play b ≡ t → (is_play b ≡ false) × (r ≡ Play)
      go true y = let both : ◌≡◌ {A = Result Judged Refusal} (Err r) (Ok (record { layout = layout_of b; count = count_of b; first = first_of b })) = e ∙ judged_yes y in absurd cc
      go false y = let both : Err r ≡ Err Play = e ∙ judged_no y in let is : r ≡ Play = cc in (y, is)
