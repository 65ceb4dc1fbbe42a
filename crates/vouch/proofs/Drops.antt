-- Any list of drops that names of the layout's units exactly the stopped ones, in any order and with repeats, plans the same new layout.
-- Rests on Dropping, Forward and the layout's laws.
use mathlib.Core.Path.{◌≡◌, refl, sym, ap, ap₂, ◌∙◌}
use mathlib.Core.Bool.{Bool, true, false, not, ◌&&◌, ◌||◌, cond}
use mathlib.Core.List.{List, [], ◌∷◌, ◌++◌, map}
use Prim.Native.Nat.{ℕ, ◌+◌, ◌-◌, ◌≤◌}
use native.Mathlib.Omega.{arith}
use borrow.Author.Tests.{le-leb}
use lib.Dec.{eqb, leb}
use lib.ListN.{length, get_or}
use Rattle.layout.specs.declared.Wish.{Wish}
use Rattle.layout.specs.Lay.{Lay, ◌in?◌, in_sets, good_set, good_sets}
use Rattle.layout.specs.Value.{lay_of, value_of}
use Rattle.layout.specs.Plan.{without, bad_drops, emptied, planned, plan_answer, reorganise_answer, planned_for, good_chains}
use Rattle.layout.proofs.ValueOf.{value_of_good}
use Rattle.layout.proofs.GoodLay.{Good, good_says}
use Rattle.layout.proofs.GoodSets.{is_good_set}
use Rattle.layout.proofs.ReorganiseAnswer.{fine_checks, fine_reorganise, planned_fine}
use Rattle.layout.proofs.InSets.{in_first, in_later}
use Rattle.layout.proofs.UnitsOf.{in_units}
use Rattle.layout.proofs.Rising.{rising_within}
use Rattle.num.proofs.Tests.{and_both}
use Rattle.client.specs.declared.state.Job.{Job}
use Rattle.client.specs.Way.{drops_of}
use Rattle.rule.specs.World.{World, is_unit}
use Rattle.vouch.specs.LastSentence.{stopped_units, new_layout, Conditions, DropsStopped}
use Rattle.vouch.proofs.Dropping.{in_drops, none_emptied}
use Rattle.vouch.proofs.Forward.{Sound, offered}

-- ---- two lists that name the same units of the sets

module _ (ds es : List ℕ) where
  without_same : (us : List ℕ) → ((u : ℕ) → (u in? us) ≡ true → (u in? ds) ≡ (u in? es)) → without ds us ≡ without es us
  unfolding without
  without_same [] same = refl
  without_same (u ∷ us) same =
      ap₂ (λ (b : Bool) (vs : List ℕ). cond b vs (u ∷ vs)) (same u (in_first u u us refl)) (without_same us (λ v i. same v (in_later v u us i)))

  sets_same : (sets : List (List ℕ)) → ((u : ℕ) → in_sets u sets ≡ true → (u in? ds) ≡ (u in? es)) → map (without ds) sets ≡ map (without es) sets
  unfolding in_sets
  sets_same [] same = refl
  sets_same (us ∷ sets) same =
      ap₂ ◌∷◌ (without_same us (λ u i. same u (rw i))) (sets_same sets (λ u i. same u (later (u in? us) (in_sets u sets) i)))
    where
      later : (a b : Bool) → b ≡ true → (a || b) ≡ true
      later true b e = refl
      later false b e = e

  emptied_same : (sets : List (List ℕ)) → map (without ds) sets ≡ map (without es) sets → emptied ds sets ≡ emptied es sets
  unfolding emptied
  emptied_same [] same = refl
  emptied_same (us ∷ sets) same =
      ap₂ (λ (vs : List ℕ) (b : Bool). eqb (length vs) 0 || b) (ap (λ (ss : List (List ℕ)). get_or ss 0 []) same) (emptied_same sets (ap (λ (ss : List (List ℕ)). lib.ListN.drop 1 ss) same))

within_good : (ds : List ℕ) → ((u : ℕ) → (u in? ds) ≡ true → is_unit u ≡ true) → bad_drops ds [] ≡ false
unfolding bad_drops in_sets
within_good [] within = refl
within_good (d ∷ ds) within =
    let r = and_both (leb 1 d) (leb d 8) (within d (in_first d d ds refl)) in
    rw (r.0, r.1) (within_good ds (λ u i. within u (in_later u d ds i)))

-- ---- the plan

in_range : (sets : List (List ℕ)) (u : ℕ) → good_sets sets ≡ true → in_sets u sets ≡ true → (1 ≤ u) × (u ≤ 8)
unfolding good_sets in_sets
in_range [] u good i = absurd (let z : ◌≡◌ {A = ℕ} 0 1 = cc in omega arith)
in_range (us ∷ sets) u good i =
    let both = and_both (good_set us) (good_sets sets) good in
    go (u in? us) refl i both.0 (in_range sets u both.1)
  where
    go : (b : Bool) → (u in? us) ≡ b → (b || in_sets u sets) ≡ true → good_set us ≡ true → (in_sets u sets ≡ true → (1 ≤ u) × (u ≤ 8)) → (1 ≤ u) × (u ≤ 8)
    go true e i one rest = let r = rising_within 0 us u (is_good_set us one).rise e in (omega (arith, r.0), r.1)
    go false e i one rest = rest i

module _ (w : World) (c : ℕ) (sound : Sound w) (may : Conditions w c) (j : Job) (drops : DropsStopped w j) where
  abbrev held_lay : Lay
  held_lay = lay_of w.held

  abbrev ds : List ℕ
  ds = drops_of j.change

  held_good : Good held_lay
  held_good = good_says held_lay (value_of_good w.held sound.held_good).0

  same : (u : ℕ) → in_sets u held_lay.sets ≡ true → (u in? ds) ≡ (u in? stopped_units w)
  same u i =
      let r = in_range held_lay.sets u held_good.sets_good i in
      drops.drops_are u (in_units held_lay.sets u i r.0 r.1)
      ∙ (stopped (is_unit u) (get_or w.stopped (u - 1) true) (rw (le-leb 1 u r.0, le-leb u 8 r.1))
      ∙ sym (in_drops w.stopped sound.eight_stopped u r.0 r.1))
    where
      stopped : (a b : Bool) → a ≡ true → not (a && not b) ≡ b
      stopped true true e = refl
      stopped true false e = refl
      stopped false b e = absurd (let z : ◌≡◌ {A = ℕ} 0 1 = cc in omega arith)

  sets_are : map (without ds) held_lay.sets ≡ map (without (stopped_units w)) held_lay.sets
  sets_are = sets_same ds (stopped_units w) held_lay.sets same

  plan_fine : plan_answer held_lay ds [] ≡ 0
  unfolding plan_answer lay_of good_sets
  plan_fine = fine_checks held_lay ds true [] (record {
    epoch_left = may.epoch_left;
    drops_good = within_good ds drops.drops_within;
    new_good = refl;
    none_lost = emptied_same ds (stopped_units w) held_lay.sets sets_are ∙ none_emptied w.stopped sound.eight_stopped held_lay.sets may.set_works;
    sets_fit = omega (arith, held_good.sets_few);
    spans_fit = omega (arith, held_good.spans_few);
  })

  -- no new range, whatever stands past the count
  abbrev wish : Wish
  wish = record { count = 0; sets = j.change.wish.sets }

  reorganise_none : reorganise_answer w.held ds wish ≡ 0
  unfolding good_chains
  reorganise_none = fine_reorganise w.held ds wish (record { held_good = sound.held_good; wish_good = refl; plan = plan_fine })

  lay_same : new_layout w ≡ planned held_lay ds [] 0
  unfolding planned
  lay_same = ap (λ (ss : List (List ℕ)). record { epoch = held_lay.epoch + 1; shape = held_lay.shape; sets = ss ++ []; spans = held_lay.spans ++ [] }) (sym sets_are)

  pub any_plan : planned_for w.held ds j.change.wish ≡ record { answer = 0; layout = offered w c sound may }
  any_plan =
      ap (λ (n : ℕ). planned_for w.held ds (record { count = n; sets = j.change.wish.sets })) drops.without_range
      ∙ sym (planned_fine w.held ds wish (offered w c sound may) reorganise_none (ap value_of lay_same))
