-- A request at its machine, over the eight memories.
use Prim.Native.Nat.{ℕ}
use mathlib.Core.Bool.{true, cond}
use mathlib.Core.List.{List, []}
use mathlib.Core.Path.{◌≡◌, refl, sym}
use borrow.Author.Tests.{ne_eqb}
use lib.Dec.{eqb}
use Rattle.std.specs.Prelude.{Result, Err}
use Rattle.num.specs.declared.Edges.{Edges}
use Rattle.num.specs.declared.refusal.Refusal.{Refusal}
use Rattle.num.specs.Refusals.{number}
use Rattle.num.proofs.Numbers.{Bytes}
use Rattle.num.proofs.Refusals.{number_above}
use Rattle.layout.specs.declared.Layout.{Layout}
use Rattle.layout.specs.Value.{blank}
use Rattle.layout.specs.Holder.{fetched_from, offered_to}
use Rattle.unit.specs.Shape.{shape_of}
use Rattle.unit.specs.Memory.{code_of}
use Rattle.sequencer.specs.declared.Sequencer.{Sequencer}
use Rattle.sequencer.specs.declared.Asked.{Asked}
use Rattle.sequencer.specs.Rules.{Told, Served}
use Rattle.sequencer.proofs.Unique.{told_is}
use Rattle.client.specs.declared.Page.{Page}
use Rattle.client.specs.declared.UnitAsk.{UnitAsk}
use Rattle.client.specs.declared.Ask.{Ask}
use Rattle.client.specs.declared.Ask.TheVariants.{Fetch, Unit, Offer}
use Rattle.client.specs.declared.Reply.TheVariants.{Held, Fine, Edged, Refused}
use Rattle.client.specs.declared.Response.{Response}
use Rattle.client.specs.Message.{no_page}
use Rattle.rule.specs.declared.Yard.{Yard}
use Rattle.rule.specs.World.{shape_under}
use Rattle.rule.specs.Lent.{good_units, units_in, units_bytes}
use Rattle.rule.specs.Serve.{saying, bare, edges_or, telling, asking, fetching, offering_to, unit_says, unit_after, serve}
use Rattle.rule.proofs.Testing.{units_same}
use Rattle.yard.specs.InsideParts.{response_in, unit_of, AtUnit, world_of, with_held_in, IsServed}

-- a refusal is no 0
pub refused_case : {A : Type 0} (e : Refusal) (x y : A) → cond (eqb (number e) 0) x y ≡ y
refused_case e x y = rw (ne_eqb (number e) 0 (number_above e))

-- a refusal that `?` passes on
pub passed_reply : {r : Result Response Refusal} {e : Refusal} → (x : Refusal) × (r ≡ Err x) × (x ≡ e) → response_in r ≡ bare (Refused (number e))
passed_reply is = rw (is.1, is.2)

pub passed_saying : {r : Result Response Refusal} {e : Refusal} → (x : Refusal) × (r ≡ Err x) × (x ≡ e) → response_in r ≡ bare (saying (number e))
passed_saying {e = e} is = rw (refused_case e Fine (Refused (number e))) (passed_reply is)

pub passed_edges : (x : Edges) {r : Result Response Refusal} {e : Refusal} → (y : Refusal) × (r ≡ Err y) × (y ≡ e) → response_in r ≡ bare (edges_or (number e) x)
passed_edges x {e = e} is = rw (refused_case e (Edged x) (Refused (number e))) (passed_reply is)

module _ (y : Yard) (s : Sequencer) (m : List ℕ) (b : Bytes m) (g : good_units y.held.shape 1 8 m ≡ true) (p : Page) (l : Layout) where
  same : m ≡ units_bytes (shape_under y.held) (units_in (shape_under y.held) 8 m)
  same = sym (units_same y.held.shape 1 8 m b g)

  -- ---- the holder

  pub fetches : {h : Layout} → record { answer = 0; layout = h } ≡ fetched_from y.held → IsServed y (serve (world_of y s [] m) Fetch p l) (record { reply = Held; page = no_page; layout = h }) y s m
  unfolding serve fetching
  fetches e = record { response_is = rw (← e); yard_is = refl; sequencer_is = refl; memories_is = same }

  pub fetches_not : (r : Refusal) → record { answer = number r; layout = blank } ≡ fetched_from y.held → IsServed y (serve (world_of y s [] m) Fetch p l) (bare (Refused (number r))) y s m
  unfolding serve fetching
  fetches_not r e = record { response_is = rw (← e, refused_case r); yard_is = refl; sequencer_is = refl; memories_is = same }

  pub offers : {n : ℕ} {h : Layout} → record { answer = n; held = h } ≡ offered_to y.held l → IsServed y (serve (world_of y s [] m) Offer p l) (bare (saying n)) (with_held_in y h) s m
  unfolding serve offering_to
  offers e = record { response_is = rw (← e); yard_is = rw (← e); sequencer_is = refl; memories_is = same }

  -- ---- the sequencer

  pub asks : (a : Asked) (k : Ask) {t : Told} {q : Sequencer} → serve (world_of y s [] m) k p l ≡ asking (world_of y s [] m) a → Served s a t q → IsServed y (serve (world_of y s [] m) k p l) (bare (telling t)) y q m
  unfolding asking
  asks a k is d = rw is (record { response_is = rw (told_is d); yard_is = refl; sequencer_is = d.after_is; memories_is = same })

-- a unit has served, in the shape that the first memory names, which is the yard's: the holder and the sequencer are as they were
pub at_unit_lem : (y : Yard) (s : Sequencer) (m : List ℕ) (g : Page) (l : Layout) (u : ℕ) (q : UnitAsk) {r : Response} {after : List ℕ} → code_of m ≡ y.held.shape
    → AtUnit (shape_of m) m u (unit_says (shape_of m) (unit_of (shape_of m) m u) q g) (unit_after (shape_of m) (unit_of (shape_of m) m u) q g) r after
    → IsServed y (serve (world_of y s [] m) (Unit u q) g l) r y s after
unfolding serve
at_unit_lem y s m g l u q c k = let d = rw c at k in record { response_is = d.response_is; yard_is = refl; sequencer_is = refl; memories_is = d.memories_is }
