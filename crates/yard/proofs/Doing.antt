-- What a unit's functions promise of its memory, said of the unit: what it says, and the memory of what it becomes. The shape is the one that the memory names.
use Prim.Native.Nat.{ℕ, ◌+◌, ◌≤◌, ◌<◌, ◌^◌}
use mathlib.Core.Bool.{true}
use mathlib.Core.List.{List}
use mathlib.Core.Path.{◌≡◌, refl, sym, ap, ◌∙◌}
use native.Mathlib.Omega.{arith}
use borrow.Author.Tests.{le-leb}
use denote.Enum.Declared.{tag_of}
use lib.ListN.{length}
use Rattle.num.specs.Limits.{last_epoch}
use Rattle.num.specs.declared.Edges.{Edges}
use Rattle.num.specs.declared.Epoch.{Epoch}
use Rattle.num.specs.declared.Position.{Position}
use Rattle.num.proofs.Numbers.{Bytes}
use Rattle.unit.specs.declared.shape.Shape.{Shape}
use Rattle.unit.specs.Shape.{shape_of}
use Rattle.unit.specs.State.{State}
use Rattle.unit.specs.Unit.{Request, Report, says, after, report, in_time}
use Rattle.unit.specs.Unit.Request.{read, seal}
use Rattle.unit.specs.Memory.{good, code_of, decode, encode}
use Rattle.unit.specs.Rules.{reported}
use Rattle.unit.specs.Promises.{IsAnswered, IsSealed, IsRead}
use Rattle.unit.specs.Holding.{Holds}
use Rattle.unit.proofs.Shapes.{sized}
use Rattle.unit.proofs.Encoding.{encode_decode}
use Rattle.unit.proofs.Payload as payload
use Rattle.unit.proofs.Holding.{holds, says_held, report_held, after_held}
use Rattle.unit.specs.Kinds.{kind_code}
use Rattle.unit.specs.declared.kind.Kind.{Kind}
use Rattle.unit.specs.declared.kind.Kind.TheVariants.{Data, Junk, Retired, Stray}
use Rattle.unit.specs.contracts.kind.Kind as K
use Rattle.client.specs.Message.{page_limit}
use Rattle.rule.specs.Serve.{saying, bare, edges_or, edged}
use Rattle.yard.specs.InsideParts.{OnUnit}

-- a memory that holds a unit is its encoding
encoded : {sh : Shape} {m : List ℕ} {u : State} → Bytes m → Holds sh m u → m ≡ encode sh u
encoded {sh} {m} b h = sym (encode_decode sh m b h.is_good) ∙ ap (encode sh) h.unit

module _ (m : List ℕ) (b : Bytes m) (g : good (shape_of m) m ≡ true) where
  abbrev sh : Shape
  sh = shape_of m

  room : sh.room < 256 ^ 2
  room = (sized (code_of m)).room

  -- what a request says of the unit, and what is left of it
  does : {r : Request} {n : ℕ} {left : List ℕ} → in_time r ≡ true → IsAnswered m r n left → Bytes left → (n ≡ says sh (decode sh m) r) × (left ≡ encode sh (after sh (decode sh m) r))
  does {r} t w k = let h = holds sh m b g in (w.answer_is ∙ says_held h r, encoded k (rw w.memory_is (after_held h r room t)))

  -- every request but a read and a seal
  pub answered_on : {r : Request} {n : ℕ} {left : List ℕ} → in_time r ≡ true → IsAnswered m r n left → Bytes left → OnUnit sh (bare (saying (says sh (decode sh m) r))) (after sh (decode sh m) r) (bare (saying n)) left
  answered_on t w k = let d = does t w k in record { response_is = ap (λ (n : ℕ). bare (saying n)) d.0; memory_is = d.1 }

  pub sealed_on : {e : Epoch} {n : ℕ} {x : Edges} {left : List ℕ} → e.0 ≤ last_epoch → IsSealed m e n x left → Bytes left → OnUnit sh (bare (edged sh (decode sh m) e)) (after sh (decode sh m) (seal e)) (bare (edges_or n x)) left
  unfolding edged
  sealed_on {e} h w k =
      let d = does (le-leb e.0 last_epoch h) w.answered k in
      let t = w.edges_is ∙ ap (λ (t : Report). t.edges) (report_held (holds sh m b g) (seal e)) in
      record { response_is = rw (d.0, t); memory_is = d.1 }

  pub read_on : {e : Epoch} {p : Position} {n kind at size : ℕ} → IsRead m e p n kind at size → n ≡ says sh (decode sh m) (read e p)
  read_on w = (does refl w.answered b).0

  pub tells : (r : Request) → reported sh m r ≡ report sh (decode sh m) r
  tells r = report_held (holds sh m b g) r

-- a payload fits into its slot, and so into a page
pub payload_short : (m : List ℕ) (e : Epoch) (p : Position) → length (reported (shape_of m) m (read e p)).page.payload ≤ page_limit
payload_short m e p = omega (arith, (payload.shown (shape_of m) m e p).short, (sized (code_of m)).page)

-- the byte of a kind
pub kind_byte : (k : Kind) → tag_of K.the_type k + 1 ≡ kind_code k
kind_byte Data = refl
kind_byte Junk = refl
kind_byte Retired = refl
kind_byte Stray = refl
