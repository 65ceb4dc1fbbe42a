-- The machines of the yard and the history go together; and whatever a machine answers to a request that vouches for what it must, means what it says.
-- Rests on Meaning, Lists and on the laws of units and of the holder.
use mathlib.Core.Path.{◌≡◌, refl, sym, subst, ◌∙◌}
use mathlib.Core.Bool.{Bool, true, false, not, cond}
use Prim.Native.Nat.{ℕ, ◌-◌, ◌≤◌}
use native.Mathlib.Omega.{arith}
use lib.Dec.{eqb}
use lib.ListN.{length, length-set, get_or}
use Rattle.num.specs.declared.Epoch.{Epoch as EpochValue}
use Rattle.num.specs.declared.Position.{Position}
use Rattle.layout.specs.declared.Layout.{Layout}
use Rattle.layout.specs.Value.{lay_of, good_value}
use Rattle.layout.specs.Holder.{offered_to}
use Rattle.unit.specs.Shape.{shape_for}
use Rattle.unit.proofs.Shapes.{sized}
use Rattle.unit.specs.State.{State}
use Rattle.unit.specs.Unit.{fresh_unit, says, after as unit_after_lem}
use Rattle.unit.proofs.Answers.{after_read}
use Rattle.sequencer.specs.declared.Sequencer.{Sequencer}
use Rattle.sequencer.specs.declared.Asked.{Asked}
use Rattle.sequencer.specs.declared.Asked.TheVariants as asked
use Rattle.sequencer.specs.Rules.{number, becomes, after}
use Rattle.client.specs.declared.Page.{Page as PageValue}
use Rattle.client.specs.declared.Ask.{Ask}
use Rattle.client.specs.declared.UnitAsk.TheVariants.{Write, Read, Trim, Prune, Seal}
use Rattle.client.specs.declared.Ask.TheVariants.{Fetch, Token, Unit, Offer, Start}
use Rattle.client.specs.declared.Reply.{Reply}
use Rattle.client.specs.declared.Reply.TheVariants.{Fine, Refused}
use Rattle.client.specs.declared.Response.{Response}
use Rattle.rule.specs.World.{World, shape_under, unit_at, is_unit}
use Rattle.rule.specs.Serve.{ServedWorld, saying, bare, kind_of, bytes_of, page_shown, edged, with_unit, with_sequencer, with_held, asking, offering_to, request_of, unit_says, unit_after, serve, unserved}
use Rattle.history.specs.Words.{UnitNo, Pos, Epoch}
use Rattle.history.specs.Maps.{Map}
use Rattle.history.specs.History.{Note, Stretch, Covers, History, ◌⊑◌, Noted, Laid, Mark, MarkedBy, held}
use Rattle.history.specs.History.Stretch.{only, up_to}
use Rattle.history.specs.History.Covers.{covers_only, covers_up_to}
use Rattle.history.specs.History.Mark.{gone}
use Rattle.history.specs.History.Event.{mark, seal, install}
use Rattle.history.specs.History.History.{◌▹◌}
use Rattle.history.specs.History.◌⊑◌.{here, later}
use Rattle.history.specs.History.Noted.{noted_before}
use Rattle.history.specs.Events.{MayMark, Run}
use Rattle.history.specs.Events.Run.{run_step}
use Rattle.vouch.proofs.Layouts.{map_of}
use Rattle.vouch.proofs.Carried.{carried}
use Rattle.history.proofs.Moments.{marked_by_now}
use Rattle.history.proofs.Epochs.{held_laid, held_rises, laid_good}
use Rattle.history.proofs.Edges.{sealed_at_now}
use Rattle.vouch.proofs.UnitIs.{UnitIs, WriteDone, MarkDone, SealDone, ReadDone}
use Rattle.vouch.proofs.UnitIs.WriteDone.{did_write, was_written_lem, no_write}
use Rattle.vouch.proofs.UnitIs.MarkDone.{did_mark, no_mark}
use Rattle.vouch.proofs.UnitIs.SealDone.{did_seal, no_seal}
use Rattle.vouch.proofs.UnitIs.ReadDone.{read_page, read_trimmed, read_unwritten, no_read}
use Rattle.vouch.proofs.Untouched.{install_is, mark_others, seal_others}
use Rattle.vouch.proofs.Writing.{write_does}
use Rattle.vouch.proofs.Trimming.{trim_does, prune_does}
use Rattle.vouch.proofs.Sealing.{seal_does}
use Rattle.vouch.proofs.Reading.{read_does}
use Rattle.vouch.proofs.Offers.{OfferDone, offer_does, fetch_does}
use Rattle.vouch.proofs.Offers.OfferDone.{installed, not_installed}
use Rattle.vouch.proofs.GoodMap.{epoch_of_lem}
use Rattle.rule.proofs.Lists.{set_all, unit_range, unit_runs}
use Rattle.vouch.proofs.Meaning.{AskOk, Means}
use Rattle.vouch.proofs.Meaning.AskOk.{fetch_ok, token_ok, write_ok, look_ok, trim_ok, prune_ok, seal_ok, offer_ok, start_ok}
use Rattle.vouch.proofs.Meaning.Means.{means_held, means_token, means_wrote, means_written, means_no_write, means_shown, means_trimmed, means_unwritten, means_no_read, means_cut, means_no_cut, means_pruned, means_no_prune, means_edges, means_no_seal, means_installed, means_no_install, means_start}

-- holder, sequencer and units are what the history made of them, each unit of the held layout's shape; stopped units too
pub record Machines (h : History) (w : World) : Type 0 where
  pub run : Run h
  pub held_is : held h ≡ map_of (lay_of w.held)
  pub held_good : good_value w.held ≡ true
  pub sequencer_low : w.sequencer.epoch.0 ≤ (held h).epoch
  pub units_long : length w.units ≡ 8
  pub units : (u : UnitNo) → 1 ≤ u → u ≤ 8 → UnitIs (shape_under w.held) h u (unit_at w u)

-- what came of a request that was served
pub record ServedOk (h : History) (w : World) (a : Ask) (g : PageValue) (k : Layout) (v : ServedWorld) : Type 0 where
  pub now : History
  pub part : h ⊑ now
  pub machines : Machines now v.world
  pub means : Means now a g k v.response
  pub clients_same : v.world.clients ≡ w.clients
  pub quiet : (n : Note) → Noted now n → Noted h n

-- ---- a unit that is asked is one of the eight

-- ---- units

with_unit_lem : {h now : History} {w : World} {u : UnitNo} (M : State) → Machines h w → Run now → held now ≡ held h → 1 ≤ u → u ≤ 8 → UnitIs (shape_under w.held) now u M →
    ((v : UnitNo) → ¬ (v ≡ u) → UnitIs (shape_under w.held) h v (unit_at w v) → UnitIs (shape_under w.held) now v (unit_at w v)) → Machines now (with_unit w u M)
with_unit_lem {h} {now} {w} {u} M m run same low high is others = record {
  run = run;
  held_is = same ∙ m.held_is;
  held_good = m.held_good;
  sequencer_low = subst (λ (L : Map). w.sequencer.epoch.0 ≤ L.epoch) (sym same) m.sequencer_low;
  units_long = length-set w.units (u - 1) M ∙ m.units_long;
  units = set_all (λ v N. UnitIs (shape_under w.held) now v N) fresh_unit w.units 8 u M m.units_long low high is (λ v from to ne. others v ne (m.units v from to));
}

-- only `ask` notes anything
mark_quiet : {h : History} {u : UnitNo} {e : Epoch} {ps : Stretch} {mk : Mark} (n : Note) → Noted (h ▹ mark u e ps mk) n → Noted h n
mark_quiet n (noted_before noted) = noted

seal_quiet : {h : History} {u : UnitNo} {e : Epoch} (n : Note) → Noted (h ▹ seal u e) n → Noted h n
seal_quiet n (noted_before noted) = noted

install_quiet : {h : History} {L : Map} (n : Note) → Noted (h ▹ install L) n → Noted h n
install_quiet n (noted_before noted) = noted

module _ {h : History} {w : World} (m : Machines h w) {u : UnitNo} (low : 1 ≤ u) (high : u ≤ 8) (g : PageValue) (k : Layout) where
  -- nothing happened, whatever was answered
  no_event : (a : Ask) (r : Response) (M : State) → UnitIs (shape_under w.held) h u M → Means h a g k r → ServedOk h w a g k (record { response = r; world = with_unit w u M })
  no_event a r M is means = record {
    now = h;
    part = here;
    machines = with_unit_lem M m m.run refl low high is (λ v ne old. old);
    means = means;
    clients_same = refl;
    quiet = λ n noted. noted;
  }

  -- the unit took a mark
  took : (a : Ask) {e : Epoch} {ps : Stretch} {mk : Mark} (M : State) → MayMark h u e ps mk → UnitIs (shape_under w.held) (h ▹ mark u e ps mk) u M →
      Means (h ▹ mark u e ps mk) a g k (bare Fine) → ServedOk h w a g k (record { response = bare Fine; world = with_unit w u M })
  unfolding held
  took a {e} {ps} {mk} M may is means = record {
    now = h ▹ mark u e ps mk;
    part = later here;
    machines = with_unit_lem M m (run_step m.run may) refl low high is (λ v ne old. mark_others old ne);
    means = means;
    clients_same = refl;
    quiet = mark_quiet;
  }

  wrote : (L : Map) (e : EpochValue) (p : Position) → L.epoch ≡ e.0 → Laid h L → (r : Reply) (M : State) → WriteDone (shape_under w.held) h u L p.0 (carried g) e.0 M r →
      ServedOk h w (Unit u (Write e p)) g k (record { response = bare r; world = with_unit w u M })
  wrote L e p at laid r M (did_write may is) = took (Unit u (Write e p)) M may is (means_wrote (marked_by_now covers_only))
  wrote L e p at laid r M (was_written_lem has is) = no_event (Unit u (Write e p)) (bare r) M is (means_written (record { by = L; laid = laid; epoch_is = at; has_it = has }))
  wrote L e p at laid r M (no_write n0 n6 is) = no_event (Unit u (Write e p)) (bare r) M is (means_no_write n6)

  -- a trim or a prune
  cut : (a : Ask) (e : Epoch) (ps : Stretch) → ((now : History) → ((p : Pos) → Covers ps p → MarkedBy now u p gone e) → Means now a g k (bare Fine)) → ((n : ℕ) → Means h a g k (bare (Refused n))) →
      (r : Reply) (M : State) → MarkDone (shape_under w.held) h u e ps gone M r → ServedOk h w a g k (record { response = bare r; world = with_unit w u M })
  cut a e ps fine refused r M (did_mark may is) = took a M may is (fine (h ▹ mark u e ps gone) (λ p there. marked_by_now there))
  cut a e ps fine refused r M (no_mark {n = n} n0 is) = no_event a (bare r) M is (refused n)

  was_sealed : (e : EpochValue) (r : Reply) (M : State) → SealDone (shape_under w.held) h u e.0 M r → ServedOk h w (Unit u (Seal e)) g k (record { response = bare r; world = with_unit w u M })
  unfolding held
  was_sealed e r M (did_seal may is edge) = record {
    now = h ▹ seal u e.0;
    part = later here;
    machines = with_unit_lem M m (run_step m.run may) refl low high is (λ v ne old. seal_others old ne);
    means = means_edges sealed_at_now edge;
    clients_same = refl;
    quiet = seal_quiet;
  }
  was_sealed e r M (no_seal n0 is) = no_event (Unit u (Seal e)) (bare r) M is means_no_seal

  looked : (L : Map) (e : EpochValue) (p : Position) → L.epoch ≡ e.0 → (r : Response) → ReadDone h u L p.0 r →
      ServedOk h w (Unit u (Read e p)) g k (record { response = r; world = with_unit w u (unit_at w u) })
  looked L e p at r done = no_event (Unit u (Read e p)) r (unit_at w u) (m.units u low high) (go r done)
    where
      go : (r : Response) → ReadDone h u L p.0 r → Means h (Unit u (Read e p)) g k r
      go r (read_page takes answers) = means_shown (record { moment = h; past = here; by = L; epoch_is = at; takes = takes; answers = answers })
      go r (read_trimmed takes answers) = means_trimmed (record { moment = h; past = here; by = L; epoch_is = at; takes = takes; answers = answers })
      go r (read_unwritten takes answers) = means_unwritten (record { moment = h; past = here; by = L; epoch_is = at; takes = takes; answers = answers })
      go r (no_read n0 n5 n7) = means_no_read n0 n5 n7

-- ---- the sequencer

with_sequencer_lem : {h : History} {w : World} (s : Sequencer) → s.epoch.0 ≤ (held h).epoch → Machines h w → Machines h (with_sequencer w s)
with_sequencer_lem s low m = record { run = m.run; held_is = m.held_is; held_good = m.held_good; sequencer_low = low; units_long = m.units_long; units = m.units }

-- ---- the holder

offered : {h : History} {w : World} (m : Machines h w) (g : PageValue) (k : Layout) (r : Reply) (l : Layout) → OfferDone h w.held k r l →
    ServedOk h w Offer g k (record { response = bare r; world = with_held w l })
unfolding held
offered {h} {w} m g k r l (installed may good same) = record {
  now = h ▹ install (map_of (lay_of k));
  part = later here;
  machines = record {
    run = run_step m.run may;
    held_is = refl;
    held_good = good;
    sequencer_low = omega (arith, m.sequencer_low, held_rises h (install (map_of (lay_of k))) may);
    units_long = m.units_long;
    units = λ u low high. subst (λ (s : ℕ). UnitIs (shape_for s) (h ▹ install (map_of (lay_of k))) u (unit_at w u)) (sym same) (install_is (m.units u low high));
  };
  means = means_installed {k = k} (omega (arith, epoch_of_lem k));
  clients_same = refl;
  quiet = install_quiet;
}
offered {h} {w} m g k r l (not_installed n0) = record {
  now = h;
  part = here;
  machines = record { run = m.run; held_is = m.held_is; held_good = m.held_good; sequencer_low = m.sequencer_low; units_long = m.units_long; units = m.units };
  means = means_no_install;
  clients_same = refl;
  quiet = λ n noted. noted;
}

-- ---- every request

sequencer_after : {h : History} {w : World} (a : Ask) (g : PageValue) (k : Layout) (q : Asked) → Machines h w → (becomes w.sequencer q).epoch.0 ≤ (held h).epoch →
    ((r : Response) → Means h a g k r) → ServedOk h w a g k (asking w q)
unfolding asking after
sequencer_after {h} {w} a g k q m low means = record {
  now = h;
  part = here;
  machines = with_sequencer_lem (after w.sequencer q) (go (eqb (number w.sequencer q) 0)) m;
  means = means (asking w q).response;
  clients_same = refl;
  quiet = λ n noted. noted;
}
  where
    go : (b : Bool) → (cond b (becomes w.sequencer q) w.sequencer).epoch.0 ≤ (held h).epoch
    go true = low
    go false = m.sequencer_low

pub serve_ok : {h : History} {w : World} {a : Ask} {g : PageValue} {k : Layout} → Machines h w → unserved w.stopped a ≡ false → AskOk h a g k → ServedOk h w a g k (serve w a g k)
unfolding unit_says unit_after serve offering_to
serve_ok {h} {w} {g = g} {k} m to fetch_ok = record {
  now = h;
  part = here;
  machines = m;
  means = subst (λ r. Means h Fetch g k r) (sym (fetch_does w.held m.held_good)) (means_held (subst (λ L. Laid h L) m.held_is (held_laid m.run)) m.held_good);
  clients_same = refl;
  quiet = λ n noted. noted;
}
serve_ok {w = w} {g = g} {k} m to (token_ok {e = e}) = sequencer_after (Token e) g k (asked.Token e) m m.sequencer_low (λ r. means_token)
serve_ok {h} {w} {g = g} {k} m to (write_ok {u = u} {e} {p} ok) =
    let range = unit_range u (unit_runs (is_unit u) (not (get_or w.stopped (u - 1) true)) to) in
    wrote m range.0 range.1 g k ok.by e p ok.epoch_is ok.laid (saying (says (shape_under w.held) (unit_at w u) (request_of (Write e p) g))) (unit_after_lem (shape_under w.held) (unit_at w u) (request_of (Write e p) g))
    (write_does m.run (m.units u range.0 range.1) p.0 (kind_of g) (bytes_of g) ok)
serve_ok {h} {w} {g = g} {k} m to (look_ok {u = u} {e} {p} ok) =
    let range = unit_range u (unit_runs (is_unit u) (not (get_or w.stopped (u - 1) true)) to) in
    let has = (laid_good m.run ok.laid).set_within p.0 u ok.serves in
    let r = page_shown (shape_under w.held) (unit_at w u) e p in
    subst (λ (M : State). ServedOk h w (Unit u (Read e p)) g k (record { response = r; world = with_unit w u M })) (sym (after_read (shape_under w.held) (unit_at w u) e p))
    (looked m range.0 range.1 g k ok.by e p ok.epoch_is r (read_does (sized w.held.shape).page (m.units u range.0 range.1) ok.laid has ok.epoch_is p))
serve_ok {h} {w} {g = g} {k} m to (trim_ok {u = u} {e} {p} ok) =
    let range = unit_range u (unit_runs (is_unit u) (not (get_or w.stopped (u - 1) true)) to) in
    cut m range.0 range.1 g k (Unit u (Trim e p)) e.0 (only p.0) (λ now mks. means_cut (mks p.0 covers_only)) (λ n. means_no_cut)
    (saying (says (shape_under w.held) (unit_at w u) (request_of (Trim e p) g))) (unit_after_lem (shape_under w.held) (unit_at w u) (request_of (Trim e p) g))
    (trim_does (m.units u range.0 range.1) p.0 ok)
serve_ok {h} {w} {g = g} {k} m to (prune_ok {u = u} {e} {p} ok) =
    let range = unit_range u (unit_runs (is_unit u) (not (get_or w.stopped (u - 1) true)) to) in
    cut m range.0 range.1 g k (Unit u (Prune e p)) e.0 (up_to p.0) (λ now mks. means_pruned (λ q below. mks q (covers_up_to below))) (λ n. means_no_prune)
    (saying (says (shape_under w.held) (unit_at w u) (request_of (Prune e p) g))) (unit_after_lem (shape_under w.held) (unit_at w u) (request_of (Prune e p) g))
    (prune_does (m.units u range.0 range.1) p.0 ok)
serve_ok {h} {w} {g = g} {k} m to (seal_ok {u = u} {e} low small_epoch) =
    let range = unit_range u (unit_runs (is_unit u) (not (get_or w.stopped (u - 1) true)) to) in
    was_sealed m range.0 range.1 g k e (edged (shape_under w.held) (unit_at w u) e) (unit_after_lem (shape_under w.held) (unit_at w u) (request_of (Seal e) g)) (seal_does (m.units u range.0 range.1) e.0 low small_epoch)
serve_ok {h} {w} {g = g} {k} m to (offer_ok ok) =
    offered m g k (saying (offered_to w.held k).answer) (offered_to w.held k).held (offer_does w.held k m.run m.held_is ok)
serve_ok {w = w} {g = g} {k} m to (start_ok {e = e} {p} low) = sequencer_after (Start e p) g k (asked.Start e p) m low (λ r. means_start)
