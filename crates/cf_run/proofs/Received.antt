-- The second half of an event, in the table.
use Rattle.std.proofs.Common.{◌≡◌, ℕ, zero, suc, ◌-◌, ◌<◌, ◌≤◌, not, Bool, true, false, ◌&&◌, List, [], ◌∷◌, length, cond, Some, None, refl, sym, ap, ◌∙◌, subst, arith}
use Rattle.std.specs.Prelude.{filter, slice_get, slice_set}
use Rattle.std.specs.List.{remove}
use Rattle.std.specs.Option.{is_none, is_some}
use Rattle.cf_lane.specs.Judged.{one_if}
use Rattle.cf_leg.specs.Event.{Came, Packet, moment}
use Rattle.cf_packet.specs.Packet.{PacketValue}
use Rattle.cf_policy.specs.Site.{SiteValue, site_from}
use Rattle.cf_policy.specs.declared.Asset.{Asset}
use Rattle.cf_view.specs.declared.Side.{Side}
use Rattle.cf_view.specs.declared.Side.TheVariants as side
use Rattle.cf_session.specs.Event.{IsTick, came_client, came_controller}
use Rattle.cf_session.specs.Misfit.{misfit_of}
use Rattle.cf_session.specs.Parts.{SessionValue}
use Rattle.cf_session.specs.Sent.{sent_second}
use Rattle.cf_session.specs.Session.{Flow, SessionEvent, was_closed}
use Rattle.cf_session.specs.Stands.{CountsAs, Hears, HearsBy, IsSessionOf}
use Rattle.cf_session.specs.Told.{Told, with_both}
use Rattle.cf_session.specs.declared.life.Life.{Life}
use Rattle.cf_session.specs.declared.life.Life.TheVariants as life
use Rattle.cf_session.specs.declared.misfit.Misfit.{Misfit}
use Rattle.cf_run.specs.Engine.{AreAll, IsOne, IsOneBy, IsOneWith}
use Rattle.cf_run.specs.Entries.{closes_by, cuts_by, stays_by}
use Rattle.cf_run.specs.Fitting.{is_above, is_beyond, misfit_at, misfit_from, misfit_in}
use Rattle.cf_session.specs.Work.{Work}
use Rattle.cf_audit.specs.declared.CutReason.{CutReason}
use Rattle.cf_run.specs.Receiving.{AreTicked, Going, HasTicked}
use Rattle.cf_run.specs.Summary.{closes_at, closes_in, decided_in, work_before}
use Rattle.cf_run.specs.Table.{Session}
use Rattle.cf_run.specs.Trace.{GoesOnAt, Went, logged_at, replaced, stays, with_event_at}
use Rattle.cf_run.specs.declared.entry.Entry.{Entry}
use Rattle.cf_run.specs.declared.second_half.Outcome.TheVariants as outcome

-- the sessions of a table each stay
abbrev pub AllStay : List Session → Type 0
AllStay [] = Unit {0}
AllStay (session ∷ table) = (stays session ≡ true) × AllStay table

stay_one : (tick : ℕ) (flow : Flow) (events : List SessionEvent) → HasTicked tick flow events → stays (record { flow = flow; events = events }) ≡ true
stay_one tick flow [] h = absurd h
stay_one tick flow (half ∷ earlier) h = ap (λ c. not (is_some c)) h.1

pub ticked_stay : (tick : ℕ) (table : List Session) → AreTicked tick table → AllStay table
ticked_stay tick [] h = tt
ticked_stay tick (s ∷ ss) h = (stay_one tick s.flow s.events h.0, ticked_stay tick ss h.1)

filter-stays : (ss : List Session) → AllStay ss → filter stays ss ≡ ss
filter-stays [] h = refl
filter-stays (s ∷ ss) h = ap (λ b. cond b (s ∷ filter stays ss) (filter stays ss)) h.0 ∙ ap (λ xs. s ∷ xs) (filter-stays ss h.1)

-- the session at a place, with its newest event replaced
abbrev pub one_on : SessionEvent → Session → Session
one_on e s = record s { events = replaced e s.events }

-- a session goes on, in its place
pub all_replaced : (assets : List Asset) (last : ℕ) (xs : List Entry) (ss : List Session) (i : ℕ) (e : SessionEvent) (y : Entry) → AreAll assets last xs ss → AllStay ss →
    ((s : Session) → slice_get ss i ≡ Some s → IsOne assets last y (one_on e s) × (stays (one_on e s) ≡ true)) → i < length ss →
    AreAll assets last (slice_set xs i y) (filter stays (with_event_at i e ss))
all_replaced assets last [] [] i e y all st h l = absurd (omega (arith, l))
all_replaced assets last (x ∷ xs) (s ∷ ss) zero e y all st h l =
    let g = h s refl in
    let whole : filter stays (one_on e s ∷ ss) ≡ one_on e s ∷ ss = ap (λ b. cond b (one_on e s ∷ filter stays ss) (filter stays ss)) g.1 ∙ ap (λ zs. one_on e s ∷ zs) (filter-stays ss st.1) in
    subst (AreAll assets last (y ∷ xs)) (sym whole) (g.0, all.1)
all_replaced assets last (x ∷ xs) (s ∷ ss) (suc i) e y all st h l =
    let rest = all_replaced assets last xs ss i e y all.1 st.1 h (omega (arith, l)) in
    let F = filter stays (with_event_at i e ss) in
    subst (λ b. AreAll assets last (x ∷ slice_set xs i y) (cond b (s ∷ F) F)) (sym st.0) (all.0, rest)
all_replaced assets last xs ss i e y all st h l = absurd all

-- a session is cut, and leaves
pub all_removed : (assets : List Asset) (last : ℕ) (xs : List Entry) (ss : List Session) (i : ℕ) (e : SessionEvent) → AreAll assets last xs ss → AllStay ss →
    ((s : Session) → slice_get ss i ≡ Some s → stays (one_on e s) ≡ false) → i < length ss →
    AreAll assets last (remove xs i) (filter stays (with_event_at i e ss))
all_removed assets last [] [] i e all st h l = absurd (omega (arith, l))
all_removed assets last (x ∷ xs) (s ∷ ss) zero e all st h l =
    let whole : filter stays (one_on e s ∷ ss) ≡ ss = ap (λ b. cond b (one_on e s ∷ filter stays ss) (filter stays ss)) (h s refl) ∙ filter-stays ss st.1 in
    subst (AreAll assets last xs) (sym whole) all.1
all_removed assets last (x ∷ xs) (s ∷ ss) (suc i) e all st h l =
    let rest = all_removed assets last xs ss i e all.1 st.1 h (omega (arith, l)) in
    let F = filter stays (with_event_at i e ss) in
    subst (λ b. AreAll assets last (x ∷ remove xs i) (cond b (s ∷ F) F)) (sym st.0) (all.0, rest)
all_removed assets last xs ss i e all st h l = absurd all

-- the session of the table for which the one in memory at a place stands
pub one_at : (assets : List Asset) (last tick : ℕ) (xs : List Entry) (ss : List Session) (i : ℕ) (x : Entry) → AreAll assets last xs ss → AreTicked tick ss → slice_get xs i ≡ Some x →
    (s : Session) × (slice_get ss i ≡ Some s) × (i < length ss) × IsOne assets last x s × HasTicked tick s.flow s.events
one_at assets last tick [] ss i x all ticked at = cc
one_at assets last tick (y ∷ xs) [] i x all ticked at = absurd all
one_at assets last tick (y ∷ xs) (s ∷ ss) zero x all ticked at =
    let same : y ≡ x = cc in (s, refl, omega arith, subst (λ (z : Entry). IsOne assets last z s) same all.0, ticked.0)
one_at assets last tick (y ∷ xs) (s ∷ ss) (suc i) x all ticked at =
    let rest = one_at assets last tick xs ss i x all.1 ticked.1 at in
    (rest.0, rest.1, omega (arith, rest.2), rest.3, rest.4)

-- ---- a session hears a packet

-- a number is what the work of a session counts
abbrev pub CountsOf : SessionValue → (Work → ℕ) → ℕ → Type 0
CountsOf s count n = (flow : Flow) (earlier : List SessionEvent) (event : SessionEvent) → IsSessionOf flow earlier event s → n ≡ count event.work

-- what does not fit in a packet of a side, read from what came at both ends
came_from : (flow : Flow) (events : List SessionEvent) (from : Side) (packet : PacketValue) (opens : Bool) (controller client : Came) →
    controller ≡ came_controller from packet → client ≡ came_client flow from packet opens → misfit_of flow events from packet ≡ misfit_from flow events controller client
came_from flow events side.Client packet opens k c h g =
    ap (λ x. misfit_from flow events x (Packet packet)) (sym h) ∙ ap (λ x. misfit_from flow events k x) (sym g)
came_from flow events side.Controller packet opens k c h g = ap (λ x. misfit_from flow events x c) (sym h)

module _ (assets : List Asset) (limit now place : ℕ) (from : Side) (packet : PacketValue) (entries : List Entry) (table : List Session) (old new : Told)
    (x : Entry) (y : SessionValue) (due : ℕ) (site : SiteValue) (at : slice_get entries place ≡ Some x) (site_is : site_from assets x.asset ≡ Some site)
    (all : AreAll assets now entries table) (ticked : AreTicked (now - 1) table) (some : 1 ≤ now) (admitted refused : ℕ)
    (counts_admitted : CountsOf x.session (λ w. w.admitted) admitted) (counts_refused : CountsOf x.session (λ w. w.refused) refused)
    (now_admitted : CountsOf y (λ w. w.admitted) y.lane.admitted) (now_refused : CountsOf y (λ w. w.refused) y.lane.refused)
    (was : Bool) (knows_closed : (flow : Flow) (earlier : List SessionEvent) (event : SessionEvent) → IsSessionOf flow earlier event x.session → was ≡ was_closed flow (event ∷ earlier))
    (misfit : Misfit) (knows_misfit : (flow : Flow) (earlier : List SessionEvent) (event : SessionEvent) → IsSessionOf flow earlier event x.session → misfit ≡ misfit_of flow (event ∷ earlier) from packet) where
  abbrev pub after : Entry
  after = record { session = y; asset = x.asset; due = due }

  -- the entries after the call, by whether the session stays
  abbrev pub entries_by : Bool → List Entry
  entries_by true = slice_set entries place after
  entries_by false = remove entries place

  module _ (s : Session) (flow : Flow) (earlier : List SessionEvent) (half : SessionEvent) (is : s ≡ record { flow = flow; events = half ∷ earlier }) (here : slice_get table place ≡ Some s)
      (within : place < length table) (one : IsOneBy assets now x flow earlier half) (half_ticked : HasTicked (now - 1) flow (half ∷ earlier)) (event : SessionEvent)
      (hears : Hears flow limit earlier half from packet old new event) where
    there : slice_get table place ≡ Some (record { flow = flow; events = half ∷ earlier })
    there = here ∙ ap Some is

    same_one : (z : Session) → slice_get table place ≡ Some z → record { flow = flow; events = half ∷ earlier } ≡ z
    same_one z at_z = let e : Some (let r : Session = record { flow = flow; events = half ∷ earlier } in r) ≡ Some z = sym there ∙ at_z in cc

    goes : GoesOnAt limit from packet event (slice_get table place)
    goes = subst (GoesOnAt limit from packet event) (sym there) hears.is_packet

    says : new ≡ with_both old (sent_second event) (logged_at (slice_get table place) event)
    says = hears.told ∙ ap (λ o. with_both old (sent_second event) (logged_at o event)) (sym there)

    decides : (count : Work → ℕ) (before now_counts : ℕ) → before ≡ count half.work → now_counts ≡ count event.work →
        now_counts - before ≡ decided_in count table (Went place event)
    decides count before now_counts b n =
        ap (λ m. m - before) n ∙ ap (λ m. count event.work - m) (b ∙ ap count half_ticked.0.work) ∙ ap (λ o. count event.work - count (work_before o)) (sym there)

    fits : misfit ≡ misfit_in table (Went place event)
    fits =
        knows_misfit flow earlier half one.stands
        ∙ came_from flow (half ∷ earlier) from packet _ event.controller.came event.client.came hears.is_packet.controller_came hears.is_packet.client_came
        ∙ ap (λ o. misfit_at o event) (sym there)

    closes : (c : Bool) → event.cut ≡ None → was_closed flow (event ∷ earlier) ≡ c → (c && not was) ≡ closes_in table (Went place event)
    closes c going e =
        ap (λ b. b && not was) (sym e) ∙ ap (λ w. was_closed flow (event ∷ earlier) && not w) (knows_closed flow earlier half one.stands)
        ∙ ap (λ k. is_none k && (was_closed flow (event ∷ earlier) && not (was_closed flow (half ∷ earlier)))) (sym going)
        ∙ ap (λ o. closes_at o event) (sym there)

    going_on : (c : Bool) → IsSessionOf flow earlier event y → was_closed flow (event ∷ earlier) ≡ c →
        Going assets limit now place from packet table (slice_set entries place after) old new
        (outcome.Went (y.lane.admitted - admitted) (y.lane.refused - refused) 0 (one_if (c && not was)) (one_if (is_above misfit)) (one_if (is_beyond misfit))) event
    going_on c stands closed =
        let next : IsOneBy assets now after flow earlier event =
        record { stands = stands; site = one.site; last_moment = omega (arith, hears.is_packet.client_on.0, half_ticked.0.client_tick, some) } in
        let stay : stays (record { flow = flow; events = event ∷ earlier }) ≡ true = ap (λ c. not (is_some c)) stands.going in
        record {
          goes_on = goes;
          told = says;
          all = all_replaced assets now entries table place event after all (ticked_stay (now - 1) table ticked)
              (λ z at_z. subst (λ (w : Session). IsOne assets now after (one_on event w) × (stays (one_on event w) ≡ true)) (same_one z at_z) (next, stay)) within;
          counts = (
            decides (λ w. w.admitted) admitted y.lane.admitted (counts_admitted flow earlier half one.stands) (now_admitted flow earlier event stands),
            decides (λ w. w.refused) refused y.lane.refused (counts_refused flow earlier half one.stands) (now_refused flow earlier event stands),
            ap (λ k. one_if (is_some k)) (sym stands.going),
            ap one_if (closes c stands.going closed),
            ap (λ m. one_if (is_above m)) fits,
            ap (λ m. one_if (is_beyond m)) fits,
          );
        }

    going_off : (because : CutReason) → event.cut ≡ Some because → CountsAs event y →
        Going assets limit now place from packet table (remove entries place) old new
        (outcome.Went (y.lane.admitted - admitted) (y.lane.refused - refused) 1 0 (one_if (is_above misfit)) (one_if (is_beyond misfit))) event
    going_off because cut counts = record {
      goes_on = goes;
      told = says;
      all = all_removed assets now entries table place event all (ticked_stay (now - 1) table ticked)
          (λ z at_z. subst (λ (w : Session). stays (one_on event w) ≡ false) (same_one z at_z) (ap (λ c. not (is_some c)) cut)) within;
      counts = (
        decides (λ w. w.admitted) admitted y.lane.admitted (counts_admitted flow earlier half one.stands) counts.admitted,
        decides (λ w. w.refused) refused y.lane.refused (counts_refused flow earlier half one.stands) counts.refused,
        ap (λ c. one_if (is_some c)) (sym cut),
        ap one_if (ap (λ k. is_none k && (was_closed flow (event ∷ earlier) && not (was_closed flow (half ∷ earlier)))) (sym cut) ∙ ap (λ o. closes_at o event) (sym there)),
        ap (λ m. one_if (is_above m)) fits,
        ap (λ m. one_if (is_beyond m)) fits,
      );
    }

  -- the session of the table goes on so, as the call found it
  abbrev Heard : Life → Type 0
  Heard l =
      (event : SessionEvent) × Going assets limit now place from packet table (entries_by (stays_by l)) old new
      (outcome.Went (y.lane.admitted - admitted) (y.lane.refused - refused) (one_if (cuts_by l)) (one_if (closes_by was l)) (one_if (is_above misfit)) (one_if (is_beyond misfit))) event

  abbrev AreHeard : Life → Type 0
  AreHeard l =
      (flow : Flow) (earlier : List SessionEvent) (half : SessionEvent) → flow.site ≡ site → IsSessionOf flow earlier half x.session
      → IsTick flow earlier half.client.tick half → moment half.client ≡ now → HearsBy flow limit earlier half from packet y old new l

  heard_by : (s : Session) (flow : Flow) (earlier : List SessionEvent) (half : SessionEvent) → s ≡ record { flow = flow; events = half ∷ earlier } → slice_get table place ≡ Some s → place < length table →
      IsOneBy assets now x flow earlier half → HasTicked (now - 1) flow (half ∷ earlier) → (l : Life) → HearsBy flow limit earlier half from packet y old new l → Heard l
  heard_by s flow earlier half is here within one half_ticked life.Expired h = absurd h
  heard_by s flow earlier half is here within one half_ticked life.Live h = (h.0, going_on s flow earlier half is here within one half_ticked h.0 h.1 false h.2.stands h.2.is_closed)
  heard_by s flow earlier half is here within one half_ticked life.Closed h = (h.0, going_on s flow earlier half is here within one half_ticked h.0 h.1 true h.2.stands h.2.is_closed)
  heard_by s flow earlier half is here within one half_ticked (life.Cut because) h =
      (h.0, going_off s flow earlier half is here within one half_ticked h.0 h.1 because h.2 h.3)

  heard_in : (s : Session) (flow : Flow) (events : List SessionEvent) → s ≡ record { flow = flow; events = events } → slice_get table place ≡ Some s → place < length table →
      IsOneWith assets now x flow events → HasTicked (now - 1) flow events → (l : Life) → AreHeard l → Heard l
  heard_in s flow [] is here within one half_ticked l hears = absurd half_ticked
  heard_in s flow (half ∷ earlier) is here within one half_ticked l hears =
      let served : flow.site ≡ site = let e : Some flow.site ≡ Some site = sym one.site ∙ site_is in cc in
      let tick : half.client.tick ≡ now - 1 = half_ticked.0.client_tick in
      let is_tick : IsTick flow earlier half.client.tick half = subst (λ t. IsTick flow earlier t half) (sym tick) half_ticked.0 in
      heard_by s flow earlier half is here within one half_ticked l (hears flow earlier half served one.stands is_tick (omega (arith, tick, some)))

  -- the same in the numbers of the code
  pub heard_as : (l : Life) → AreHeard l → (stay : Bool) → stays_by l ≡ stay → (more_admitted more_refused cut closed above beyond : ℕ) →
      more_admitted ≡ y.lane.admitted - admitted → more_refused ≡ y.lane.refused - refused → cut ≡ one_if (cuts_by l) →
      closed ≡ one_if (closes_by was l) → above ≡ one_if (is_above misfit) → beyond ≡ one_if (is_beyond misfit) →
      (event : SessionEvent) × Going assets limit now place from packet table (entries_by stay) old new (outcome.Went more_admitted more_refused cut closed above beyond) event
  heard_as l hears stay is a r n k u v ea er en ek eu ev =
      let o = one_at assets now (now - 1) entries table place x all ticked at in
      let h = heard_in o.0 o.0.flow o.0.events refl o.1 o.2 o.3 o.4 l hears in (
        h.0,
        rw (ea, er, en, ek, eu, ev) (subst (λ b. Going assets limit now place from packet table (entries_by b) old new
            (outcome.Went (y.lane.admitted - admitted) (y.lane.refused - refused) (one_if (cuts_by l)) (one_if (closes_by was l)) (one_if (is_above misfit)) (one_if (is_beyond misfit))) h.0) is h.1),
      )
