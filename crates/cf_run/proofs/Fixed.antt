-- The records fix a run, event by event.
use Rattle.std.proofs.Common.{◌≡◌, ℕ, Bool, true, false, List, [], ◌∷◌, ◌++◌, length, map, if◌then◌else◌, Option, Some, None, Result, Ok, Err, refl, sym, ap, ◌∙◌, subst, arith}
use Rattle.std.specs.Prelude.{slice_get}
use Rattle.std.specs.List.{AllByRecursion as Each, concat}
use Rattle.std.proofs.lemmas.List.{length-append}
use Rattle.cf_leg.specs.Emits.{syn_ack_for}
use Rattle.cf_leg.specs.Event.{Greeting, Nothing}
use Rattle.cf_packet.specs.Packet.{PacketValue}
use Rattle.cf_packet.specs.declared.packet.PacketRefusal.{PacketRefusal}
use Rattle.cf_policy.specs.declared.Asset.{Asset}
use Rattle.cf_view.specs.declared.Side.{Side}
use Rattle.cf_view.specs.declared.Side.TheVariants as side
use Rattle.cf_session.specs.Event.{AreEvents as AreSessionEvents, IsBeginning, IsPacket, IsTick}
use Rattle.cf_session.specs.Laws.{EventsAreFixed, Given, given, packet_in}
use Rattle.cf_session.specs.Session.{Flow, SessionEvent, client_ends}
use Rattle.cf_run.specs.Fixed.{RecordsFixEvents, RecordsFixRuns}
use Rattle.cf_run.specs.Run.{capture_of, inputs_of}
use Rattle.cf_run.specs.Summary.{summary_of}
use Rattle.cf_run.specs.Table.{Begins, Full, Goes, Match, Outside, Session, match_of}
use Rattle.cf_run.specs.Trace.{AreTicks, Begun, RunEvent, GoesOnAt, GoesOnWith, Input, IsRunEvent, NoRoom, NoSession, Received, Receives, ReceivesRecord, Went, kept, logged, sent, table_after, tick_of, ticked}
use Rattle.cf_run.proofs.Sessions.{HasGone, HasTick, IsGoing, IsTicked, begun_one, each-at, each-kept, each-ticked, goes_on, of_run, tick_right}

-- ---- the records, one by one

pub same_parts : {A : Type 0} (xs ys us vs : List A) → length xs ≡ length us → xs ++ ys ≡ us ++ vs → (xs ≡ us) × (ys ≡ vs)
same_parts [] ys [] vs n h = (refl, h)
same_parts (x ∷ xs) ys (u ∷ us) vs n h =
    let head : x ≡ u = cc in
    let tail : xs ++ ys ≡ us ++ vs = cc in
    let (same, behind) = same_parts xs ys us vs (omega (arith, n)) tail in
    (cc, behind)
same_parts xs ys us vs n h = absurd (omega (arith, n))

pub same_one : {A : Type 0} {x y : A} → x ∷ [] ≡ y ∷ [] → x ≡ y
same_one h = cc

-- ---- what an event of a session is given

abbrev from_client : Side → PacketValue → Option PacketValue
from_client side.Client p = Some p
from_client side.Controller p = None

abbrev from_controller : Side → PacketValue → Option PacketValue
from_controller side.Client p = None
from_controller side.Controller p = Some p

given_tick : (f : Flow) (es : List SessionEvent) (tick : ℕ) (t : SessionEvent) → IsTick f es tick t → given t ≡ record { tick = tick; from_client = None; from_controller = None }
given_tick f es tick t h = rw (h.client_tick, h.client_came, h.controller_came) refl

given_beginning : (f : Flow) (tick : ℕ) (e : SessionEvent) → IsBeginning f tick e → given e ≡ record { tick = tick; from_client = None; from_controller = None }
given_beginning f tick e h = rw (h.client, h.controller) refl

no_packet : (p : PacketValue) (b : Bool) → packet_in (if b then Greeting p else Nothing) ≡ None
no_packet p true = refl
no_packet p false = refl

given_packet : (f : Flow) (limit : ℕ) (es : List SessionEvent) (half : SessionEvent) (s : Side) (p : PacketValue) (e : SessionEvent) → IsPacket f limit es half s p e →
    given e ≡ record { tick = half.client.tick; from_client = from_client s p; from_controller = from_controller s p }
given_packet f limit es half side.Client p e h = rw (h.client_on.0, h.client_came, h.controller_came) refl
given_packet f limit es half side.Controller p e h =
    rw (h.client_on.0, h.client_came, h.controller_came)
    (ap (λ o. let g : Given = record { tick = half.client.tick; from_client = o; from_controller = Some p } in g) (no_packet (syn_ack_for (client_ends f) f.syn.seq p.seq) _))

module _ (law : EventsAreFixed) (limit : ℕ) where
  -- one event more, given the same
  once : (f : Flow) (es : List SessionEvent) (d e : SessionEvent) → AreSessionEvents f limit (d ∷ es) → AreSessionEvents f limit (e ∷ es) → given d ≡ given e → d ≡ e
  once f es d e h g same = let all = law f limit (d ∷ es) (e ∷ es) h g (ap (λ x. x ∷ map given es) same) in cc

  -- ---- the first half

  tick_once : (f : Flow) (es : List SessionEvent) (tick : ℕ) (t u : SessionEvent) → HasGone limit f es → IsTick f es tick t → IsTick f es tick u → t ≡ u
  tick_once f es tick t u h a b =
      once f es t u (tick_right limit f es tick t h a).0 (tick_right limit f es tick u h b).0 (given_tick f es tick t a ∙ sym (given_tick f es tick u b))

  pub ticks_once : (tick : ℕ) (ss : List Session) (ts us : List SessionEvent) → Each (IsGoing limit) ss → AreTicks tick ss ts → AreTicks tick ss us → ts ≡ us
  ticks_once tick [] ts us h a b = a ∙ sym b
  ticks_once tick (s ∷ ss) [] us h a b = absurd a
  ticks_once tick (s ∷ ss) (t ∷ ts) [] h a b = absurd b
  ticks_once tick (s ∷ ss) (t ∷ ts) (u ∷ us) h a b =
      let first : t ≡ u = tick_once s.flow s.events tick t u h.0 a.0 b.0 in
      let rest : ts ≡ us = ticks_once tick ss ts us h.1 a.1 b.1 in
      cc

  -- ---- the second half

  pub begun_once : (f : Flow) (tick : ℕ) (d e : SessionEvent) → IsBeginning f tick d → IsBeginning f tick e → d ≡ e
  begun_once f tick d e a b =
      once f [] d e (begun_one f tick d a, tt) (begun_one f tick e b, tt) (given_beginning f tick d a ∙ sym (given_beginning f tick e b))

  pub went_with : (s : Side) (p : PacketValue) (f : Flow) (es : List SessionEvent) (d e : SessionEvent) → HasTick limit f es → GoesOnWith limit s p d f es → GoesOnWith limit s p e f es → d ≡ e
  went_with s p f [] d e h a b = absurd h
  went_with s p f (half ∷ es) d e h a b =
      once f es d e (goes_on limit s p d f (half ∷ es) h a).0 (goes_on limit s p e f (half ∷ es) h b).0
      (given_packet f limit es half s p d a ∙ sym (given_packet f limit es half s p e b))

  went_at : (s : Side) (p : PacketValue) (ss : List Session) (i : ℕ) (o : Option Session) (d e : SessionEvent) → Each (IsTicked limit) ss → slice_get ss i ≡ o → GoesOnAt limit s p d o →
      GoesOnAt limit s p e o → d ≡ e
  went_at s p ss i None d e h at a b = absurd a
  went_at s p ss i (Some x) d e h at a b = went_with s p x.flow x.events d e (each-at (IsTicked limit) ss i x h at) a b

  received_once : (tick : ℕ) (table : List Session) (p : PacketValue) (m : Match) (r q : Received) → Each (IsTicked limit) table → Receives limit tick table p m r →
      Receives limit tick table p m q → r ≡ q
  received_once tick table p (Begins f) (Begun g d) (Begun k e) h a b =
      let flow : g ≡ k = a.0 ∙ sym b.0 in
      let event : d ≡ e = begun_once f tick d e a.1 b.1 in
      cc
  received_once tick table p Full NoRoom NoRoom h a b = refl
  received_once tick table p (Goes i s) (Went j d) (Went k e) h a b =
      let place : j ≡ k = a.0 ∙ sym b.0 in
      let event : d ≡ e = went_at s p table i (slice_get table i) d e h refl a.1 b.1 in
      cc
  received_once tick table p Outside NoSession NoSession h a b = refl
  received_once tick table p (Begins f) (Begun g d) q h a b = absurd b
  received_once tick table p Full NoRoom q h a b = absurd b
  received_once tick table p (Goes i s) (Went j d) q h a b = absurd b
  received_once tick table p Outside NoSession q h a b = absurd b
  received_once tick table p m r q h a b = absurd a

  record_once : (assets : List Asset) (tick : ℕ) (table : List Session) (given : Result PacketValue PacketRefusal) (r q : Received) → Each (IsTicked limit) table →
      ReceivesRecord assets limit tick table given r → ReceivesRecord assets limit tick table given q → r ≡ q
  record_once assets tick table (Err refusal) r q h a b = a ∙ sym b
  record_once assets tick table (Ok p) r q h a b = received_once tick table p (match_of assets table p) r q h a b

  -- ---- both

  abbrev one : Input → List SessionEvent → Received → RunEvent
  one input ticks received = record { input = input; ticks = ticks; received = received }

  event_once : (assets : List Asset) (table : List Session) (input : Input) (ts us : List SessionEvent) (r q : Received) → Each (IsGoing limit) table →
      IsRunEvent assets limit table (one input ts r) → IsRunEvent assets limit table (one input us q) → one input ts r ≡ one input us q
  event_once assets table input ts us r q h a b =
      let tick = tick_of input in
      let going = each-kept limit tick table h in
      let ticks : ts ≡ us = ticks_once tick (kept tick table) ts us going a.ticks b.ticks in
      let other : ReceivesRecord assets limit tick (ticked ts tick table) input.packet q =
      subst (λ xs. ReceivesRecord assets limit tick (ticked xs tick table) input.packet q) (sym ticks) b.received in
      let received : r ≡ q = record_once assets tick (ticked ts tick table) input.packet r q (each-ticked limit tick (kept tick table) ts going a.ticks) a.received other in
      ap (λ xs. one input xs r) ticks ∙ ap (λ x. one input us x) received

pub events_fixed : EventsAreFixed → RecordsFixEvents
events_fixed law assets limit [] [] h g same = refl
events_fixed law assets limit [] (o ∷ os) h g same = absurd (omega (arith, simp length-append at (ap length same)))
events_fixed law assets limit (e ∷ es) [] h g same = absurd (omega (arith, simp length-append at (ap length same)))
events_fixed law assets limit (e ∷ es) (o ∷ os) h g same =
    let (before, last) = same_parts (inputs_of es) (e.input ∷ []) (inputs_of os) (o.input ∷ []) (omega (arith, simp length-append at (ap length same))) same in
    let input = same_one last in
    let earlier : es ≡ os = events_fixed law assets limit es os h.1 g.1 before in
    let there : IsRunEvent assets limit (table_after es) (one law limit e.input o.ticks o.received) =
    subst (λ i. IsRunEvent assets limit (table_after es) (one law limit i o.ticks o.received)) (sym input) (subst (λ xs. IsRunEvent assets limit (table_after xs) o) (sym earlier) g.0) in
    let event : e ≡ one law limit e.input o.ticks o.received =
    event_once law limit assets (table_after es) e.input e.ticks o.ticks e.received o.received (of_run assets limit es h.1).here h.0 there in
    let same_event : e ≡ o = event ∙ ap (λ i. one law limit i o.ticks o.received) input in
    cc

pub runs_fixed : EventsAreFixed → RecordsFixRuns
runs_fixed law assets limit given out other_out log other_log summary other_summary r q =
    let same : r.events ≡ q.events = events_fixed law assets limit r.events q.events r.are q.are (r.are_inputs ∙ sym q.are_inputs) in (
      r.capture ∙ ap (λ es. capture_of (sent es)) same ∙ sym q.capture,
      r.lines ∙ ap (λ es. concat (logged es)) same ∙ sym q.lines,
      r.counts ∙ ap (summary_of assets) same ∙ sym q.counts,
    )
