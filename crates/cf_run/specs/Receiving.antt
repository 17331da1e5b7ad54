-- Steps of the proof: what the second half of an event does to the sessions in memory: `ReceivesOne`.
use Rattle.std.specs.Prelude.{◌≡◌, ℕ, ◌+◌, ◌-◌, ◌≤◌, ◌&&◌, Bool, true, List, [], ◌∷◌, Option, Some, None, Result, Ok, Err, filter}
use Rattle.std.specs.Prelude.{slice_get}
use Rattle.std.specs.Option.{is_some}
use Rattle.cf_policy.specs.AtEndpoint.{asset_at}
use Rattle.cf_lane.specs.Judged.{one_if}
use Rattle.cf_packet.specs.Packet.{PacketValue}
use Rattle.cf_packet.specs.declared.packet.PacketRefusal.{PacketRefusal}
use Rattle.cf_policy.specs.Site.{site_from}
use Rattle.cf_policy.specs.declared.Asset.{Asset}
use Rattle.cf_session.specs.Event.{IsBeginning, IsTick}
use Rattle.cf_session.specs.Sent.{logged_second, sent_second}
use Rattle.cf_session.specs.Session.{Flow, SessionEvent, client_of}
use Rattle.cf_session.specs.Told.{Told, with_both}
use Rattle.cf_view.specs.declared.Side.{Side}
use Rattle.cf_run.specs.Engine.{AreAll}
use Rattle.cf_run.specs.Fitting.{is_above, is_beyond, is_foreign, misfit_in}
use Rattle.cf_run.specs.Summary.{closes_in, decided_in}
use Rattle.cf_run.specs.Table.{Session, match_of, may_begin, place_of}
use Rattle.cf_run.specs.Trace.{Begun, Dropped, GoesOnAt, NoRoom, NoSession, Received, Receives, Went, after_received, logged_at}
use Rattle.cf_run.specs.Trace.{logged_received, sent_received, stays, with_event_at}
use Rattle.cf_run.specs.declared.entry.Entry.{Entry}
use Rattle.cf_run.specs.declared.second_half.Outcome.{Outcome}
use Rattle.cf_run.specs.declared.second_half.Outcome.TheVariants as outcome

-- a packet may begin a session with a site
abbrev pub may_begin_one : List Asset → PacketValue → Bool
may_begin_one assets packet = may_begin assets packet && is_some (asset_at assets packet.dest)

abbrev pub MayBegin : List Asset → Result PacketValue PacketRefusal → Type 0
MayBegin assets (Err refusal) = ⊥
MayBegin assets (Ok packet) = may_begin_one assets packet ≡ true

-- each session had the first half of an event at this tick, which did not cut it
abbrev pub HasTicked : (tick : ℕ) → Flow → List SessionEvent → Type 0
HasTicked tick flow [] = ⊥
HasTicked tick flow (half ∷ earlier) = IsTick flow earlier tick half × (half.cut ≡ None)

abbrev pub AreTicked : (tick : ℕ) → List Session → Type 0
AreTicked tick [] = Unit {0}
AreTicked tick (session ∷ table) = HasTicked tick session.flow session.events × AreTicked tick table

-- what became of a packet, as the counts have it
abbrev pub IsOutcome : List Asset → Result PacketValue PacketRefusal → List Session → Outcome → Received → Type 0
IsOutcome assets packet table outcome.Dropped Dropped = Unit {0}
IsOutcome assets packet table outcome.Full NoRoom = Unit {0}
IsOutcome assets packet table (outcome.Outside foreign) NoSession = foreign ≡ one_if (is_foreign assets packet)
IsOutcome assets packet table outcome.Begun (Begun flow event) = Unit {0}
IsOutcome assets packet table (outcome.Went admitted refused cuts closed above beyond) (Went place event) =
    (admitted ≡ decided_in (λ w. w.admitted) table (Went place event)) × (refused ≡ decided_in (λ w. w.refused) table (Went place event))
    × (cuts ≡ one_if (is_some event.cut)) × (closed ≡ one_if (closes_in table (Went place event)))
    × (above ≡ one_if (is_above (misfit_in table (Went place event)))) × (beyond ≡ one_if (is_beyond (misfit_in table (Went place event))))
IsOutcome assets packet table _ _ = ⊥

-- the number of sessions in memory then
abbrev pub IsSized : Outcome → (before after : ℕ) → Type 0
IsSized outcome.Dropped before after = after ≡ before
IsSized outcome.Full before after = after ≡ before
IsSized (outcome.Outside foreign) before after = after ≡ before
IsSized outcome.Begun before after = (after ≤ before + 1) × (after ≤ 256)
IsSized (outcome.Went admitted refused cuts closed above beyond) before after = after + cuts ≤ before

-- a session began
pub record Beginning (assets : List Asset) (now : ℕ) (flow : Flow) (table : List Session) (entries : List Entry) (old new : Told)
    (event : SessionEvent) : Type 0 where
  pub is : IsBeginning flow (now - 1) event
  pub told : new ≡ with_both old (sent_second event) (logged_second flow [] event)
  pub all : AreAll assets now entries (after_received (Begun flow event) table)

abbrev pub BeginsOne : List Asset → (now asset : ℕ) → (closed : Option ℕ) → PacketValue → (before after : List Entry) → (old new : Told)
    → Type 0
BeginsOne assets now asset closed packet before after old new =
    (table : List Session) (flow : Flow) → AreAll assets now before table → site_from assets asset ≡ Some flow.site → flow.syn ≡ packet →
    closed ≡ place_of (client_of flow) flow.site.first.endpoint table →
    (event : SessionEvent) × Beginning assets now flow table after old new event

-- a session's event went on
pub record Going (assets : List Asset) (limit now place : ℕ) (from : Side) (packet : PacketValue) (table : List Session)
    (entries : List Entry) (old new : Told)
    (result : Outcome) (event : SessionEvent) : Type 0 where
  pub goes_on : GoesOnAt limit from packet event (slice_get table place)
  pub told : new ≡ with_both old (sent_second event) (logged_at (slice_get table place) event)
  pub all : AreAll assets now entries (filter stays (with_event_at place event table))
  pub counts : IsOutcome assets (Ok packet) table result (Went place event)

abbrev pub GoesOne : List Asset → (limit now place : ℕ) → Side → PacketValue → (before after : List Entry) → (old new : Told) → Outcome
    → Type 0
GoesOne assets limit now place from packet before after old new result =
    (table : List Session) → AreTicked (now - 1) table → AreAll assets now before table →
    (event : SessionEvent) × Going assets limit now place from packet table after old new result event

-- the second half of an event
pub record Receiving (assets : List Asset) (limit now : ℕ) (packet : PacketValue) (table : List Session) (entries : List Entry)
    (old new : Told)
    (result : Outcome) (received : Received) : Type 0 where
  pub receives : Receives limit (now - 1) table packet (match_of assets table packet) received
  pub told : new ≡ with_both old (sent_received received) (logged_received table received)
  pub all : AreAll assets now entries (after_received received table)
  pub counts : IsOutcome assets (Ok packet) table result received

abbrev pub ReceivesOne : List Asset → (limit now : ℕ) → PacketValue → (before after : List Entry) → (old new : Told) → Outcome → Type 0
ReceivesOne assets limit now packet before after old new result =
    (table : List Session) → AreTicked (now - 1) table → AreAll assets now before table →
    (received : Received) × Receiving assets limit now packet table after old new result received
