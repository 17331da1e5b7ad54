-- The second half of an event in the table, where the desk failed amid it.
use Rattle.std.proofs.Common.{◌≡◌, ℕ, ◌-◌, ◌≤◌, List, [], ◌∷◌, Option, Some, refl, sym, ap, ◌∙◌, subst, arith}
use Rattle.std.specs.Prelude.{slice_get}
use Rattle.cf_leg.specs.Event.{moment}
use Rattle.cf_outside.specs.Desk.{DeskValue}
use Rattle.cf_packet.specs.Packet.{PacketValue}
use Rattle.cf_policy.specs.Site.{SiteValue, site_from}
use Rattle.cf_policy.specs.declared.Asset.{Asset}
use Rattle.cf_view.specs.declared.Side.{Side}
use Rattle.cf_session.specs.Broken.{BreaksAmid, BreaksBeginning, BreaksPacket}
use Rattle.cf_session.specs.Event.{IsTick}
use Rattle.cf_session.specs.Sent.{sent_second}
use Rattle.cf_session.specs.Session.{Flow, SessionEvent}
use Rattle.cf_session.specs.Stands.{IsSessionOf}
use Rattle.cf_run.specs.Engine.{AreAll, IsOneWith}
use Rattle.cf_run.specs.Entries.{entry_match}
use Rattle.cf_run.specs.Half.{GoBreaks, GoingBreaks, ReceivingBreaks}
use Rattle.cf_run.specs.Receiving.{AreTicked, HasTicked}
use Rattle.cf_run.specs.Table.{Session}
use Rattle.cf_run.specs.Trace.{Begun, GoesOnAt, Receives, Went, logged_at}
use Rattle.cf_run.specs.declared.entry.Entry.{Entry}
use Rattle.cf_run.specs.declared.matching.Match.TheVariants as match
use Rattle.cf_run.proofs.Matched.{there}
use Rattle.cf_run.proofs.Received.{one_at}

-- ---- a session that hears a packet

module _ (assets : List Asset) (limit now place : ℕ) (from : Side) (packet : PacketValue) (entries : List Entry) (d0 d1 : DeskValue)
    (x : Entry) (site : SiteValue) (at : slice_get entries place ≡ Some x) (site_is : site_from assets x.asset ≡ Some site) (some : 1 ≤ now)
    (broken : (flow : Flow) (earlier : List SessionEvent) (half : SessionEvent) → flow.site ≡ site → IsSessionOf flow earlier half x.session → IsTick flow earlier half.client.tick half →
    moment half.client ≡ now → BreaksPacket flow limit earlier half from packet d0 d1) where
  going_in : (table : List Session) (s : Session) (flow : Flow) (events : List SessionEvent) → s ≡ record { flow = flow; events = events } → slice_get table place ≡ Some s →
      IsOneWith assets now x flow events → HasTicked (now - 1) flow events → GoingBreaks limit place from packet table d0 d1
  going_in table s flow [] is here one half_ticked = absurd half_ticked
  going_in table s flow (half ∷ earlier) is here one half_ticked =
      let served : flow.site ≡ site = let e : Some flow.site ≡ Some site = sym one.site ∙ site_is in cc in
      let tick : half.client.tick ≡ now - 1 = half_ticked.0.client_tick in
      let is_tick : IsTick flow earlier half.client.tick half = subst (λ t. IsTick flow earlier t half) (sym tick) half_ticked.0 in
      let there : slice_get table place ≡ Some (record { flow = flow; events = half ∷ earlier }) = here ∙ ap Some is in
      let b = broken flow earlier half served one.stands is_tick (omega (arith, tick, some)) in
      record {
        event = b.event;
        goes_on = subst (GoesOnAt limit from packet b.event) (sym there) b.is_packet;
        amid = subst (λ o. BreaksAmid (sent_second b.event) (logged_at o b.event) d0 d1) (sym there) b.amid;
      }

  pub going_breaks : GoBreaks assets limit now place from packet entries d0 d1
  going_breaks table ticked all =
      let o = one_at assets now (now - 1) entries table place x all ticked at in
      going_in table o.0 o.0.flow o.0.events refl o.1 o.3 o.4

-- ---- by what the packet is to the table

module _ (assets : List Asset) (limit now : ℕ) (packet : PacketValue) (before : List Entry) (d0 d1 : DeskValue) (table : List Session)
    (ticked : AreTicked (now - 1) table) (all : AreAll assets now before table) where
  abbrev Breaks : Type 0
  Breaks = ReceivingBreaks assets limit now packet table d0 d1

  pub begun_breaks : (place : ℕ) (closed : Option ℕ) → entry_match assets before packet ≡ match.Begins place closed →
      ((flow : Flow) → site_from assets place ≡ Some flow.site → flow.syn ≡ packet → BreaksBeginning flow (now - 1) d0 d1) → Breaks
  begun_breaks place closed e h =
      let (flow, m, at, syn, is) = there assets now before table packet all (match.Begins place closed) e in
      let b = h flow at syn in
      let receives = subst (λ x. Receives limit (now - 1) table packet x (Begun flow b.event)) (sym m) (refl, b.is_beginning) in
      record { received = Begun flow b.event; receives = receives; amid = b.amid }

  pub went_breaks : (place : ℕ) (from : Side) → entry_match assets before packet ≡ match.Goes place from →
      GoBreaks assets limit now place from packet before d0 d1 → Breaks
  went_breaks place from e g =
      let m = there assets now before table packet all (match.Goes place from) e in
      let b = g table ticked all in
      let receives = subst (λ x. Receives limit (now - 1) table packet x (Went place b.event)) (sym m) (refl, b.goes_on) in
      record { received = Went place b.event; receives = receives; amid = b.amid }
