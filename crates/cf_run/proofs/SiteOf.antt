-- Each session of a run is with a site that is in form: that at the endpoint to which its first packet went.
use Rattle.std.proofs.Common.{◌≡◌, ℕ, zero, suc, Bool, true, false, not, List, [], ◌∷◌, ◌++◌, Option, Some, None, Result, Ok, Err, ap, length, nat_lt, refl, subst, sym}
use Rattle.std.specs.Prelude.{filter, if◌then◌else◌}
use Rattle.std.specs.List.{AllByRecursion as Each}
use Rattle.std.specs.Option.{IfSome}
use Rattle.cf_packet.specs.Packet.{PacketValue}
use Rattle.cf_packet.specs.declared.packet.PacketRefusal.{PacketRefusal}
use Rattle.cf_policy.specs.Site.{IsSiteWithin, SiteValue, site_at}
use Rattle.cf_policy.specs.SiteLaws.{SitesAreWithin}
use Rattle.cf_policy.specs.Within.{AreAssetsWithin}
use Rattle.cf_policy.specs.declared.Asset.{Asset}
use Rattle.cf_session.specs.Session.{Flow, SessionEvent, client_of, is_expired}
use Rattle.cf_run.specs.Sessions.{gone_after, leaves, left_by_packet, left_in}
use Rattle.cf_run.specs.SiteOf.{HasSite, SessionsHaveSites}
use Rattle.cf_run.specs.Table.{Begins, Full, Goes, Match, Outside, Session, begins, begins_or_full, goes, goes_from_client, is_closed_at, match_of, may_begin, place_of, table_size, without}
use Rattle.cf_run.specs.Trace.{AreRunEvents, Begun, NoRoom, NoSession, Received, Receives, ReceivesRecord, RunEvent, Went, after_received, kept, stays, table_after, tick_of, ticked, with_event_at, with_events}
use Rattle.cf_run.proofs.Sessions.{each-append, each-filter, each-left, each-session_at}

-- ---- the site of a flow that a packet begins

no_beginning : (place controller : Option ℕ) (f : Flow) → goes_from_client place controller ≡ Begins f → ⊥
no_beginning (Some place) controller f is = cc
no_beginning None (Some place) f is = cc
no_beginning None None f is = cc

goes_on : (table : List Session) (packet : PacketValue) (f : Flow) → goes table packet ≡ Begins f → ⊥
goes_on table packet f is = no_beginning (place_of packet.source packet.dest table) (place_of packet.dest packet.source table) f is

begun_by : (b : Bool) (f g : Flow) → (if b then Begins f else Full) ≡ Begins g → f ≡ g
begun_by true f g is = cc
begun_by false f g is = cc

closed_by : (b : Bool) (table : List Session) (packet : PacketValue) (site : SiteValue) (f : Flow)
    → (if b then begins_or_full table (record { site = site; syn = packet }) else goes table packet) ≡ Begins f → site ≡ f.site
closed_by true table packet site f is =
    let new : Flow = record { site = site; syn = packet } in
    ap (λ (g : Flow). g.site) (begun_by (nat_lt (length (without (client_of new) new.site.first.endpoint table)) table_size) new f is)
closed_by false table packet site f is = absurd (goes_on table packet f is)

begins_by : (table : List Session) (packet : PacketValue) (o : Option SiteValue) (f : Flow) → begins table packet o ≡ Begins f → o ≡ Some f.site
begins_by table packet None f is = absurd (goes_on table packet f is)
begins_by table packet (Some site) f is =
    ap Some (closed_by (is_closed_at table (place_of packet.source packet.dest table)) table packet site f is)

module _ (law : SitesAreWithin) (assets : List Asset) (within : AreAssetsWithin assets) where
  matched_by : (b : Bool) (table : List Session) (packet : PacketValue) (f : Flow)
      → (if b then begins table packet (site_at assets packet.dest) else goes table packet) ≡ Begins f → IsSiteWithin f.site
  matched_by true table packet f is =
      subst (λ (o : Option SiteValue). IfSome o IsSiteWithin) (begins_by table packet (site_at assets packet.dest) f is) (law assets packet.dest within)
  matched_by false table packet f is = absurd (goes_on table packet f is)

  -- ---- a session keeps its site

  each_next : (ss : List Session) (events : List SessionEvent) → Each HasSite ss → Each HasSite (with_events ss events)
  each_next [] events h = tt
  each_next (s ∷ ss) [] h = h
  each_next (s ∷ ss) (e ∷ events) h = (h.0, each_next ss events h.1)

  each_went : (place : ℕ) (event : SessionEvent) (ss : List Session) → Each HasSite ss → Each HasSite (with_event_at place event ss)
  each_went place event [] h = tt
  each_went zero event (s ∷ ss) h = h
  each_went (suc place) event (s ∷ ss) h = (h.0, each_went place event ss h.1)

  -- both those that stay and those that leave
  record Both (r : Received) (table : List Session) : Type 0 where
    stay : Each HasSite (after_received r table)
    left : Each HasSite (left_by_packet r table)

  received : (limit tick : ℕ) (table : List Session) (packet : PacketValue) (m : Match) (r : Received)
      → ((f : Flow) → m ≡ Begins f → IsSiteWithin f.site) → Each HasSite table → Receives limit tick table packet m r → Both r table
  received limit tick table packet (Begins f) (Begun g event) new h is =
      let place = place_of (client_of g) g.site.first.endpoint table in
      let own : IsSiteWithin g.site = subst (λ (x : Flow). IsSiteWithin x.site) (sym is.0) (new f refl) in
      record {
        stay = each-append HasSite (without (client_of g) g.site.first.endpoint table) (record { flow = g; events = event ∷ [] } ∷ [])
            (each-left HasSite table place h) (own, tt);
        left = each-session_at HasSite table place h;
      }
  received limit tick table packet (Goes i side) (Went place event) new h is =
      let all = each_went place event table h in
      record {
        stay = each-filter HasSite stays (with_event_at place event table) all;
        left = each-filter HasSite leaves (with_event_at place event table) all;
      }
  received limit tick table packet Full NoRoom new h is = record { stay = h; left = tt }
  received limit tick table packet Outside NoSession new h is = record { stay = h; left = tt }
  received limit tick table packet m r new h is = absurd is

  of_record : (limit tick : ℕ) (table : List Session) (p : Result PacketValue PacketRefusal) (r : Received) → Each HasSite table
      → ReceivesRecord assets limit tick table p r → Both r table
  of_record limit tick table (Err refusal) r h is = subst (λ (x : Received). Both x table) (sym is) (record { stay = h; left = tt })
  of_record limit tick table (Ok packet) r h is =
      received limit tick table packet (match_of assets table packet) r (λ f begun. matched_by (may_begin assets packet) table packet f begun) h is

  -- ---- the whole run

  record OfRun (events : List RunEvent) : Type 0 where
    gone : Each HasSite (gone_after events)
    here : Each HasSite (table_after events)

  of_run : (limit : ℕ) (es : List RunEvent) → AreRunEvents assets limit es → OfRun es
  of_run limit [] h = record { gone = tt; here = tt }
  of_run limit (e ∷ es) h =
      let before = of_run limit es h.1 in
      let tick = tick_of e.input in
      let table = table_after es in
      let next = with_events (kept tick table) e.ticks in
      let all : Each HasSite next =
      each_next (kept tick table) e.ticks (each-filter HasSite (λ s. not (is_expired s.flow s.events tick)) table before.here) in
      let both = of_record limit tick (ticked e.ticks tick table) e.input.packet e.received (each-filter HasSite stays next all) h.0.received in
      let expired = filter (λ s. is_expired s.flow s.events tick) table in
      let left = left_by_packet e.received (ticked e.ticks tick table) in
      record {
        gone = each-append HasSite (gone_after es) (left_in table e) before.gone
            (each-append HasSite expired (filter leaves next ++ left) (each-filter HasSite (λ s. is_expired s.flow s.events tick) table before.here)
            (each-append HasSite (filter leaves next) left (each-filter HasSite leaves next all) both.left));
        here = both.stay;
      }

pub have_sites : SitesAreWithin → SessionsHaveSites
have_sites law assets limit events within are =
    let all = of_run law assets within limit events are in each-append HasSite (gone_after events) (table_after events) all.gone all.here
