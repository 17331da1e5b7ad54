-- What one event is to the session of a client and a site.
use Rattle.std.proofs.Common.{◌≡◌, ℕ, ◌&&◌, inl, inr, Bool, true, false, not, List, [], ◌∷◌, ◌++◌, cond, if◌then◌else◌, Option, Some, None, Result, Ok, Err, refl, sym, ap, ◌∙◌, subst, arith}
use Rattle.std.specs.Prelude.{filter, position, slice_get}
use Rattle.std.proofs.lemmas.List.{append-nil}
use Rattle.std.proofs.lemmas.List.Elements.{filter-append}
use Rattle.std.proofs.lemmas.Bool.{and_parts, cases_Bool}
use Rattle.std.proofs.lemmas.Bool.Decides.{nat_tests}
use Rattle.std.specs.Option.{is_some}
use Rattle.std.specs.List.{AllByRecursion as Each}
use Rattle.cf_packet.specs.Packet.{PacketValue}
use Rattle.cf_packet.specs.declared.packet.PacketRefusal.{PacketRefusal}
use Rattle.cf_policy.specs.Site.{SiteValue, site_at}
use Rattle.cf_policy.specs.declared.Asset.{Asset}
use Rattle.cf_view.specs.declared.Endpoint.{Endpoint}
use Rattle.cf_view.specs.declared.Side.{Side}
use Rattle.cf_view.specs.declared.Side.TheVariants as side
use Rattle.cf_session.specs.Sent.{logged_second, sent_second}
use Rattle.cf_session.specs.Session.{Flow, SessionEvent, client_of}
use Rattle.cf_run.specs.Isolation.{begins_theirs, goes_to_theirs, is_flow_of, is_theirs, matched_by, matched_in}
use Rattle.cf_run.specs.Table.{Begins, Full, Goes, Match, Outside, Session, begins, begins_or_full, goes, goes_from_client, is_between, match_of, may_begin, place_of, without}
use Rattle.cf_view.specs.Endpoints.{same_endpoint}
use Rattle.cf_run.specs.Trace.{Begun, GoesOnAt, GoesOnWith, NoRoom, NoSession, Received, Receives, ReceivesRecord, Went, after_received, behind, ends_cut, logged_at, logged_received, replaced, sent_received, stays, with_event_at}
use Rattle.cf_run.proofs.Matched.{same_is}
use Rattle.cf_run.proofs.Pairs.{site_is, changed_other, client_is, filter_drops, filter_keeps, filter_swap, first, without_other}
use Rattle.cf_run.proofs.Sessions.{HasTick, IsTicked}

-- ---- sessions that had their first half stay

stays_one : (limit : ℕ) (f : Flow) (es : List SessionEvent) → HasTick limit f es → not (ends_cut es) ≡ true
stays_one limit f [] h = absurd h
stays_one limit f (t ∷ es) h = ap (λ c. not (is_some c)) h.1

pub all_stay : (limit : ℕ) (ss : List Session) → Each (IsTicked limit) ss → filter stays ss ≡ ss
all_stay limit [] h = refl
all_stay limit (s ∷ ss) h = filter_keeps stays s ss (stays_one limit s.flow s.events h.0) ∙ ap (λ l. s ∷ l) (all_stay limit ss h.1)

-- ---- where a packet goes

-- the side from which a packet comes to the session of a client and a site
abbrev pub side_of : (client site : Endpoint) → PacketValue → Side
side_of client site packet = if same_endpoint packet.source client && same_endpoint packet.dest site then side.Client else side.Controller

data Way (ss : List Session) (packet : PacketValue) (place : ℕ) (from : Side) : Type 0 where
  way_client : from ≡ side.Client → place_of packet.source packet.dest ss ≡ Some place → Way ss packet place from
  way_controller : from ≡ side.Controller → place_of packet.source packet.dest ss ≡ None → place_of packet.dest packet.source ss ≡ Some place → Way ss packet place from

way_by : (ss : List Session) (packet : PacketValue) (place : ℕ) (from : Side) (o p : Option ℕ) → place_of packet.source packet.dest ss ≡ o → place_of packet.dest packet.source ss ≡ p →
    goes_from_client o p ≡ Goes place from → Way ss packet place from
way_by ss packet place from (Some i) p e f h = let a : i ≡ place = cc in let b : side.Client ≡ from = cc in way_client (sym b) (e ∙ ap Some a)
way_by ss packet place from None (Some i) e f h = let a : i ≡ place = cc in let b : side.Controller ≡ from = cc in way_controller (sym b) e (f ∙ ap Some a)
way_by ss packet place from None None e f h = cc

way_of : (ss : List Session) (packet : PacketValue) (place : ℕ) (from : Side) → goes ss packet ≡ Goes place from → Way ss packet place from
way_of ss packet place from h = way_by ss packet place from (place_of packet.source packet.dest ss) (place_of packet.dest packet.source ss) refl refl h

-- a packet that goes to a session begins none
module _ (assets : List Asset) (ss : List Session) (packet : PacketValue) (place : ℕ) (from : Side) where
  room_not : (flow : Flow) (b : Bool) → (if b then Begins flow else Full) ≡ Goes place from → ⊥
  room_not flow true h = cc
  room_not flow false h = cc

  closed_not : (site : SiteValue) (b : Bool) → (if b then begins_or_full ss (record { site = site; syn = packet }) else goes ss packet) ≡ Goes place from → goes ss packet ≡ Goes place from
  closed_not site true h = absurd (room_not (record { site = site; syn = packet }) _ h)
  closed_not site false h = h

  begins_not : (o : Option SiteValue) → begins ss packet o ≡ Goes place from → goes ss packet ≡ Goes place from
  begins_not None h = h
  begins_not (Some site) h = closed_not site _ h

  may_not : (b : Bool) → (if b then begins ss packet (site_at assets packet.dest) else goes ss packet) ≡ Goes place from → goes ss packet ≡ Goes place from
  may_not true h = begins_not (site_at assets packet.dest) h
  may_not false h = h

  goes_by : match_of assets ss packet ≡ Goes place from → Way ss packet place from
  goes_by h = way_of ss packet place from (may_not (may_begin assets packet) h)

-- ---- the second half

pub endpoint_same : (e : Endpoint) → same_endpoint e e ≡ true
endpoint_same e = grind (arith, nat_tests)

module _ (limit : ℕ) (client site : Endpoint) where
  -- it has nothing to do with their session
  pub record HasNothing (table : List Session) (matched : Option PacketValue) (received : Received) : Type 0 where
    pub none : matched ≡ None
    pub same : filter (is_between client site) (after_received received table) ≡ filter (is_between client site) table
    pub not_theirs : goes_to_theirs client site table received ≡ false

  -- their session's event goes on
  pub record HasPacket (table : List Session) (matched : Option PacketValue) (received : Received) : Type 0 where
    pub packet : PacketValue
    pub one : matched ≡ Some packet
    pub session : Session
    pub more : List Session
    pub is : filter (is_between client site) table ≡ session ∷ more
    pub event : SessionEvent
    pub goes_on : GoesOnWith limit (side_of client site packet) packet event session.flow session.events
    pub after : filter (is_between client site) (after_received received table) ≡ filter stays (record session { events = replaced event session.events } ∷ more)
    pub theirs : goes_to_theirs client site table received ≡ true
    pub sent : sent_received received ≡ sent_second event
    pub logged : logged_received table received ≡ logged_second session.flow (behind session.events) event

pub data Share (limit : ℕ) (client site : Endpoint) (table : List Session) (matched : Option PacketValue) (received : Received) : Type 0 where
  with_nothing : HasNothing limit client site table matched received → Share limit client site table matched received
  with_packet : HasPacket limit client site table matched received → Share limit client site table matched received

module _ (limit : ℕ) (client site : Endpoint) where
  -- a session that is another's is not theirs
  apart_by : (g : Flow) → is_flow_of client site g ≡ false → (s : Session) → is_between (client_of g) g.site.first.endpoint s ≡ true → is_between client site s ≡ false
  apart_by g h s e = ap (λ c. same_endpoint c client && same_endpoint s.flow.site.first.endpoint site) (client_is (client_of g) g.site.first.endpoint s e)
      ∙ ap (λ a. same_endpoint (client_of g) client && same_endpoint a site) (site_is (client_of g) g.site.first.endpoint s e) ∙ h

  begun_other : (table : List Session) (g : Flow) (e : SessionEvent) → is_flow_of client site g ≡ false → HasNothing limit client site table None (Begun g e)
  begun_other table g e h = record {
    none = refl;
    same =
        filter-append (is_between client site) (without (client_of g) g.site.first.endpoint table) (record { flow = g; events = e ∷ [] } ∷ [])
        ∙ ap (λ l. filter (is_between client site) (without (client_of g) g.site.first.endpoint table) ++ l) (filter_drops (is_between client site) (record { flow = g; events = e ∷ [] }) [] h)
        ∙ append-nil (filter (is_between client site) (without (client_of g) g.site.first.endpoint table))
        ∙ without_other client site (client_of g) g.site.first.endpoint table (apart_by g h);
    not_theirs = refl;
  }

  -- the packet is another's
  went_other : (table : List Session) (place : ℕ) (e : SessionEvent) (p : PacketValue) → Each (IsTicked limit) table → is_theirs client site (slice_get table place) ≡ false →
      HasNothing limit client site table (if is_theirs client site (slice_get table place) then Some p else None) (Went place e)
  went_other table place e p ticked h = record {
    none = ap (λ b. cond b (Some p) None) h;
    same =
        filter_swap (is_between client site) stays (with_event_at place e table) ∙ ap (filter stays) (changed_other client site place e table h)
        ∙ filter_swap stays (is_between client site) table ∙ ap (filter (is_between client site)) (all_stay limit table ticked);
    not_theirs = h;
  }

  -- it is theirs, and from a side that it tells itself
  same_place : (table : List Session) (c a : Endpoint) (place : ℕ) → place_of c a table ≡ Some place → is_theirs client site (slice_get table place) ≡ true →
      (c ≡ client) × (a ≡ site)
  same_place table c a place h theirs =
      let there = first c a place table h in
      let is : is_between client site there.one ≡ true = sym (ap (is_theirs client site) there.at) ∙ theirs in
      (sym (client_is c a there.one there.passes) ∙ client_is client site there.one is, sym (site_is c a there.one there.passes) ∙ site_is client site there.one is)

  side_client : (p : PacketValue) → p.source ≡ client → p.dest ≡ site → side_of client site p ≡ side.Client
  side_client p e f =
      let x : same_endpoint p.source client ≡ true = ap (λ c. same_endpoint c client) e ∙ endpoint_same client in
      let y : same_endpoint p.dest site ≡ true = ap (λ a. same_endpoint a site) f ∙ endpoint_same site in
      ap (λ b. cond b side.Client side.Controller) (ap (λ b. b && same_endpoint p.dest site) x ∙ y)

  none_not_some : (place : ℕ) → None ≡ Some place → ⊥
  none_not_some place h = cc

  side_controller_by : (table : List Session) (p : PacketValue) (place : ℕ) → place_of p.source p.dest table ≡ None → place_of client site table ≡ Some place → (b : Bool) →
      (same_endpoint p.source client && same_endpoint p.dest site) ≡ b → cond b side.Client side.Controller ≡ side.Controller
  side_controller_by table p place none some false e = refl
  side_controller_by table p place none some true e =
      let x : p.source ≡ client = same_is p.source client (and_parts _ _ e).0 in
      let y : p.dest ≡ site = same_is p.dest site (and_parts _ _ e).1 in
      let f : place_of client site table ≡ None = sym (ap (λ c. place_of c p.dest table) x ∙ ap (λ a. place_of client a table) y) ∙ none in
      absurd (none_not_some place (sym f ∙ some))

  -- its place is the first of theirs
  record IsFirst (table : List Session) (place : ℕ) (from : Side) (p : PacketValue) : Type 0 where
    first_is : position (is_between client site) table ≡ Some place
    from_is : from ≡ side_of client site p

  first_way : (table : List Session) (place : ℕ) (from : Side) (p : PacketValue) → is_theirs client site (slice_get table place) ≡ true → Way table p place from → IsFirst table place from p
  first_way table place from p theirs (way_client f h) =
      let ends = same_place table p.source p.dest place h theirs in
      record {
        first_is = sym (ap (λ c. place_of c p.dest table) ends.0 ∙ ap (λ a. place_of client a table) ends.1) ∙ h;
        from_is = f ∙ sym (side_client p ends.0 ends.1);
      }
  first_way table place from p theirs (way_controller f none h) =
      let ends = same_place table p.dest p.source place h theirs in
      let there : place_of client site table ≡ Some place = sym (ap (λ c. place_of c p.source table) ends.0 ∙ ap (λ a. place_of client a table) ends.1) ∙ h in
      record { first_is = there; from_is = f ∙ sym (side_controller_by table p place none there _ refl) }

  went_theirs : (table : List Session) (place : ℕ) (from : Side) (e : SessionEvent) (p : PacketValue) → is_theirs client site (slice_get table place) ≡ true → Way table p place from →
      GoesOnAt limit from p e (slice_get table place) → HasPacket limit client site table (if is_theirs client site (slice_get table place) then Some p else None) (Went place e)
  went_theirs table place from e p theirs way on =
      let is = first_way table place from p theirs way in
      let there = first client site place table is.first_is in
      record {
        packet = p;
        one = ap (λ b. cond b (Some p) None) theirs;
        session = there.one;
        more = there.more;
        is = there.is;
        event = e;
        goes_on = subst (λ s. GoesOnWith limit s p e there.one.flow there.one.events) is.from_is (subst (GoesOnAt limit from p e) there.at on);
        after = filter_swap (is_between client site) stays (with_event_at place e table) ∙ ap (filter stays) (there.changed e);
        theirs = theirs;
        sent = refl;
        logged = ap (λ o. logged_at o e) there.at;
      }

  went : (table : List Session) (place : ℕ) (from : Side) (e : SessionEvent) (p : PacketValue) → Each (IsTicked limit) table → Way table p place from →
      GoesOnAt limit from p e (slice_get table place) → Share limit client site table (if is_theirs client site (slice_get table place) then Some p else None) (Went place e)
  went table place from e p ticked way on =
      elim (cases_Bool (is_theirs client site (slice_get table place))) [
        | inl theirs ↦ with_packet (went_theirs table place from e p theirs way on)
        | inr other ↦ with_nothing (went_other table place e p ticked other)
      ]

  nothing_to_do : (table : List Session) (r : Received) → after_received r table ≡ table → goes_to_theirs client site table r ≡ false → Share limit client site table None r
  nothing_to_do table r same none = with_nothing (record { none = refl; same = ap (filter (is_between client site)) same; not_theirs = none })

  module _ (assets : List Asset) (tick : ℕ) (table : List Session) (ticked : Each (IsTicked limit) table) where
    pub share_by : (p : PacketValue) (m : Match) (r : Received) → match_of assets table p ≡ m → Receives limit tick table p m r → begins_theirs client site r ≡ false →
        Share limit client site table (matched_by client site table p m) r
    share_by p (Begins f) (Begun g e) is h other = with_nothing (begun_other table g e other)
    share_by p (Goes i s) (Went j e) is h other =
        subst (λ k. Share limit client site table (if is_theirs client site (slice_get table i) then Some p else None) (Went k e)) (sym h.0) (went table i s e p ticked (goes_by assets table p i s is) h.1)
    share_by p Full NoRoom is h other = nothing_to_do table NoRoom refl refl
    share_by p Outside NoSession is h other = nothing_to_do table NoSession refl refl
    share_by p m r is h other = absurd h

    pub share : (p : Result PacketValue PacketRefusal) (r : Received) → ReceivesRecord assets limit tick table p r → begins_theirs client site r ≡ false →
        Share limit client site table (matched_in assets client site table p) r
    share (Err refusal) r h other = nothing_to_do table r (ap (λ x. after_received x table) h) (ap (goes_to_theirs client site table) h)
    share (Ok p) r h other = share_by p (match_of assets table p) r refl h other
