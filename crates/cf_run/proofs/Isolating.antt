-- What is matched to a session fixes all that it sends and logs, in two runs.
use Rattle.std.proofs.Common.{◌≡◌, ℕ, suc, ◌+◌, ◌-◌, ◌≤◌, ◌&&◌, Bool, true, false, not, List, [], ◌∷◌, ◌++◌, length, cond, if◌then◌else◌, Option, Some, None, Result, Ok, Err, refl, sym, ap, ◌∙◌, subst, arith}
use Rattle.std.specs.Prelude.{filter}
use Rattle.std.specs.List.{AllByRecursion as Each, flat_map}
use Rattle.std.proofs.lemmas.Bool.{and_parts, true≢false}
use Rattle.std.proofs.lemmas.List.{append-nil, append_assoc, length-append, map-append}
use Rattle.std.proofs.lemmas.List.Elements.{filter-append}
use Rattle.std.proofs.lemmas.Option.{same_Some}
use Rattle.cf_packet.specs.Packet.{PacketValue}
use Rattle.cf_packet.specs.declared.packet.PacketRefusal.{PacketRefusal}
use Rattle.cf_policy.specs.declared.Asset.{Asset}
use Rattle.cf_view.specs.declared.Endpoint.{Endpoint}
use Rattle.cf_session.specs.Event.{IsBeginning}
use Rattle.cf_session.specs.Laws.{EventsAreFixed}
use Rattle.cf_session.specs.Session.{Flow, SessionEvent, client_of, is_expired}
use Rattle.cf_session.specs.Sent.{Sent, logged_second, sent_first, sent_second}
use Rattle.cf_run.specs.Isolation.{AreMatched, NoneBegins, RunsIsolateSessions, begins_theirs, goes_to_theirs, is_flow_of, logged_by, logged_over, matched_in, matched_to, moments_of, sent_by, sent_over, ticks_of}
use Rattle.cf_run.specs.Run.{inputs_of}
use Rattle.cf_run.specs.Summary.{found}
use Rattle.cf_run.specs.Table.{Begins, Match, Session, is_between, match_of, without}
use Rattle.cf_view.specs.Endpoints.{same_endpoint}
use Rattle.cf_run.specs.Trace.{AreRunEvents, AreTicks, Begun, RunEvent, GoesOnWith, Input, IsRunEvent, Received, Receives, ReceivesRecord, after_received, behind, kept, logged_received, logged_ticks, replaced, sent_received, stays, table_after, tick_of, ticked, with_events}
use Rattle.cf_run.proofs.Matched.{same_is}
use Rattle.cf_run.proofs.Pairs.{filter_at_most, filter_keeps, filter_swap, next_are, ticks_are, without_theirs}
use Rattle.cf_run.proofs.Fixed.{begun_once, same_one, same_parts, ticks_once, went_with}
use Rattle.cf_run.proofs.Sessions.{IsGoing, IsTicked, each-filter, each-kept, each-ticked, of_run}
use Rattle.cf_run.proofs.Shares.{HasNothing, HasPacket, Share, endpoint_same, share, side_of, with_nothing, with_packet}

-- at each place both have the same moment
abbrev pub SameMoments : List RunEvent → List RunEvent → Type 0
SameMoments [] [] = Unit {0}
SameMoments [] (y ∷ ys) = ⊥
SameMoments (x ∷ xs) [] = ⊥
SameMoments (x ∷ xs) (y ∷ ys) = (x.input.moment ≡ y.input.moment) × SameMoments xs ys

module _ (law : EventsAreFixed) (limit : ℕ) where
  -- ---- their session in one event

  module _ (client site : Endpoint) where
    abbrev theirs : List Session → List Session
    theirs table = filter (is_between client site) table

    kept_theirs : (tick : ℕ) (ss : List Session) → theirs (kept tick ss) ≡ kept tick (theirs ss)
    kept_theirs tick ss = filter_swap (is_between client site) (λ s. not (is_expired s.flow s.events tick)) ss

    found_theirs : (tick : ℕ) (ss : List Session) (ts : List SessionEvent) → AreTicks tick (kept tick ss) ts →
        theirs (ticked ts tick ss) ≡ filter stays (with_events (kept tick (theirs ss)) (ticks_of client site (kept tick ss) ts))
    found_theirs tick ss ts are =
        filter_swap (is_between client site) stays (with_events (kept tick ss) ts)
        ∙ ap (filter stays) (next_are client site tick (kept tick ss) ts are ∙ ap (λ l. with_events l (ticks_of client site (kept tick ss) ts)) (kept_theirs tick ss))

    -- the second half, of two tables in which theirs is the same
    record SecondSame (here there : List Session) (received other : Received) : Type 0 where
      table : theirs (after_received received here) ≡ theirs (after_received other there)
      sent : (if goes_to_theirs client site here received then sent_received received else []) ≡ (if goes_to_theirs client site there other then sent_received other else [])
      logged : (if goes_to_theirs client site here received then logged_received here received else [])
          ≡ (if goes_to_theirs client site there other then logged_received there other else [])

    second_nothing : (here there : List Session) (m k : Option PacketValue) (r q : Received) → theirs here ≡ theirs there →
        HasNothing limit client site here m r → HasNothing limit client site there k q → SecondSame here there r q
    second_nothing here there m k r q same h g = record {
      table = h.same ∙ same ∙ sym g.same;
      sent = ap (λ b. cond b (sent_received r) []) h.not_theirs ∙ sym (ap (λ b. cond b (sent_received q) []) g.not_theirs);
      logged = ap (λ b. cond b (logged_received here r) []) h.not_theirs ∙ sym (ap (λ b. cond b (logged_received there q) []) g.not_theirs);
    }

    second_packet : (here there : List Session) (m k : Option PacketValue) (r q : Received) → Each (IsTicked limit) here → theirs here ≡ theirs there → m ≡ k →
        HasPacket limit client site here m r → HasPacket limit client site there k q → SecondSame here there r q
    second_packet here there m k r q ticked same matched h g =
        let one_packet : g.packet ≡ h.packet = same_Some g.packet h.packet (sym g.one ∙ sym matched ∙ h.one) in
        let lists : g.session ∷ g.more ≡ h.session ∷ h.more = sym g.is ∙ sym same ∙ h.is in
        let one_session : g.session ≡ h.session = cc in
        let more : g.more ≡ h.more = cc in
        let has : IsTicked limit h.session = (subst (Each (IsTicked limit)) h.is (each-filter (IsTicked limit) (is_between client site) here ticked)).0 in
        let on : GoesOnWith limit (side_of client site h.packet) h.packet g.event h.session.flow h.session.events =
        subst (λ s. GoesOnWith limit (side_of client site h.packet) h.packet g.event s.flow s.events) one_session
        (subst (λ p. GoesOnWith limit (side_of client site p) p g.event g.session.flow g.session.events) one_packet g.goes_on) in
        let event : h.event ≡ g.event = went_with law limit (side_of client site h.packet) h.packet h.session.flow h.session.events h.event g.event has h.goes_on on in
        record {
          table = h.after ∙ ap (λ e. filter stays (record h.session { events = replaced e h.session.events } ∷ h.more)) event
              ∙ ap (λ (s : Session). filter stays (record s { events = replaced g.event s.events } ∷ h.more)) (sym one_session)
              ∙ ap (λ l. filter stays (record g.session { events = replaced g.event g.session.events } ∷ l)) (sym more) ∙ sym g.after;
          sent = ap (λ b. cond b (sent_received r) []) h.theirs ∙ h.sent ∙ ap sent_second event ∙ sym g.sent ∙ sym (ap (λ b. cond b (sent_received q) []) g.theirs);
          logged = ap (λ b. cond b (logged_received here r) []) h.theirs ∙ h.logged ∙ ap (logged_second h.session.flow (behind h.session.events)) event
              ∙ ap (λ (s : Session). logged_second s.flow (behind s.events) g.event) (sym one_session) ∙ sym g.logged
              ∙ sym (ap (λ b. cond b (logged_received there q) []) g.theirs);
        }

    second : (here there : List Session) (m k : Option PacketValue) (r q : Received) → Each (IsTicked limit) here → theirs here ≡ theirs there → m ≡ k →
        Share limit client site here m r → Share limit client site there k q → SecondSame here there r q
    second here there m k r q ticked same matched (with_nothing h) (with_nothing g) = second_nothing here there m k r q same h g
    second here there m k r q ticked same matched (with_packet h) (with_packet g) = second_packet here there m k r q ticked same matched h g
    second here there m k r q ticked same matched (with_nothing h) (with_packet g) = (let never : None ≡ Some g.packet = sym h.none ∙ matched ∙ g.one in cc)
    second here there m k r q ticked same matched (with_packet h) (with_nothing g) = (let never : None ≡ Some h.packet = sym g.none ∙ sym matched ∙ h.one in cc)

    -- a whole event, of two tables in which theirs is the same
    abbrev sent_parts : ℕ → List Session → List SessionEvent → Received → List Sent
    sent_parts tick before ts r =
        flat_map sent_first (ticks_of client site (kept tick before) ts)
        ++ (if goes_to_theirs client site (ticked ts tick before) r then sent_received r else [])

    abbrev logged_parts : ℕ → List Session → List SessionEvent → Received → List (List ℕ)
    logged_parts tick before ts r =
        logged_ticks (theirs (kept tick before)) (ticks_of client site (kept tick before) ts)
        ++ (if goes_to_theirs client site (ticked ts tick before) r then logged_received (ticked ts tick before) r else [])

    record EventSame (n m : ℕ) (here there : List Session) (ts us : List SessionEvent) (r q : Received) : Type 0 where
      table : theirs (after_received r (ticked ts n here)) ≡ theirs (after_received q (ticked us m there))
      sent : sent_parts n here ts r ≡ sent_parts m there us q
      logged : logged_parts n here ts r ≡ logged_parts m there us q

    module _ (assets : List Asset) (tick : ℕ) (here there : List Session) (ts us : List SessionEvent) (same : theirs here ≡ theirs there)
        (going : Each (IsGoing limit) here) (others_going : Each (IsGoing limit) there)
        (are : AreTicks tick (kept tick here) ts) (others_are : AreTicks tick (kept tick there) us) where
      kept_same : theirs (kept tick here) ≡ theirs (kept tick there)
      kept_same = kept_theirs tick here ∙ ap (kept tick) same ∙ sym (kept_theirs tick there)

      ticks_same : ticks_of client site (kept tick here) ts ≡ ticks_of client site (kept tick there) us
      ticks_same =
          ticks_once law limit tick (theirs (kept tick here)) (ticks_of client site (kept tick here) ts) (ticks_of client site (kept tick there) us)
          (each-filter (IsGoing limit) (is_between client site) (kept tick here) (each-kept limit tick here going)) (ticks_are client site tick (kept tick here) ts are)
          (subst (λ l. AreTicks tick l (ticks_of client site (kept tick there) us)) (sym kept_same) (ticks_are client site tick (kept tick there) us others_are))

      found_same : theirs (ticked ts tick here) ≡ theirs (ticked us tick there)
      found_same =
          found_theirs tick here ts are ∙ ap (λ l. filter stays (with_events (kept tick l) (ticks_of client site (kept tick here) ts))) same
          ∙ ap (λ l. filter stays (with_events (kept tick (theirs there)) l)) ticks_same ∙ sym (found_theirs tick there us others_are)

      event_same : (p q : Result PacketValue PacketRefusal) (r o : Received) → ReceivesRecord assets limit tick (ticked ts tick here) p r → ReceivesRecord assets limit tick (ticked us tick there) q o →
          begins_theirs client site r ≡ false → begins_theirs client site o ≡ false →
          matched_in assets client site (ticked ts tick here) p ≡ matched_in assets client site (ticked us tick there) q → EventSame tick tick here there ts us r o
      event_same p q r o h g none others_none matched =
          let has_ticked = each-ticked limit tick (kept tick here) ts (each-kept limit tick here going) are in
          let others_ticked = each-ticked limit tick (kept tick there) us (each-kept limit tick there others_going) others_are in
          let two = second (ticked ts tick here) (ticked us tick there) (matched_in assets client site (ticked ts tick here) p) (matched_in assets client site (ticked us tick there) q) r o
          has_ticked found_same matched
          (share limit client site assets tick (ticked ts tick here) has_ticked p r h none) (share limit client site assets tick (ticked us tick there) others_ticked q o g others_none) in
          record {
            table = two.table;
            sent = ap (λ l. flat_map sent_first l ++ (if goes_to_theirs client site (ticked ts tick here) r then sent_received r else [])) ticks_same
                ∙ ap (λ l. flat_map sent_first (ticks_of client site (kept tick there) us) ++ l) two.sent;
            logged = ap (λ l. logged_ticks l (ticks_of client site (kept tick here) ts) ++ (if goes_to_theirs client site (ticked ts tick here) r then logged_received (ticked ts tick here) r else [])) kept_same
                ∙ ap (λ l. logged_ticks (theirs (kept tick there)) l ++ (if goes_to_theirs client site (ticked ts tick here) r then logged_received (ticked ts tick here) r else [])) ticks_same
                ∙ ap (λ l. logged_ticks (theirs (kept tick there)) (ticks_of client site (kept tick there) us) ++ l) two.logged;
          }

    module _ (assets : List Asset) where
      -- an event of each run, after tables in which theirs is the same
      next_same : (e d : RunEvent) (here there : List Session) → theirs here ≡ theirs there → Each (IsGoing limit) here → Each (IsGoing limit) there →
          e.input.moment ≡ d.input.moment → IsRunEvent assets limit here e → IsRunEvent assets limit there d → begins_theirs client site e.received ≡ false → begins_theirs client site d.received ≡ false →
          matched_to assets client site here e ≡ matched_to assets client site there d → EventSame (tick_of e.input) (tick_of d.input) here there e.ticks d.ticks e.received d.received
      next_same e d here there same going others_going moment h g none others_none matched =
          let tick : tick_of d.input ≡ tick_of e.input = ap (λ n. n - 1) (sym moment) in
          let n = tick_of e.input in
          subst (λ m. EventSame n m here there e.ticks d.ticks e.received d.received) (sym tick)
          (event_same assets n here there e.ticks d.ticks same going others_going h.ticks (subst (λ m. AreTicks m (kept m there) d.ticks) tick g.ticks)
          e.input.packet d.input.packet e.received d.received h.received
          (subst (λ m. ReceivesRecord assets limit m (ticked d.ticks m there) d.input.packet d.received) tick g.received) none others_none
          (matched ∙ ap (λ m. matched_in assets client site (ticked d.ticks m there) d.input.packet) tick))

      -- ---- a table has at most one of theirs

      with_events_length : (ss : List Session) (ts : List SessionEvent) → length (with_events ss ts) ≡ length ss
      with_events_length [] ts = refl
      with_events_length (s ∷ ss) [] = refl
      with_events_length (s ∷ ss) (t ∷ ts) = ap suc (with_events_length ss ts)

      found_one : (tick : ℕ) (ss : List Session) (ts : List SessionEvent) → AreTicks tick (kept tick ss) ts → length (theirs ss) ≤ 1 → length (theirs (ticked ts tick ss)) ≤ 1
      found_one tick ss ts are h =
          let T = ticks_of client site (kept tick ss) ts in
          let a = filter_at_most stays (with_events (kept tick (theirs ss)) T) in
          let b = with_events_length (kept tick (theirs ss)) T in
          let c = filter_at_most (λ s. not (is_expired s.flow s.events tick)) (theirs ss) in
          let d = ap length (found_theirs tick ss ts are) in
          omega (arith, h, a, b, c, d)

      share_one : (table : List Session) (m : Option PacketValue) (r : Received) → length (theirs table) ≤ 1 → Share limit client site table m r → length (theirs (after_received r table)) ≤ 1
      share_one table m r h (with_nothing n) = let a = ap length n.same in omega (arith, h, a)
      share_one table m r h (with_packet p) =
          let a = ap length p.after in
          let b = ap length p.is in
          let c = filter_at_most stays (record p.session { events = replaced p.event p.session.events } ∷ p.more) in
          omega (arith, h, a, b, c)

      begun_one : (g : Flow) (e : SessionEvent) (table : List Session) → length (theirs table) ≤ 1 → is_flow_of client site g ≡ true → theirs (after_received (Begun g e) table) ≡ record { flow = g; events = e ∷ [] } ∷ []
      begun_one g e table h is =
          let c : client_of g ≡ client = same_is (client_of g) client (and_parts _ _ is).0 in
          let a : g.site.first.endpoint ≡ site = same_is g.site.first.endpoint site (and_parts _ _ is).1 in
          let new : Session = record { flow = g; events = e ∷ [] } in
          let rest : theirs (without (client_of g) g.site.first.endpoint table) ≡ [] =
          ap (λ x. theirs (without x g.site.first.endpoint table)) c ∙ ap (λ x. theirs (without client x table)) a ∙ without_theirs client site table h in
          filter-append (is_between client site) (without (client_of g) g.site.first.endpoint table) (new ∷ []) ∙ ap (λ l. l ++ theirs (new ∷ [])) rest
          ∙ filter_keeps (is_between client site) new [] is

      one_by : (tick : ℕ) (table : List Session) (p : Result PacketValue PacketRefusal) (r : Received) (b : Bool) → begins_theirs client site r ≡ b → Each (IsTicked limit) table → ReceivesRecord assets limit tick table p r →
          length (theirs table) ≤ 1 → length (theirs (after_received r table)) ≤ 1
      one_by tick table p r false none ticked h small = share_one table (matched_in assets client site table p) r small (share limit client site assets tick table ticked p r h none)
      one_by tick table p (Begun g e) true begins ticked h small = let a = ap length (begun_one g e table small begins) in omega (arith, a)
      one_by tick table p r true begins ticked h small = absurd (true≢false (sym begins))

      found_ticked : (e : RunEvent) (es : List RunEvent) → AreRunEvents assets limit (e ∷ es) → Each (IsTicked limit) (found (table_after es) e)
      found_ticked e es h =
          let tick = tick_of e.input in
          each-ticked limit tick (kept tick (table_after es)) e.ticks (each-kept limit tick (table_after es) (of_run assets limit es h.1).here) h.0.ticks

      at_most_one : (es : List RunEvent) → AreRunEvents assets limit es → length (theirs (table_after es)) ≤ 1
      at_most_one [] h = omega arith
      at_most_one (e ∷ es) h =
          one_by (tick_of e.input) (found (table_after es) e) e.input.packet e.received (begins_theirs client site e.received) refl (found_ticked e es h) h.0.received
          (found_one (tick_of e.input) (table_after es) e.ticks h.0.ticks (at_most_one es h.1))

      -- ---- the events in which they begin

      begun_by : (tick : ℕ) (table : List Session) (p : PacketValue) (m : Match) (g : Flow) (e : SessionEvent) → Receives limit tick table p m (Begun g e) → IsBeginning g tick e
      begun_by tick table p (Begins f) g e h = subst (λ x. IsBeginning x tick e) (sym h.0) h.1
      begun_by tick table p m g e h = absurd h

      begun_is : (tick : ℕ) (table : List Session) (p : Result PacketValue PacketRefusal) (g : Flow) (e : SessionEvent) → ReceivesRecord assets limit tick table p (Begun g e) → IsBeginning g tick e
      begun_is tick table (Err refusal) g e h = cc
      begun_is tick table (Ok p) g e h = begun_by tick table p (match_of assets table p) g e h

      begin_same : (flow : Flow) (e d : RunEvent) (es ds : List RunEvent) (b c : SessionEvent) → is_flow_of client site flow ≡ true → AreRunEvents assets limit (e ∷ es) → AreRunEvents assets limit (d ∷ ds) →
          e.input.moment ≡ d.input.moment → e.received ≡ Begun flow b → d.received ≡ Begun flow c → (b ≡ c) × (theirs (table_after (e ∷ es)) ≡ theirs (table_after (d ∷ ds)))
      begin_same flow e d es ds b c is h g moment begins others_begin =
          let tick : tick_of d.input ≡ tick_of e.input = ap (λ n. n - 1) (sym moment) in
          let x = begun_is (tick_of e.input) (found (table_after es) e) e.input.packet flow b (subst (ReceivesRecord assets limit (tick_of e.input) (found (table_after es) e) e.input.packet) begins h.0.received) in
          let y = begun_is (tick_of d.input) (found (table_after ds) d) d.input.packet flow c (subst (ReceivesRecord assets limit (tick_of d.input) (found (table_after ds) d) d.input.packet) others_begin g.0.received) in
          let same = begun_once law limit flow (tick_of e.input) b c x (subst (λ n. IsBeginning flow n c) tick y) in
          let one = begun_one flow b (found (table_after es) e) (found_one (tick_of e.input) (table_after es) e.ticks h.0.ticks (at_most_one es h.1)) is in
          let other = begun_one flow c (found (table_after ds) d) (found_one (tick_of d.input) (table_after ds) d.ticks g.0.ticks (at_most_one ds g.1)) is in (
            same,
            ap (λ r. theirs (after_received r (found (table_after es) e))) begins ∙ one ∙ ap (λ x. let s : Session = record { flow = flow; events = x ∷ [] } in s ∷ []) same
                ∙ sym (ap (λ r. theirs (after_received r (found (table_after ds) d))) others_begin ∙ other),
          )

      -- ---- all events that are considered

      pub record StretchSame (first other_first : RunEvent) (earlier other_earlier later other_later : List RunEvent) : Type 0 where
        pub table : theirs (table_after (later ++ first ∷ earlier)) ≡ theirs (table_after (other_later ++ other_first ∷ other_earlier))
        pub sent : sent_over client site first earlier later ≡ sent_over client site other_first other_earlier other_later
        pub logged : logged_over client site first earlier later ≡ logged_over client site other_first other_earlier other_later

      module _ (e d : RunEvent) (es ds : List RunEvent) (starts : StretchSame e d es ds [] []) where
        stretch : (xs ys : List RunEvent) → AreRunEvents assets limit (xs ++ e ∷ es) → AreRunEvents assets limit (ys ++ d ∷ ds) → SameMoments xs ys →
            NoneBegins client site xs → NoneBegins client site ys → AreMatched assets client site (e ∷ es) (d ∷ ds) xs ys → StretchSame e d es ds xs ys
        stretch [] [] h g moments none others_none matched = starts
        stretch (x ∷ xs) (y ∷ ys) h g moments none others_none matched =
            let before = stretch xs ys h.1 g.1 moments.1 none.1 others_none.1 matched.1 in
            let next = next_same x y (table_after (xs ++ e ∷ es)) (table_after (ys ++ d ∷ ds)) before.table (of_run assets limit (xs ++ e ∷ es) h.1).here (of_run assets limit (ys ++ d ∷ ds) g.1).here
            moments.0 h.0 g.0 none.0 others_none.0 matched.0 in
            record {
              table = next.table;
              sent = ap (λ l. l ++ sent_by client site (table_after (xs ++ e ∷ es)) x) before.sent ∙ ap (λ l. sent_over client site d ds ys ++ l) next.sent;
              logged = ap (λ l. l ++ logged_by client site (table_after (xs ++ e ∷ es)) x) before.logged ∙ ap (λ l. logged_over client site d ds ys ++ l) next.logged;
            }
        stretch xs ys h g moments none others_none matched = absurd matched

-- ---- moments

-- the moments of events, the oldest first
abbrev times : List RunEvent → List ℕ
times [] = []
times (e ∷ es) = times es ++ e.input.moment ∷ []

times_are : (es : List RunEvent) → moments_of (inputs_of es) ≡ times es
times_are [] = refl
times_are (e ∷ es) = map-append (λ (i : Input). i.moment) (inputs_of es) (e.input ∷ []) ∙ ap (λ l. l ++ e.input.moment ∷ []) (times_are es)

times_append : (xs ys : List RunEvent) → times (xs ++ ys) ≡ times ys ++ times xs
times_append [] ys = sym (append-nil (times ys))
times_append (x ∷ xs) ys = ap (λ l. l ++ x.input.moment ∷ []) (times_append xs ys) ∙ append_assoc (times ys) (times xs) (x.input.moment ∷ [])

times_length : (es : List RunEvent) → length (times es) ≡ length es
times_length [] = refl
times_length (e ∷ es) = let a = length-append (times es) (e.input.moment ∷ []) in let b = times_length es in omega (arith, a, b)

same_moments : (xs ys : List RunEvent) → length xs ≡ length ys → times xs ≡ times ys → SameMoments xs ys
same_moments [] [] n h = tt
same_moments [] (y ∷ ys) n h = absurd (omega (arith, n))
same_moments (x ∷ xs) [] n h = absurd (omega (arith, n))
same_moments (x ∷ xs) (y ∷ ys) n h =
    let shorter : length xs ≡ length ys = omega (arith, n) in
    let parts = same_parts (times xs) (x.input.moment ∷ []) (times ys) (y.input.moment ∷ []) (times_length xs ∙ shorter ∙ sym (times_length ys)) h in
    (same_one parts.1, same_moments xs ys shorter parts.0)

matched_length : (assets : List Asset) (client site : Endpoint) (here there xs ys : List RunEvent) → AreMatched assets client site here there xs ys → length xs ≡ length ys
matched_length assets client site here there [] [] h = refl
matched_length assets client site here there (x ∷ xs) (y ∷ ys) h = ap suc (matched_length assets client site here there xs ys h.1)
matched_length assets client site here there xs ys h = absurd h

-- the events of two runs with equal moments, in parts of equal lengths
pub record PartsSame (e d : RunEvent) (xs ys : List RunEvent) : Type 0 where
  pub first : e.input.moment ≡ d.input.moment
  pub later : SameMoments xs ys

parts_same : (after others_after xs ys : List RunEvent) (e d : RunEvent) (es ds : List RunEvent) → length es ≡ length ds → length xs ≡ length ys →
    times (after ++ (xs ++ e ∷ es)) ≡ times (others_after ++ (ys ++ d ∷ ds)) → PartsSame e d xs ys
parts_same after others_after xs ys e d es ds earlier later h =
    let whole : times (xs ++ e ∷ es) ++ times after ≡ times (ys ++ d ∷ ds) ++ times others_after = sym (times_append after (xs ++ e ∷ es)) ∙ h ∙ times_append others_after (ys ++ d ∷ ds) in
    let n : length (times (xs ++ e ∷ es)) ≡ length (times (ys ++ d ∷ ds)) =
    times_length (xs ++ e ∷ es) ∙ length-append xs (e ∷ es) ∙ (let x : length xs + length (e ∷ es) ≡ length ys + length (d ∷ ds) = omega (arith, earlier, later) in x)
    ∙ sym (times_length (ys ++ d ∷ ds) ∙ length-append ys (d ∷ ds)) in
    let front = (same_parts (times (xs ++ e ∷ es)) (times after) (times (ys ++ d ∷ ds)) (times others_after) n whole).0 in
    let split : times (e ∷ es) ++ times xs ≡ times (d ∷ ds) ++ times ys = sym (times_append xs (e ∷ es)) ∙ front ∙ times_append ys (d ∷ ds) in
    let k : length (times (e ∷ es)) ≡ length (times (d ∷ ds)) = times_length (e ∷ es) ∙ ap suc earlier ∙ sym (times_length (d ∷ ds)) in
    let two = same_parts (times (e ∷ es)) (times xs) (times (d ∷ ds)) (times ys) k split in
    let j : length (times es) ≡ length (times ds) = times_length es ∙ earlier ∙ sym (times_length ds) in
    let one = same_parts (times es) (e.input.moment ∷ []) (times ds) (d.input.moment ∷ []) j two.0 in
    record { first = same_one one.1; later = same_moments xs ys later two.1 }

-- ---- two runs

events_behind : (assets : List Asset) (limit : ℕ) (after es : List RunEvent) → AreRunEvents assets limit (after ++ es) → AreRunEvents assets limit es
events_behind assets limit [] es h = h
events_behind assets limit (x ∷ after) es h = events_behind assets limit after es h.1

module _ (law : EventsAreFixed) (assets : List Asset) (limit : ℕ) (flow : Flow) (e d : RunEvent) (es ds xs ys : List RunEvent) (b c : SessionEvent)
    (are : AreRunEvents assets limit (xs ++ e ∷ es)) (others_are : AreRunEvents assets limit (ys ++ d ∷ ds)) (moments : PartsSame e d xs ys)
    (begins : e.received ≡ Begun flow b) (others_begin : d.received ≡ Begun flow c) where
  pub stretch_same : NoneBegins (client_of flow) flow.site.first.endpoint xs → NoneBegins (client_of flow) flow.site.first.endpoint ys →
      AreMatched assets (client_of flow) flow.site.first.endpoint (e ∷ es) (d ∷ ds) xs ys → StretchSame law limit (client_of flow) flow.site.first.endpoint assets e d es ds xs ys
  stretch_same none others_none matched =
      let client = client_of flow in
      let site = flow.site.first.endpoint in
      let x : same_endpoint client client ≡ true = endpoint_same client in
      let y : same_endpoint site site ≡ true = endpoint_same site in
      let is : is_flow_of client site flow ≡ true = ap (λ b. b && same_endpoint site site) x ∙ y in
      let start = begin_same law limit client site assets flow e d es ds b c is (events_behind assets limit xs (e ∷ es) are) (events_behind assets limit ys (d ∷ ds) others_are) moments.first begins others_begin in
      let starts : StretchSame law limit client site assets e d es ds [] [] = record {
        table = start.1;
        sent = ap sent_received begins ∙ ap sent_second start.0 ∙ sym (ap sent_received others_begin);
        logged = ap (logged_received (found (table_after es) e)) begins ∙ ap (logged_second flow []) start.0 ∙ sym (ap (logged_received (found (table_after ds) d)) others_begin);
      } in
      stretch law limit client site assets e d es ds starts xs ys are others_are moments.later none others_none matched

pub isolates : EventsAreFixed → RunsIsolateSessions
isolates law assets limit given other_given out other_out log other_log summary other_summary run other_run moments flow one other earlier matched =
    let all : times run.events ≡ times other_run.events =
    sym (times_are run.events) ∙ ap moments_of run.are_inputs ∙ moments ∙ sym (sym (times_are other_run.events) ∙ ap moments_of other_run.are_inputs) in
    let later = matched_length assets (client_of flow) flow.site.first.endpoint (one.first ∷ one.earlier) (other.first ∷ other.earlier) one.later other.later matched in
    let parts = parts_same one.after other.after one.later other.later one.first other.first one.earlier other.earlier earlier later (sym (ap times one.are) ∙ all ∙ ap times other.are) in
    let are = events_behind assets limit one.after (one.later ++ one.first ∷ one.earlier) (subst (AreRunEvents assets limit) one.are run.are) in
    let others_are = events_behind assets limit other.after (other.later ++ other.first ∷ other.earlier) (subst (AreRunEvents assets limit) other.are other_run.are) in
    let same = stretch_same law assets limit flow one.first other.first one.earlier other.earlier one.later other.later one.begun other.begun are others_are parts one.begins other.begins
    one.none other.none matched in
    record { sent = same.sent; logged = same.logged }
