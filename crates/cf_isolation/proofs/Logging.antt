-- The lines of a run's log that name a session are what its events logged.
use Rattle.std.proofs.Common.{◌≡◌, ℕ, ◌+◌, Bool, true, false, List, [], ◌∷◌, ◌++◌, cond, Some, Result, Ok, refl, sym, ap, ◌∙◌, subst, append-nil, arith, IfOk, filter}
use Rattle.cf_isolation.proofs.Common.{AllByRecursion, AreRunEvents, AreTicks, Asset, Begun, Endpoint, EventsAreFixed, Flow, HasSession, Input, IsRightSession, PacketRefusal, PacketValue, Received, ReceivesRecord, Rises, RunEvent, Session, SessionEvent, SessionsAreRight, begins_theirs, client_of, filter-append, found, goes_to_theirs, is_between, is_flow_of, is_theirs, kept, logged_first, logged_second, moment, moment_in, moments_of, names_both, table_after, tick_of, ticks_of}
use Rattle.cf_packet.specs.Written.{HasRanges}
use Rattle.cf_policy.specs.Within.{AreAssetsWithin}
use Rattle.cf_session.specs.Laws.{WorkIsOfTheTaken}
use Rattle.cf_run.specs.Isolation.{RunsIsolateSessions}
use Rattle.cf_run.specs.Run.{IsRun}
use Rattle.cf_run.specs.Trace.{logged_at, logged_received, logged_ticks}
use Rattle.cf_run.specs.declared.summary.Summary.{Summary}
use Rattle.cf_isolation.specs.Lines.{names_of}
use Rattle.cf_isolation.specs.Lives.{AlikeInLines, EachLogged, own_logged}
use Rattle.cf_isolation.specs.Logged.{IsReadInput, LogsAreIsolated, LogsHoldSessions, LogsHoldToTheNext}
use Rattle.cf_isolation.proofs.Lists.{all_both, all_map, filter_all}
use Rattle.cf_isolation.proofs.Lives.{Holds, holds}
use Rattle.cf_isolation.proofs.Moments.{inputs_all, one_time}
use Rattle.cf_isolation.proofs.Naming.{AreIts, IsTold, begins_its, first_its, lines_told, packet_its}
use Rattle.cf_isolation.proofs.Output.{AreTheirs, logging}
use Rattle.cf_isolation.proofs.Packets.{IsHalved, alike_events, halves, receives_halved}
use Rattle.cf_isolation.proofs.Tables.{BegunHave, Has, IsSiteAmong, begun_has, begun_in, each_get, found_has_all, kept_has, sessions_have, table_has}
use Rattle.cf_isolation.proofs.Theirs.{of_life}
use Rattle.cf_isolation.proofs.Words.{IsEndpoint, IsMoment}

-- ---- an event

-- the client of a flow is in the ranges of its fields, and its site one of these
abbrev pub IsKnown : List Asset → Flow → Type 0
IsKnown assets f = IsEndpoint (client_of f) × IsSiteAmong assets f.site

-- right events, in time, in which known flows begin
pub record AreKnown (assets : List Asset) (limit : ℕ) (es : List RunEvent) : Type 0 where
  pub are : AreRunEvents assets limit es
  pub in_time : AllByRecursion (λ e. IsMoment e.input.moment) es
  pub begun : BegunHave (IsKnown assets) es

pub known_before : (assets : List Asset) (limit : ℕ) (e : RunEvent) (es : List RunEvent) → AreKnown assets limit (e ∷ es) → AreKnown assets limit es
known_before assets limit e es h = record { are = h.are.1; in_time = h.in_time.1; begun = h.begun.1 }

module _ (works : WorkIsOfTheTaken) (assets : List Asset) (within : AreAssetsWithin assets) (limit : ℕ) (flow : Flow) (known : IsKnown assets flow) where
  abbrev client : Endpoint
  client = client_of flow

  abbrev site : Endpoint
  site = flow.site.first.endpoint

  abbrev is_naming : List ℕ → Bool
  is_naming line = names_both client (names_of flow.site) line

  abbrev naming : List (List ℕ) → List (List ℕ)
  naming lines = filter is_naming lines

  -- lines of one moment, of which those that name the two are these
  record AreOf (now : ℕ) (xs its : List (List ℕ)) : Type 0 where
    moments : AllByRecursion (λ line. moment_in line ≡ now) xs
    names : naming xs ≡ its

  of_flow : (f : Flow) → IsKnown assets f → (now at : ℕ) → at ≡ now → IsMoment now → (xs : List (List ℕ)) → AreIts f at xs → AreOf now xs (cond (is_flow_of client site f) xs [])
  of_flow f k now at is m xs h =
      let told = lines_told assets within client flow.site known.0 known.1 f k.0 k.1 now m xs (subst (λ n. AreIts f n xs) is h) in
      record {
        moments = all_map (IsTold assets within client flow.site known.0 known.1 f now) (λ line. moment_in line ≡ now) (λ line g. g.1) xs told;
        names = filter_all is_naming (is_flow_of client site f) xs (all_map (IsTold assets within client flow.site known.0 known.1 f now) (λ line. is_naming line ≡ is_flow_of client site f) (λ line g. g.0) xs told);
      }

  ticks_naming : (tick : ℕ) (ss : List Session) (ts : List SessionEvent) → IsMoment tick → AllByRecursion (Has (IsKnown assets)) ss → AreTicks tick ss ts →
      AreOf tick (logged_ticks ss ts) (logged_ticks (filter (is_between client site) ss) (ticks_of client site ss ts))
  ticks_naming tick [] ts m k are = record { moments = tt; names = refl }
  ticks_naming tick (s ∷ ss) [] m k are = absurd are
  ticks_naming tick (s ∷ ss) (t ∷ ts) m k are =
      let here = of_flow s.flow k.0 tick t.client.tick are.0.client_tick m (logged_first s.flow t) (first_its s.flow t) in
      let more = ticks_naming tick ss ts m k.1 are.1 in
      let F = filter (is_between client site) ss in
      let T = ticks_of client site ss ts in
      let L = logged_first s.flow t in
      record {
        moments = all_both (λ line. moment_in line ≡ tick) L (logged_ticks ss ts) here.moments more.moments;
        names = filter-append is_naming L (logged_ticks ss ts) ∙ ap (λ xs. xs ++ naming (logged_ticks ss ts)) here.names ∙ ap (λ xs. cond (is_between client site s) L [] ++ xs) more.names
            ∙ (elim (is_between client site s) as (λ b. cond b L [] ++ logged_ticks F T ≡ logged_ticks (cond b (s ∷ F) F) (cond b (t ∷ T) T)) [ true ↦ refl | false ↦ refl ]);
      }

  -- the lines of what goes to their session, or begins one
  abbrev lines_theirs : List Session → Received → List (List ℕ)
  lines_theirs table r = cond (goes_to_theirs client site table r) (logged_received table r) [] ++ cond (begins_theirs client site r) (logged_received table r) []

  abbrev AreOfSecond : (tick : ℕ) → List Session → Received → Type 0
  AreOfSecond tick table r = AreOf (tick + 1) (logged_received table r) (lines_theirs table r)

  received_naming : (tick : ℕ) → IsMoment (tick + 1) → (table : List Session) (p : Result PacketValue PacketRefusal) (r : Received) → AllByRecursion (Has (IsKnown assets)) table → AllByRecursion (IsHalved limit tick) table →
      ((f : Flow) (e : SessionEvent) → r ≡ Begun f e → IsKnown assets f) → ReceivesRecord assets limit tick table p r → AreOfSecond tick table r
  received_naming tick m table p r k h new g =
      receives_halved assets limit tick table h (λ r. ((f : Flow) (e : SessionEvent) → r ≡ Begun f e → IsKnown assets f) → AreOfSecond tick table r)
      ((λ new. record { moments = tt; names = refl }), (λ new. record { moments = tt; names = refl }), (λ new. record { moments = tt; names = refl }))
      (λ f e b new. of_flow f (new f e refl) (tick + 1) (moment e.client) (ap (λ x. x.tick + 1) b.client) m (logged_second f [] e) (begins_its f tick e b))
      (λ i e s p x half es at is now before on new.
      let lines = packet_its x.flow works limit es half s p e before on in
      let of = subst (λ o. AreOf (tick + 1) (logged_at o e) (cond (is_theirs client site o) (logged_at o e) [])) (sym at)
      (subst (λ ys. AreOf (tick + 1) (logged_at (Some (record { flow = x.flow; events = ys })) e) (cond (is_flow_of client site x.flow) (logged_at (Some (record { flow = x.flow; events = ys })) e) [])) (sym is)
      (of_flow x.flow (each_get (Has (IsKnown assets)) table i x k at) (tick + 1) (moment e.client) (ap (λ n. n + 1) (on.client_on.0 ∙ now)) m (logged_second x.flow es e) lines)) in
      record { moments = of.moments; names = of.names ∙ sym (append-nil _) }) p r g new

  -- ---- a whole event

  module _ (law : SessionsAreRight) where
    logged_theirs : (e : RunEvent) (es : List RunEvent) → AreKnown assets limit (e ∷ es) → Rises (e ∷ es) → AreTheirs logging es e client site is_naming
    logged_theirs e es h r =
        let tick = tick_of e.input in
        let table = table_after es in
        let flows = table_has (IsKnown assets) es h.begun.1 in
        let small = h.in_time.0 in
        let first = ticks_naming tick (kept tick table) e.ticks (omega (arith, small)) (kept_has (IsKnown assets) tick table flows) h.are.0.ticks in
        let second = received_naming tick (omega (arith, small, r.0)) (found table e) e.input.packet e.received (found_has_all (IsKnown assets) tick e.ticks table flows) (halves law assets limit e es h.are)
        h.begun.0 h.are.0.received in
        record { first_at = first.moments; second_at = second.moments; first_is = first.names; second_is = second.names }

    pub logged_holds : (es : List RunEvent) → AreKnown assets limit es → Rises es → Holds logging flow is_naming es
    logged_holds = holds logging law assets limit flow is_naming (AreKnown assets limit) (known_before assets limit) (λ es h. h.are) logged_theirs

-- ---- a run

ranged : (o : Result PacketValue PacketRefusal) (p : PacketValue) → o ≡ Ok p → IfOk o HasRanges → HasRanges p
ranged o p is h = subst (λ x. IfOk x HasRanges) is h

pub all_known : (assets : List Asset) (limit : ℕ) (es : List RunEvent) → AreRunEvents assets limit es → AllByRecursion (λ e. IsReadInput e.input) es → AreKnown assets limit es
all_known assets limit [] h read = record { are = tt; in_time = tt; begun = tt }
all_known assets limit (e ∷ es) h read =
    let before = all_known assets limit es h.1 read.1 in
    let small = read.0.moment in
    record {
      are = h;
      in_time = (omega (arith, small), before.in_time);
      begun = (
        λ f b is.
            let by = begun_in assets limit e es h f b is in
            let ranges = ranged e.input.packet by.0 by.1 read.0.packet in
            let address = ranges.source_address in
            let port = ranges.source_port in
            (subst IsEndpoint (sym by.2.client) (omega (arith, address), omega (arith, port)), by.2.among),
        before.begun,
      );
    }

-- ---- the laws

module _ (law : SessionsAreRight) (works : WorkIsOfTheTaken) (assets : List Asset) (limit : ℕ) (given : List Input) (out log : List ℕ) (summary : Summary) (run : IsRun assets limit given out log summary)
    (within : AreAssetsWithin assets) (read : AllByRecursion IsReadInput given) where
  run_known : AreKnown assets limit run.events
  run_known = all_known assets limit run.events run.are (inputs_all IsReadInput run.events (subst (AllByRecursion IsReadInput) (sym run.are_inputs) read))

  its_lines : (flow : Flow) → IsKnown assets flow → Holds logging flow (λ line. names_both (client_of flow) (names_of flow.site) line) run.events
  its_lines flow known = logged_holds works assets within limit flow known law run.events run_known run.rises

  its_flow : (flow : Flow) → HasSession flow run.events → Holds logging flow (λ line. names_both (client_of flow) (names_of flow.site) line) run.events
  its_flow flow has = its_lines flow (begun_has (IsKnown assets) flow run.events run_known.begun has)

pub logs_hold : SessionsAreRight → WorkIsOfTheTaken → LogsHoldSessions
logs_hold law works assets limit given out log summary run within read flow has = (its_flow law works assets limit given out log summary run within read flow has).in_time has

pub logs_to_the_next : SessionsAreRight → WorkIsOfTheTaken → LogsHoldToTheNext
logs_to_the_next law works assets limit given out log summary run within read flow has behind = (its_flow law works assets limit given out log summary run within read flow has).to_next has behind

pub logs_own : SessionsAreRight → WorkIsOfTheTaken → EachLogged
logs_own law works assets limit given out log summary run within read s life =
    let known = of_life (Has (IsKnown assets)) s run.events life (sessions_have (IsKnown assets) run.events (run_known law works assets limit given out log summary run within read).begun) in
    (its_lines law works assets limit given out log summary run within read s.flow known).in_life s life.before life.later life.are

-- ---- two runs

pub logs_isolated : LogsHoldSessions → RunsIsolateSessions → LogsAreIsolated
logs_isolated holds law assets limit given other_given out other_out log other_log summary other_summary run other_run within read other_read moments flow one other earlier matched =
    let same = law assets limit given other_given out other_out log other_log summary other_summary run other_run moments flow one other earlier matched in (
      one_time assets flow run.events other_run.events one other (ap moments_of run.are_inputs ∙ moments ∙ sym (ap moments_of other_run.are_inputs)) earlier matched,
      holds assets limit given out log summary run within read flow one ∙ same.logged
          ∙ sym (holds assets limit other_given other_out other_log other_summary other_run within other_read flow other),
    )

pub alike_in_lines : EventsAreFixed → SessionsAreRight → EachLogged → AlikeInLines
alike_in_lines fixed law holds assets limit given other_given out other_out log other_log summary other_summary run other_run within read other_read one other life other_life alike =
    let right = of_life (IsRightSession limit) one run.events life (law assets limit run.events run.are) in
    let other_right = of_life (IsRightSession limit) other other_run.events other_life (law assets limit other_run.events other_run.are) in
    holds assets limit given out log summary run within read one life ∙ ap (λ f. own_logged f one.events) alike.flow
    ∙ ap (own_logged other.flow) (alike_events fixed limit one other right other_right alike)
    ∙ sym (holds assets limit other_given other_out other_log other_summary other_run within other_read other other_life)
