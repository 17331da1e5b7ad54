-- Which packets of one event go between a client and a site: those of their session.
use Rattle.std.proofs.Common.{◌≡◌, ℕ, Bool, true, false, List, [], ◌∷◌, ◌++◌, cond, if◌then◌else◌, Option, Some, None, Result, refl, sym, ap, ◌∙◌, subst, filter, not, slice_get}
use Rattle.cf_isolation.proofs.Common.{AllByRecursion, AreRight, AreRunEvents, AreTicks, Asset, Begun, CutReason, Dropped, Endpoint, EventsAreFixed, Flow, GoesOnAt, HasEvents, IsBeginning, IsPacket, IsRightSession, LegEvent, NoRoom, NoSession, PacketRefusal, PacketValue, Received, ReceivesRecord, RunEvent, Sent, Session, SessionEvent, SessionsAreRight, Side, Went, append-nil, at, begins_theirs, client_ends, client_of, controller_ends, filter-append, flat_map, found, goes_between, goes_to_theirs, gone_after, is_between, is_first_half, is_flow_of, is_theirs, kept, moment, said_by, same_endpoint, same_is, sent, sent_first, sent_received, sent_second, stays, table_after, tick_of, ticked, ticks_of, true≢false, with_events}
use Rattle.std.specs.Option.{is_some}
use Rattle.std.proofs.Math.Bool.{and_comm, or-false}
use Rattle.std.proofs.lemmas.Bool.{false_from_ne_true}
use Rattle.cf_policy.specs.AtEndpoint.{has_asset_at}
use Rattle.cf_leg.specs.Event.{greeted_by}
use Rattle.cf_isolation.proofs.Legs.{LegsRight, legs_right}
use Rattle.cf_isolation.proofs.Writing.{Sends}
use Rattle.cf_session.specs.Event.{AreEvents as AreSessionEvents}
use Rattle.cf_session.specs.Sent.{early, late}
use Rattle.cf_run.specs.Sessions.{AreAlike}
use Rattle.cf_run.specs.Trace.{GoesOnWith}
use Rattle.cf_isolation.proofs.Ends.{GoesFrom, leg_goes}
use Rattle.cf_isolation.proofs.Lists.{all_back, all_both, all_filtered, all_map, filter_all}
use Rattle.cf_isolation.proofs.Tables.{HasOwn, IsOwn, all_own, begun_in, each_get, found_has_all, kept_has, receives, table_has}

-- ---- sessions that had their first half

pub uncut : (c : Option CutReason) → not (is_some c) ≡ true → c ≡ None
uncut None h = refl
uncut (Some r) h = absurd (true≢false (sym h))

-- the newest event of a session ticked then, and those before it are right
abbrev pub HasHalf : (limit tick : ℕ) → Flow → List SessionEvent → Type 0
HasHalf limit tick f [] = ⊥
HasHalf limit tick f (t ∷ es) = (t.client.tick ≡ tick) × AreSessionEvents f limit es

abbrev pub IsHalved : (limit tick : ℕ) → Session → Type 0
IsHalved limit tick s = HasHalf limit tick s.flow s.events

pub right_events : (limit : ℕ) (f : Flow) (es : List SessionEvent) → HasEvents limit f es → AreSessionEvents f limit es
right_events limit f [] h = absurd h
right_events limit f (e ∷ es) h = h.0

halved : (limit tick : ℕ) (ss : List Session) (ts : List SessionEvent) → AllByRecursion (IsRightSession limit) ss → AreTicks tick ss ts → AllByRecursion (IsHalved limit tick) (with_events ss ts)
halved limit tick [] ts h are = tt
halved limit tick (s ∷ ss) [] h are = absurd are
halved limit tick (s ∷ ss) (t ∷ ts) h are = ((are.0.client_tick, right_events limit s.flow s.events h.0), halved limit tick ss ts h.1 are.1)

pub all_halved : (limit tick : ℕ) (ss : List Session) (ts : List SessionEvent) → AllByRecursion (IsRightSession limit) ss → AreTicks tick (kept tick ss) ts → AllByRecursion (IsHalved limit tick) (ticked ts tick ss)
all_halved limit tick ss ts h are =
    all_filtered (IsHalved limit tick) stays (with_events (kept tick ss) ts) (halved limit tick (kept tick ss) ts (all_filtered (IsRightSession limit) _ ss h) are)

module _ (law : SessionsAreRight) (assets : List Asset) (limit : ℕ) where
  pub rights_after : (es : List RunEvent) → AreRunEvents assets limit es → AllByRecursion (IsRightSession limit) (table_after es)
  rights_after es are = all_back (IsRightSession limit) (gone_after es) (table_after es) (law assets limit es are)

  pub halves : (e : RunEvent) (es : List RunEvent) → AreRunEvents assets limit (e ∷ es) → AllByRecursion (IsHalved limit (tick_of e.input)) (found (table_after es) e)
  halves e es h = all_halved limit (tick_of e.input) (table_after es) e.ticks (rights_after es h.1) h.0.ticks

-- right events of one flow that are given the same are the same
pub alike_events : EventsAreFixed → (limit : ℕ) (one other : Session) → IsRightSession limit one → IsRightSession limit other → AreAlike one other → one.events ≡ other.events
alike_events fixed limit one other h g alike =
    fixed other.flow limit one.events other.events (subst (λ f. AreSessionEvents f limit one.events) alike.flow (right_events limit one.flow one.events h)) (right_events limit other.flow other.events g) alike.same

-- the packet of a record begins a session, or one of these goes on, or nothing happens
module _ (assets : List Asset) (limit tick : ℕ) (table : List Session) (halved : AllByRecursion (IsHalved limit tick) table) (P : Received → Type 0) (nothing : P Dropped × P NoRoom × P NoSession)
    (begun : (f : Flow) (e : SessionEvent) → IsBeginning f tick e → P (Begun f e))
    (went : (i : ℕ) (e : SessionEvent) (s : Side) (p : PacketValue) (x : Session) (half : SessionEvent) (es : List SessionEvent) → slice_get table i ≡ Some x → x.events ≡ half ∷ es →
    half.client.tick ≡ tick → AreSessionEvents x.flow limit es → IsPacket x.flow limit es half s p e → P (Went i e)) where
  went_with : (i : ℕ) (e : SessionEvent) (s : Side) (p : PacketValue) (x : Session) (es : List SessionEvent) → slice_get table i ≡ Some x → x.events ≡ es → HasHalf limit tick x.flow es →
      GoesOnWith limit s p e x.flow es → P (Went i e)
  went_with i e s p x [] at is h g = absurd h
  went_with i e s p x (half ∷ es) at is h g = went i e s p x half es at is h.0 h.1 g

  went_at : (i : ℕ) (e : SessionEvent) (s : Side) (p : PacketValue) (o : Option Session) → slice_get table i ≡ o → GoesOnAt limit s p e o → P (Went i e)
  went_at i e s p None at g = absurd g
  went_at i e s p (Some x) at g = went_with i e s p x x.events at refl (each_get (IsHalved limit tick) table i x halved at) g

  pub receives_halved : (p : Result PacketValue PacketRefusal) (r : Received) → ReceivesRecord assets limit tick table p r → P r
  receives_halved = receives assets limit tick table P nothing begun (λ i e s p on. went_at i e s p (slice_get table i) refl on)

-- ---- one packet

pub early_all : (P : PacketValue → Type 0) (b : Bool) (e : LegEvent) → Sends P e → AllByRecursion P (early b e)
early_all P true e h = all_both P e.fired _ h.fired h.said
early_all P false e h = all_both P e.fired [] h.fired tt

pub late_all : (P : PacketValue → Type 0) (b : Bool) (e : LegEvent) → Sends P e → AllByRecursion P (late b e)
late_all P true e h = all_both P _ [] h.greeted tt
late_all P false e h = all_both P _ _ h.greeted h.said

-- what holds of all that the two ends of a session send holds of what its event sends in each half
module _ (P : PacketValue → Type 0) (Q : Sent → Type 0) (e : SessionEvent) (controller : Sends P e.controller) (client : Sends P e.client) where
  at_all : (now : ℕ) → ((p : PacketValue) → P p → Q (record { moment = now; packet = p })) → (ps : List PacketValue) → AllByRecursion P ps → AllByRecursion Q (at now ps)
  at_all now f [] h = tt
  at_all now f (p ∷ ps) h = (f p h.0, at_all now f ps h.1)

  pub first_all : ((p : PacketValue) → P p → Q (record { moment = e.client.tick; packet = p })) → AllByRecursion Q (sent_first e)
  first_all f = at_all _ f _ (all_both P (early (is_first_half e) e.controller) _ (early_all P _ e.controller controller) (early_all P _ e.client client))

  pub second_all : ((p : PacketValue) → P p → Q (record { moment = moment e.client; packet = p })) → AllByRecursion Q (sent_second e)
  second_all f = at_all _ f _ (all_both P (late (is_first_half e) e.controller) _ (late_all P _ e.controller controller) (late_all P _ e.client client))

module _ (assets : List Asset) (client site : Endpoint) (none : has_asset_at assets client ≡ false) (some : has_asset_at assets site ≡ true) where
  never_same : (x y : Endpoint) → has_asset_at assets x ≡ false → has_asset_at assets y ≡ true → x ≡ y → ⊥
  never_same x y a b e = absurd (true≢false (sym b ∙ (sym (ap (has_asset_at assets) e) ∙ a)))

  apart : (x y : Endpoint) → (x ≡ y → ⊥) → same_endpoint x y ≡ false
  apart x y n = false_from_ne_true (same_endpoint x y) (λ same. n (same_is x y same))

  module _ (f : Flow) (own : IsOwn assets f) where
    abbrev IsTold : PacketValue → Type 0
    IsTold p = goes_between client site p ≡ is_flow_of client site f

    to_controller : (p : PacketValue) → GoesFrom (client_of f) f.site.first.endpoint p → IsTold p
    to_controller p g =
        let other = apart (client_of f) site (never_same (client_of f) site own.0 some) in
        rw (g.0, g.1, other) (or-false _)

    to_client : (p : PacketValue) → GoesFrom f.site.first.endpoint (client_of f) p → IsTold p
    to_client p g =
        let other = apart f.site.first.endpoint client (λ e. never_same client f.site.first.endpoint none own.1 (sym e)) in
        rw (g.0, g.1, other) (and_comm (same_endpoint f.site.first.endpoint site) (same_endpoint (client_of f) client))

    told_by : (source dest : Endpoint) → ((p : PacketValue) → GoesFrom source dest p → IsTold p) → (e : LegEvent) → Sends (GoesFrom source dest) e → Sends IsTold e
    told_by source dest k e h = record {
      fired = all_map (GoesFrom source dest) IsTold k e.fired h.fired;
      greeted = all_map (GoesFrom source dest) IsTold k (greeted_by e.came) h.greeted;
      said = all_map (GoesFrom source dest) IsTold k (said_by e.ending) h.said;
    }

    abbrev AreTold : List Sent → Type 0
    AreTold all = AllByRecursion (λ s. IsTold s.packet) all

    module _ (es : List SessionEvent) (e : SessionEvent) (legs : LegsRight f es) (right : AreRight f es e) where
      controller_told : Sends IsTold e.controller
      controller_told = told_by _ _ to_controller e.controller (leg_goes (controller_ends f) _ e.controller legs.controller right.controller)

      client_told : Sends IsTold e.client
      client_told = told_by _ _ to_client e.client (leg_goes (client_ends f) _ e.client legs.client right.client)

      first_told : AreTold (sent_first e)
      first_told = first_all IsTold (λ s. IsTold s.packet) e controller_told client_told (λ p h. h)

      second_told : AreTold (sent_second e)
      second_told = second_all IsTold (λ s. IsTold s.packet) e controller_told client_told (λ p h. h)

  -- ---- the first half

  abbrev between : List Sent → List Sent
  between all = filter (λ s. goes_between client site s.packet) all

  pub ticks_between : (limit tick : ℕ) (ss : List Session) (ts : List SessionEvent) → AllByRecursion (IsRightSession limit) ss → AllByRecursion (HasOwn assets) ss → AreTicks tick ss ts →
      between (flat_map sent_first ts) ≡ flat_map sent_first (ticks_of client site ss ts)
  ticks_between limit tick [] ts h own are = ap (λ xs. between (flat_map sent_first xs)) are
  ticks_between limit tick (s ∷ ss) [] h own are = absurd are
  ticks_between limit tick (s ∷ ss) (t ∷ ts) h own are =
      let legs = legs_right s.flow limit s.events (right_events limit s.flow s.events h.0) in
      let here = filter_all _ _ (sent_first t) (first_told s.flow own.0 s.events t legs are.0.right) in
      let more = ticks_between limit tick ss ts h.1 own.1 are.1 in
      let T = ticks_of client site ss ts in
      filter-append (λ x. goes_between client site x.packet) (sent_first t) (flat_map sent_first ts) ∙ ap (λ xs. xs ++ between (flat_map sent_first ts)) here ∙ ap (λ xs. cond (is_between client site s) (sent_first t) [] ++ xs) more
      ∙ (elim (is_between client site s) as (λ b. cond b (sent_first t) [] ++ flat_map sent_first T ≡ flat_map sent_first (cond b (t ∷ T) T)) [ true ↦ refl | false ↦ refl ])

  -- ---- the second half

  -- what goes to their session, or begins one
  abbrev pub received_theirs : List Session → Received → List Sent
  received_theirs table r = (if goes_to_theirs client site table r then sent_received r else []) ++ (if begins_theirs client site r then sent_received r else [])

  pub received_between : (limit tick : ℕ) (table : List Session) (p : Result PacketValue PacketRefusal) (r : Received) → AllByRecursion (HasOwn assets) table → AllByRecursion (IsHalved limit tick) table →
      ((f : Flow) (e : SessionEvent) → r ≡ Begun f e → IsOwn assets f) → ReceivesRecord assets limit tick table p r → between (sent_received r) ≡ received_theirs table r
  received_between limit tick table p r own h new g =
      receives_halved assets limit tick table h (λ r. ((f : Flow) (e : SessionEvent) → r ≡ Begun f e → IsOwn assets f) → between (sent_received r) ≡ received_theirs table r)
      ((λ new. refl), (λ new. refl), (λ new. refl))
      (λ f e b new. filter_all _ _ (sent_second e) (second_told f (new f e refl) [] e (record { controller = tt; client = tt }) b.right))
      (λ i e s p x half es at is now before on new.
      subst (λ o. between (sent_second e) ≡ cond (is_theirs client site o) (sent_second e) []) (sym at)
      (filter_all _ _ (sent_second e) (second_told x.flow (each_get (HasOwn assets) table i x own at) es e (legs_right x.flow limit es before) on.right)) ∙ sym (append-nil _)) p r g new

-- ---- all that a run sends

module _ (law : SessionsAreRight) (assets : List Asset) (limit : ℕ) (R : ℕ → Type 0) (Q : Sent → Type 0)
    (first : (tick : ℕ) → R tick → (f : Flow) → IsOwn assets f → (es : List SessionEvent) (t : SessionEvent) → LegsRight f es → AreRight f es t → t.client.tick ≡ tick → AllByRecursion Q (sent_first t))
    (second : (tick : ℕ) → R tick → (f : Flow) → IsOwn assets f → (es : List SessionEvent) (e : SessionEvent) → LegsRight f es → AreRight f es e → e.client.tick ≡ tick → AllByRecursion Q (sent_second e)) where
  ticks_all : (tick : ℕ) → R tick → (ss : List Session) (ts : List SessionEvent) → AllByRecursion (IsRightSession limit) ss → AllByRecursion (HasOwn assets) ss → AreTicks tick ss ts → AllByRecursion Q (flat_map sent_first ts)
  ticks_all tick m [] ts h own are = subst (λ xs. AllByRecursion Q (flat_map sent_first xs)) (sym are) tt
  ticks_all tick m (s ∷ ss) [] h own are = absurd are
  ticks_all tick m (s ∷ ss) (t ∷ ts) h own are =
      let legs = legs_right s.flow limit s.events (right_events limit s.flow s.events h.0) in
      all_both Q (sent_first t) _ (first tick m s.flow own.0 s.events t legs are.0.right are.0.client_tick) (ticks_all tick m ss ts h.1 own.1 are.1)

  -- what holds of the packets of each session's event holds of all packets
  pub sent_all : (es : List RunEvent) → AreRunEvents assets limit es → AllByRecursion (λ e. R (tick_of e.input)) es → AllByRecursion Q (sent es)
  sent_all [] are m = tt
  sent_all (e ∷ es) are m =
      let tick = tick_of e.input in
      let table = table_after es in
      let own = table_has (IsOwn assets) es (all_own assets limit es are.1) in
      all_both Q (sent es) _ (sent_all es are.1 m.1)
      (all_both Q (flat_map sent_first e.ticks) _
      (ticks_all tick m.0 (kept tick table) e.ticks (all_filtered (IsRightSession limit) _ table (rights_after law assets limit es are.1)) (kept_has (IsOwn assets) tick table own) are.0.ticks)
      (receives_halved assets limit tick (found table e) (halves law assets limit e es are) (λ r. ((f : Flow) (b : SessionEvent) → r ≡ Begun f b → IsOwn assets f) → AllByRecursion Q (sent_received r))
      ((λ new. tt), (λ new. tt), (λ new. tt))
      (λ f b begins new. second tick m.0 f (new f b refl) [] b (record { controller = tt; client = tt }) begins.right (ap (λ x. x.tick) begins.client))
      (λ i b s p x half before at is ticked right on new.
      second tick m.0 x.flow (each_get (HasOwn assets) (found table e) i x (found_has_all (IsOwn assets) tick e.ticks table own) at) before b (legs_right x.flow limit before right) on.right (on.client_on.0 ∙ ticked))
      e.input.packet e.received are.0.received (λ f b is. (begun_in assets limit e es are f b is).2.own)))
