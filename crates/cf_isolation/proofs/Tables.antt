-- The flows of a table's sessions: each goes from no site's endpoint to a site's.
use Rattle.std.proofs.Common.{◌≡◌, ℕ, zero, suc, ◌&&◌, ◌||◌, Bool, true, false, not, List, [], ◌∷◌, ◌++◌, cond, if◌then◌else◌, Option, Some, None, option_map, Result, Ok, Err, refl, sym, ap, ◌∙◌, subst, arith, filter, slice_get}
use Rattle.cf_isolation.proofs.Common.{AreRunEvents, Asset, Begun, Dropped, Endpoint, Flow, GoesOnAt, HasSession, IsBeginning, NoRoom, NoSession, PacketRefusal, PacketValue, Received, ReceivesRecord, RunEvent, Session, SessionEvent, Side, Went, client_of, gone_after, is_expired, kept, leaves, left_by_packet, nat_tests, remove, same_endpoint, same_is, session_at, sessions_of, stays, table_after, tick_of, ticked, true≢false, with_event_at, with_events}
use Rattle.std.specs.List.{AllByRecursion as Each}
use Rattle.cf_leg.specs.Segment.{is_opening}
use Rattle.cf_policy.proofs.SiteLaws.{sites_begin}
use Rattle.cf_policy.specs.AtEndpoint.{asset_at, has_asset_at}
use Rattle.cf_policy.specs.Site.{SiteValue, site_at}
use Rattle.cf_run.specs.Sessions.{left_in}
use Rattle.cf_run.specs.Table.{Begins, Full, Goes, Match, begins, begins_or_full, goes, goes_from_client, match_of, may_begin, place_of, without}
use Rattle.cf_isolation.proofs.Lists.{all_both, all_filtered}
use Rattle.cf_isolation.proofs.Moments.{back}
use Rattle.cf_run.specs.Trace.{Receives, after_received}

pub same_self : (e : Endpoint) → same_endpoint e e ≡ true
same_self e = grind (arith, nat_tests)

-- an asset is one of these
abbrev pub IsAmong : List Asset → Asset → Type 0
IsAmong assets asset = (place : ℕ) × (slice_get assets place ≡ Some asset)

-- a site is the one at its endpoint
abbrev pub IsSiteAmong : List Asset → SiteValue → Type 0
IsSiteAmong assets site = site_at assets site.first.endpoint ≡ Some site

-- a flow goes from no site's endpoint to a site's
abbrev pub IsOwn : List Asset → Flow → Type 0
IsOwn assets f = (has_asset_at assets (client_of f) ≡ false) × (has_asset_at assets f.site.first.endpoint ≡ true)

abbrev pub HasOwn : List Asset → Session → Type 0
HasOwn assets s = IsOwn assets s.flow

-- ---- of each session of a list

each_remove : (P : Session → Type 0) (xs : List Session) (i : ℕ) → Each P xs → Each P (remove xs i)
each_remove P [] zero h = tt
each_remove P [] (suc i) h = tt
each_remove P (x ∷ xs) zero h = h.1
each_remove P (x ∷ xs) (suc i) h = (h.0, each_remove P xs i h.1)

each_without : (P : Session → Type 0) (xs : List Session) (place : Option ℕ) → Each P xs → Each P (elim place [ Some i ↦ remove xs i | None ↦ xs ])
each_without P xs None h = h
each_without P xs (Some i) h = each_remove P xs i h

pub each_get : (P : Session → Type 0) (xs : List Session) (i : ℕ) (s : Session) → Each P xs → slice_get xs i ≡ Some s → P s
each_get P [] i s h e = cc
each_get P (x ∷ xs) zero s h e = let same : x ≡ s = cc in subst P same h.0
each_get P (x ∷ xs) (suc i) s h e = each_get P xs i s h.1 e

-- ---- a packet that begins a session

pub found_has : (assets : List Asset) (endpoint : Endpoint) (asset : Asset) → asset_at assets endpoint ≡ Some asset → has_asset_at assets asset.endpoint ≡ true
found_has [] endpoint asset h = cc
found_has (a ∷ assets) endpoint asset h = by (λ e. found_has assets endpoint asset e) (same_endpoint a.endpoint endpoint) h
  where
    by : (asset_at assets endpoint ≡ Some asset → has_asset_at assets asset.endpoint ≡ true) → (b : Bool) → cond b (Some a) (asset_at assets endpoint) ≡ Some asset →
        has_asset_at (a ∷ assets) asset.endpoint ≡ true
    by more true e = let same : a ≡ asset = cc in subst (λ x. has_asset_at (a ∷ assets) x.endpoint ≡ true) same (rw (same_self a.endpoint) refl)
    by more false e = elim (same_endpoint a.endpoint asset.endpoint) as (λ b. (b || has_asset_at assets asset.endpoint) ≡ true) [ true ↦ refl | false ↦ more e ]

-- an asset that is found at an endpoint stands there
pub found_there : (assets : List Asset) (endpoint : Endpoint) (asset : Asset) → asset_at assets endpoint ≡ Some asset → asset.endpoint ≡ endpoint
found_there [] endpoint asset h = cc
found_there (a ∷ assets) endpoint asset h = by (λ e. found_there assets endpoint asset e) (same_endpoint a.endpoint endpoint) refl h
  where
    by : (asset_at assets endpoint ≡ Some asset → asset.endpoint ≡ endpoint) → (b : Bool) → same_endpoint a.endpoint endpoint ≡ b → cond b (Some a) (asset_at assets endpoint) ≡ Some asset →
        asset.endpoint ≡ endpoint
    by more true is e = let same : a ≡ asset = cc in sym (ap (λ (x : Asset). x.endpoint) same) ∙ same_is a.endpoint endpoint is
    by more false is e = more e

-- the first asset of a site is the one at its endpoint
site_first : (assets : List Asset) (endpoint : Endpoint) (site : SiteValue) → site_at assets endpoint ≡ Some site → asset_at assets endpoint ≡ Some site.first
site_first assets endpoint site h = sym (sites_begin assets endpoint) ∙ ap (option_map (λ x. x.first)) h

site_itself : (assets : List Asset) (endpoint : Endpoint) (site : SiteValue) → site_at assets endpoint ≡ Some site → IsSiteAmong assets site
site_itself assets endpoint site h = subst (λ e. site_at assets e ≡ Some site) (sym (found_there assets endpoint site.first (site_first assets endpoint site h))) h

-- what holds of a flow that a packet begins
pub record IsBegunBy (assets : List Asset) (p : PacketValue) (f : Flow) : Type 0 where
  pub own : IsOwn assets f
  pub among : IsSiteAmong assets f.site
  pub client : client_of f ≡ p.source

module _ (assets : List Asset) (table : List Session) (p : PacketValue) (f : Flow) where
  never_goes : (o q : Option ℕ) → goes_from_client o q ≡ Begins f → ⊥
  never_goes (Some i) q h = cc
  never_goes None (Some i) h = cc
  never_goes None None h = cc

  abbrev flow_to : SiteValue → Flow
  flow_to site = record { site = site; syn = p }

  room_by : (site : SiteValue) (b : Bool) → (if b then Begins (flow_to site) else Full) ≡ Begins f → flow_to site ≡ f
  room_by site true h = cc
  room_by site false h = cc

  closed_by : (site : SiteValue) (b : Bool) → (if b then begins_or_full table (flow_to site) else goes table p) ≡ Begins f → flow_to site ≡ f
  closed_by site true h = room_by site _ h
  closed_by site false h = absurd (never_goes _ _ h)

  begun_to : has_asset_at assets p.source ≡ false → (site : SiteValue) → site_at assets p.dest ≡ Some site → IsBegunBy assets p (flow_to site)
  begun_to none site e = record { own = (none, found_has assets p.dest site.first (site_first assets p.dest site e)); among = site_itself assets p.dest site e; client = refl }

  begun_if : has_asset_at assets p.source ≡ false → (o : Option SiteValue) → site_at assets p.dest ≡ o → begins table p o ≡ Begins f → IsBegunBy assets p f
  begun_if none None e h = absurd (never_goes _ _ h)
  begun_if none (Some site) e h = subst (IsBegunBy assets p) (closed_by site _ h) (begun_to none site e)

  not_both : (a b : Bool) → (a && not b) ≡ true → b ≡ false
  not_both true false e = refl
  not_both _ _ e = absurd (true≢false (sym e))

  may_by : (b : Bool) → may_begin assets p ≡ b → (if b then begins table p (site_at assets p.dest) else goes table p) ≡ Begins f → IsBegunBy assets p f
  may_by true e h = begun_if (not_both (is_opening p) (has_asset_at assets p.source) e) (site_at assets p.dest) refl h
  may_by false e h = absurd (never_goes _ _ h)

  pub begins_by : match_of assets table p ≡ Begins f → IsBegunBy assets p f
  begins_by h = may_by (may_begin assets p) refl h

module _ (assets : List Asset) (limit : ℕ) where
  begun_by : (tick : ℕ) (table : List Session) (p : PacketValue) (m : Match) (f : Flow) (e : SessionEvent) → match_of assets table p ≡ m → Receives limit tick table p m (Begun f e) → IsBegunBy assets p f
  begun_by tick table p (Begins g) f e is h = subst (IsBegunBy assets p) (sym h.0) (begins_by assets table p g is)
  begun_by tick table p _ f e is h = absurd h

  never_dropped : (f : Flow) (e : SessionEvent) → Begun f e ≡ Dropped → ⊥
  never_dropped f e h = cc

  -- the record is a packet, which begins it
  pub begun_is : (tick : ℕ) (table : List Session) (p : Result PacketValue PacketRefusal) (f : Flow) (e : SessionEvent) → ReceivesRecord assets limit tick table p (Begun f e) →
      (packet : PacketValue) × (p ≡ Ok packet) × IsBegunBy assets packet f
  begun_is tick table (Err refusal) f e h = absurd (never_dropped f e h)
  begun_is tick table (Ok packet) f e h = (packet, refl, begun_by tick table packet (match_of assets table packet) f e refl h)

  -- of an event in which a session begins
  pub begun_in : (e : RunEvent) (es : List RunEvent) → AreRunEvents assets limit (e ∷ es) → (f : Flow) (b : SessionEvent) → e.received ≡ Begun f b →
      (packet : PacketValue) × (e.input.packet ≡ Ok packet) × IsBegunBy assets packet f
  begun_in e es h f b is =
      begun_is (tick_of e.input) (ticked e.ticks (tick_of e.input) (table_after es)) e.input.packet f b
      (subst (ReceivesRecord assets limit (tick_of e.input) (ticked e.ticks (tick_of e.input) (table_after es)) e.input.packet) is h.0.received)

-- ---- the packet of a record begins a session, or one goes on, or nothing happens

module _ (assets : List Asset) (limit tick : ℕ) (table : List Session) (P : Received → Type 0) (nothing : P Dropped × P NoRoom × P NoSession)
    (begun : (f : Flow) (e : SessionEvent) → IsBeginning f tick e → P (Begun f e))
    (went : (i : ℕ) (e : SessionEvent) (s : Side) (p : PacketValue) → GoesOnAt limit s p e (slice_get table i) → P (Went i e)) where
  receives_by : (p : PacketValue) (m : Match) (r : Received) → Receives limit tick table p m r → P r
  receives_by p m Dropped g = nothing.0
  receives_by p m NoRoom g = nothing.1
  receives_by p m NoSession g = nothing.2
  receives_by p (Begins flow) (Begun f e) g = begun f e (subst (λ x. IsBeginning x tick e) (sym g.0) g.1)
  receives_by p (Goes i s) (Went j e) g = went j e s p (subst (λ k. GoesOnAt limit s p e (slice_get table k)) (sym g.0) g.1)
  receives_by p _ _ g = absurd g

  pub receives : (p : Result PacketValue PacketRefusal) (r : Received) → ReceivesRecord assets limit tick table p r → P r
  receives (Err refusal) r g = subst P (sym g) nothing.0
  receives (Ok p) r g = receives_by p (match_of assets table p) r g

-- ---- what holds of each flow that begins holds of each session of a table

-- it does so of each of these events
abbrev pub BegunHave : (Flow → Type 0) → List RunEvent → Type 0
BegunHave K [] = Unit {0}
BegunHave K (e ∷ es) = ((f : Flow) (b : SessionEvent) → e.received ≡ Begun f b → K f) × BegunHave K es

-- of a session of these events it holds
pub begun_has : (K : Flow → Type 0) (flow : Flow) (events : List RunEvent) → BegunHave K events → (has : HasSession flow events) → K flow
begun_has K flow events all has =
    let start = has.first ∷ has.earlier in
    let own = back (BegunHave K) (λ e es h. h.1) has.after (has.later ++ start) (subst (BegunHave K) has.are all) in
    (back (BegunHave K) (λ e es h. h.1) has.later start own).0 flow has.begun has.begins

module _ (K : Flow → Type 0) where
  abbrev pub Has : Session → Type 0
  Has s = K s.flow

  pub next_has : (ss : List Session) (ts : List SessionEvent) → Each Has ss → Each Has (with_events ss ts)
  next_has [] ts h = tt
  next_has (s ∷ ss) [] h = h
  next_has (s ∷ ss) (t ∷ ts) h = (h.0, next_has ss ts h.1)

  pub went_has : (i : ℕ) (e : SessionEvent) (ss : List Session) → Each Has ss → Each Has (with_event_at i e ss)
  went_has i e [] h = tt
  went_has zero e (s ∷ ss) h = (h.0, h.1)
  went_has (suc i) e (s ∷ ss) h = (h.0, went_has i e ss h.1)

  received_has : (table : List Session) (r : Received) → ((f : Flow) (b : SessionEvent) → r ≡ Begun f b → K f) → Each Has table → Each Has (after_received r table)
  received_has table (Begun f e) new h =
      all_both Has (without (client_of f) f.site.first.endpoint table) _ (each_without Has table (place_of (client_of f) f.site.first.endpoint table) h) (new f e refl, tt)
  received_has table (Went i e) new h = all_filtered Has stays (with_event_at i e table) (went_has i e table h)
  received_has table _ new h = h

  pub kept_has : (tick : ℕ) (table : List Session) → Each Has table → Each Has (kept tick table)
  kept_has tick table h = all_filtered Has _ table h

  pub found_has_all : (tick : ℕ) (ts : List SessionEvent) (table : List Session) → Each Has table → Each Has (ticked ts tick table)
  found_has_all tick ts table h = all_filtered Has stays (with_events (kept tick table) ts) (next_has (kept tick table) ts (kept_has tick table h))

  pub table_has : (es : List RunEvent) → BegunHave K es → Each Has (table_after es)
  table_has [] h = tt
  table_has (e ∷ es) h = received_has (ticked e.ticks (tick_of e.input) (table_after es)) e.received h.0 (found_has_all (tick_of e.input) e.ticks (table_after es) (table_has es h.1))

  one_has : (table : List Session) (o : Option Session) → ((s : Session) → o ≡ Some s → Has s) → Each Has (elim o [ None ↦ [] | Some session ↦ session ∷ [] ])
  one_has table None h = tt
  one_has table (Some s) h = (h s refl, tt)

  at_has : (table : List Session) (place : Option ℕ) → Each Has table → Each Has (session_at table place)
  at_has table None h = tt
  at_has table (Some i) h = one_has table (slice_get table i) (λ s e. each_get Has table i s h e)

  left_has : (table : List Session) (r : Received) → Each Has table → Each Has (left_by_packet r table)
  left_has table (Begun f e) h = at_has table (place_of (client_of f) f.site.first.endpoint table) h
  left_has table (Went i e) h = all_filtered Has leaves (with_event_at i e table) (went_has i e table h)
  left_has table _ h = tt

  -- of those that left it too
  pub gone_have : (es : List RunEvent) → BegunHave K es → Each Has (gone_after es)
  gone_have [] h = tt
  gone_have (e ∷ es) h =
      let tick = tick_of e.input in
      let table = table_after es in
      let here = table_has es h.1 in
      all_both Has (gone_after es) (left_in table e) (gone_have es h.1)
      (all_both Has (filter (λ s. is_expired s.flow s.events tick) table) _ (all_filtered Has (λ s. is_expired s.flow s.events tick) table here)
      (all_both Has (filter leaves (with_events (kept tick table) e.ticks)) (left_by_packet e.received (ticked e.ticks tick table))
      (all_filtered Has leaves (with_events (kept tick table) e.ticks) (next_has (kept tick table) e.ticks (kept_has tick table here)))
      (left_has (ticked e.ticks tick table) e.received (found_has_all tick e.ticks table here))))

  pub sessions_have : (es : List RunEvent) → BegunHave K es → Each Has (sessions_of es)
  sessions_have es h = all_both Has (gone_after es) (table_after es) (gone_have es h) (table_has es h)

pub all_own : (assets : List Asset) (limit : ℕ) (es : List RunEvent) → AreRunEvents assets limit es → BegunHave (IsOwn assets) es
all_own assets limit [] h = tt
all_own assets limit (e ∷ es) h = ((λ f b is. (begun_in assets limit e es h f b is).2.own), all_own assets limit es h.1)
