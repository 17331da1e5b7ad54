-- What a session sends towards a site: its own segments to its controller.
use Rattle.std.proofs.Common.{Bool, List, [], ap, cond, false, filter, map, refl, sym, true, ℕ, ◌++◌, ◌∙◌, ◌∷◌, ◌≡◌}
use Rattle.cf_unobjected.proofs.Common.{AllByRecursion, AreEvents, Asset, Endpoint, Flow, IsRightSession, LegEvent, PacketValue, Sent, Session, SessionEvent, all_map, and_parts, append-nil, asset_place, client_of, controller_ends, controllers, false≢true, flat_map, goes_to_place, greeted_by, is_to_place, legs_right, map-append, packets_of, said_by, sent_in}
use Rattle.cf_isolation.specs.Lives.{own_sent}
use Rattle.cf_leg.specs.Event.{Came, Greeting, Nothing, Packet, is_idle}
use Rattle.cf_isolation.proofs.Tables.{HasOwn, IsOwn}
use Rattle.std.proofs.lemmas.List.Elements.{filter-append}
use Rattle.cf_isolation.proofs.Ends.{GoesFrom, leg_goes}
use Rattle.cf_isolation.proofs.Legs.{LegsRight, are_right}
use Rattle.cf_isolation.proofs.Lists.{filter_all}
use Rattle.cf_isolation.proofs.Packets.{early_all, late_all, right_events}
use Rattle.cf_session.specs.Event.{AreRight}
use Rattle.cf_session.specs.Sent.{at, early, is_first_half, late, sent_first, sent_second}
use Rattle.cf_session.specs.Session.{client_ends}
use Rattle.cf_unobjected.proofs.Places.{no_place}

-- the packets that were sent
abbrev pub packets : List Sent → List PacketValue
packets all = map (λ s. s.packet) all

packets_at : (now : ℕ) (ps : List PacketValue) → packets (at now ps) ≡ ps
packets_at now [] = refl
packets_at now (p ∷ ps) = ap (λ qs. p ∷ qs) (packets_at now ps)

module _ (assets : List Asset) (client : Endpoint) (place : ℕ) where
  -- those that go from the client to the site of a place
  abbrev pub picked : List Sent → List PacketValue
  picked all = filter (goes_to_place assets client place) (packets all)

  -- a flow is theirs
  abbrev pub is_theirs : Flow → Bool
  is_theirs f = is_to_place client place (client_of f) (asset_place assets f.site.first.endpoint)

  pub picked_append : (xs ys : List Sent) → picked (xs ++ ys) ≡ picked xs ++ picked ys
  picked_append xs ys = ap (filter (goes_to_place assets client place)) (map-append (λ (s : Sent). s.packet) xs ys) ∙ filter-append (goes_to_place assets client place) (packets xs) (packets ys)

  module _ (f : Flow) (own : IsOwn assets f) where
    abbrev Told : Bool → PacketValue → Type 0
    Told b p = goes_to_place assets client place p ≡ b

    to_controller : (p : PacketValue) → GoesFrom (client_of f) f.site.first.endpoint p → Told (is_theirs f) p
    to_controller p g = ap (λ d. is_to_place client place p.source (asset_place assets d)) g.1 ∙ ap (λ e. is_to_place client place e (asset_place assets f.site.first.endpoint)) g.0

    pub to_client : (p : PacketValue) → GoesFrom f.site.first.endpoint (client_of f) p → Told false p
    to_client p g = ap (λ d. is_to_place client place p.source (asset_place assets d)) g.1 ∙ ap (is_to_place client place p.source) (no_place assets (client_of f) own.0)

    picked_of : (now : ℕ) (xs ys : List PacketValue) → AllByRecursion (GoesFrom (client_of f) f.site.first.endpoint) xs → AllByRecursion (GoesFrom f.site.first.endpoint (client_of f)) ys →
        picked (at now (xs ++ ys)) ≡ cond (is_theirs f) xs []
    picked_of now xs ys h g =
        let q = goes_to_place assets client place in
        ap (filter q) (packets_at now (xs ++ ys)) ∙ filter-append q xs ys ∙ ap (λ ps. ps ++ filter q ys) (filter_all q (is_theirs f) xs (all_map _ (Told (is_theirs f)) to_controller xs h))
        ∙ ap (λ ps. cond (is_theirs f) xs [] ++ ps) (filter_all q false ys (all_map _ (Told false) to_client ys g)) ∙ append-nil _

    module _ (es : List SessionEvent) (e : SessionEvent) (legs : LegsRight f es) (right : AreRight f es e) where
      first_picked : picked (sent_first e) ≡ cond (is_theirs f) (early (is_first_half e) e.controller) []
      first_picked =
          picked_of e.client.tick (early (is_first_half e) e.controller) (early (is_first_half e) e.client)
          (early_all _ _ e.controller (leg_goes (controller_ends f) _ e.controller legs.controller right.controller))
          (early_all _ _ e.client (leg_goes (client_ends f) _ e.client legs.client right.client))

      second_picked : picked (sent_second e) ≡ cond (is_theirs f) (late (is_first_half e) e.controller) []
      second_picked =
          picked_of _ (late (is_first_half e) e.controller) (late (is_first_half e) e.client)
          (late_all _ _ e.controller (leg_goes (controller_ends f) _ e.controller legs.controller right.controller))
          (late_all _ _ e.client (leg_goes (client_ends f) _ e.client legs.client right.client))

    -- both halves of an event of the end towards the controller
    joined : (first : Bool) (c : LegEvent) → (first ≡ true → is_idle c.came ≡ true) → early first c ++ late first c ≡ c.fired ++ sent_in c
    joined true c idle = ap (λ ps. (c.fired ++ said_by c.ending) ++ (ps ++ [])) (silent c.came (idle refl)) ∙ append-nil _ ∙ ap (λ ps. c.fired ++ (ps ++ said_by c.ending)) (sym (silent c.came (idle refl)))
      where
        silent : (came : Came) → is_idle came ≡ true → greeted_by came ≡ []
        silent Nothing h = refl
        silent (Greeting p) h = absurd (false≢true h)
        silent (Packet p) h = absurd (false≢true h)
    joined false c idle = ap (λ ps. ps ++ sent_in c) (append-nil c.fired)

    more_by : (b : Bool) (before one two all : List PacketValue) → one ++ two ≡ all → cond b before [] ++ (cond b one [] ++ cond b two []) ≡ cond b (before ++ all) []
    more_by true before one two all h = ap (λ ps. before ++ ps) h
    more_by false before one two all h = refl

    none_by : (b : Bool) → picked [] ≡ cond b [] []
    none_by true = refl
    none_by false = refl

    -- all of its events
    pub own_picked : (limit : ℕ) (es : List SessionEvent) → AreEvents f limit es → picked (own_sent es) ≡ cond (is_theirs f) (packets_of (controllers es)) []
    own_picked limit [] h = none_by (is_theirs f)
    own_picked limit (e ∷ es) h =
        let legs = legs_right f limit es h.1 in
        let right = are_right f limit es e h.0 in
        picked_append (own_sent es) (sent_first e ++ sent_second e) ∙ ap (λ ps. picked (own_sent es) ++ ps) (picked_append (sent_first e) (sent_second e))
        ∙ ap (λ ps. ps ++ (picked (sent_first e) ++ picked (sent_second e))) (own_picked limit es h.1)
        ∙ ap (λ ps. cond (is_theirs f) (packets_of (controllers es)) [] ++ (ps ++ picked (sent_second e))) (first_picked es e legs right)
        ∙ ap (λ ps. cond (is_theirs f) (packets_of (controllers es)) [] ++ (cond (is_theirs f) (early (is_first_half e) e.controller) [] ++ ps)) (second_picked es e legs right)
        ∙ more_by (is_theirs f) (packets_of (controllers es)) (early (is_first_half e) e.controller) (late (is_first_half e) e.controller) (e.controller.fired ++ sent_in e.controller)
        (joined (is_first_half e) e.controller (λ first. (and_parts (is_idle e.controller.came) (is_idle e.client.came) first).0))

  -- what those sessions that are theirs sent
  abbrev pub told : List Session → List PacketValue
  told [] = []
  told (s ∷ ss) = cond (is_theirs s.flow) (packets_of (controllers s.events)) [] ++ told ss

  pub all_told : (limit : ℕ) (ss : List Session) → AllByRecursion (IsRightSession limit) ss → AllByRecursion (HasOwn assets) ss → picked (flat_map (λ s. own_sent s.events) ss) ≡ told ss
  all_told limit [] h own = refl
  all_told limit (s ∷ ss) h own =
      picked_append (own_sent s.events) (flat_map (λ (x : Session). own_sent x.events) ss) ∙ ap (λ ps. ps ++ picked (flat_map (λ (x : Session). own_sent x.events) ss)) (own_picked s.flow own.0 limit s.events (right_events limit s.flow s.events h.0))
      ∙ ap (λ ps. cond (is_theirs s.flow) (packets_of (controllers s.events)) [] ++ ps) (all_told limit ss h.1 own.1)
