-- What a run sends from a client to a site is what its sessions of theirs sent, one after the other.
use Rattle.std.proofs.Common.{◌≡◌, ℕ, ◌&&◌, ◌||◌, ◌==◌, Bool, true, false, List, [], ◌∷◌, ◌++◌, cond, Option, Some, None, refl, sym, ap, ◌∙◌, subst, arith, filter}
use Rattle.cf_unobjected.proofs.Common.{AllByRecursion, AreRunEvents, Asset, Endpoint, Flow, IsRightSession, LegEvent, PacketValue, RunEvent, Sent, Session, SessionEvent, all_map, and_parts, asset_place, client_of, controller_ends, controllers, false≢true, goes_to_place, is_to_place, nat_tests, packets_of, same_endpoint, same_is, sessions_of, true≢false}
use Rattle.std.proofs.lemmas.Bool.{and_right, false_from_ne_true}
use Rattle.cf_isolation.proofs.Ends.{GoesFrom, leg_goes}
use Rattle.cf_isolation.proofs.Legs.{LegsRight}
use Rattle.cf_isolation.proofs.Lists.{all_filtered}
use Rattle.cf_isolation.proofs.Packets.{first_all, second_all, sent_all}
use Rattle.cf_isolation.proofs.Sending.{sent_holds}
use Rattle.cf_isolation.proofs.Tables.{HasOwn, IsOwn, all_own, found_has, same_self, sessions_have}
use Rattle.cf_isolation.proofs.Writing.{Sends}
use Rattle.cf_isolation.specs.Records.{goes_between, goes_from}
use Rattle.cf_policy.proofs.FirstPlace.{IsFirstAt, first_at}
use Rattle.cf_policy.specs.Site.{alone}
use Rattle.cf_policy.specs.AtEndpoint.{has_asset_at}
use Rattle.cf_run.specs.Selected.{Rises}
use Rattle.cf_run.specs.Sessions.{SessionsAreRight}
use Rattle.cf_run.specs.Table.{is_between}
use Rattle.cf_run.specs.Trace.{sent}
use Rattle.cf_session.specs.Event.{AreRight}
use Rattle.cf_session.specs.Session.{client_ends}
use Rattle.cf_unobjected.proofs.Halves.{all_told, is_theirs, packets, picked, to_client, told}
use Rattle.cf_unobjected.proofs.Others.{number_is}
use Rattle.cf_unobjected.proofs.Places.{one_place, place_has}

-- what a test picks of packets it also picks of those that pass a wider test
narrowed : (p q : PacketValue → Bool) → ((x : PacketValue) → p x ≡ true → q x ≡ true) → (all : List Sent) → filter p (packets all) ≡ filter p (packets (filter (λ s. q s.packet) all))
narrowed p q wider [] = refl
narrowed p q wider (s ∷ all) = by (p s.packet) (q s.packet) refl refl (narrowed p q wider all)
  where
    by : (a b : Bool) → p s.packet ≡ a → q s.packet ≡ b → filter p (packets all) ≡ filter p (packets (filter (λ x. q x.packet) all)) →
        filter p (packets (s ∷ all)) ≡ filter p (packets (filter (λ x. q x.packet) (s ∷ all)))
    by true true e f more = rw (f, e) (ap (λ ps. s.packet ∷ ps) more)
    by true false e f more = absurd (true≢false (sym (wider s.packet e) ∙ f))
    by false true e f more = rw (f, e) more
    by false false e f more = rw (f, e) more

module _ (assets : List Asset) (client : Endpoint) (place : ℕ) where
  -- a packet goes to a place where an asset stands
  goes_by : (p : PacketValue) (o : Option ℕ) → asset_place assets p.dest ≡ o → is_to_place client place p.source o ≡ true → (p.source ≡ client) × (asset_place assets p.dest ≡ Some place)
  goes_by p None at h = absurd (false≢true h)
  goes_by p (Some k) at h =
      let parts = and_parts (same_endpoint p.source client) (k == place) h in
      (same_is p.source client parts.0, at ∙ ap Some (number_is k place parts.1))

  -- what goes there comes from no asset
  abbrev IsOutside : PacketValue → Type 0
  IsOutside p = goes_to_place assets client place p ≡ true → has_asset_at assets p.source ≡ false

  module _ (f : Flow) (own : IsOwn assets f) where
    outside : (source dest : Endpoint) → ((p : PacketValue) → GoesFrom source dest p → IsOutside p) → (e : LegEvent) → Sends (GoesFrom source dest) e → Sends IsOutside e
    outside source dest k e h = record {
      fired = all_map (GoesFrom source dest) IsOutside k _ h.fired;
      greeted = all_map (GoesFrom source dest) IsOutside k _ h.greeted;
      said = all_map (GoesFrom source dest) IsOutside k _ h.said;
    }

    module _ (es : List SessionEvent) (e : SessionEvent) (legs : LegsRight f es) (right : AreRight f es e) where
      controller_outside : Sends IsOutside e.controller
      controller_outside =
          outside (client_of f) f.site.first.endpoint (λ p g goes. ap (has_asset_at assets) g.0 ∙ own.0) e.controller (leg_goes (controller_ends f) _ e.controller legs.controller right.controller)

      client_outside : Sends IsOutside e.client
      client_outside =
          outside f.site.first.endpoint (client_of f) (λ p g goes. absurd (false≢true (sym (to_client assets client place f own p g) ∙ goes))) e.client
          (leg_goes (client_ends f) _ e.client legs.client right.client)

  all_outside : SessionsAreRight → (limit : ℕ) (es : List RunEvent) → AreRunEvents assets limit es → AllByRecursion IsOutside (packets (sent es))
  all_outside law limit es are =
      packets_all (sent es) (sent_all law assets limit (λ tick. Unit {0}) (λ s. IsOutside s.packet)
      (λ tick m f own es t legs right now. first_all IsOutside (λ s. IsOutside s.packet) t (controller_outside f own es t legs right) (client_outside f own es t legs right) (λ p h. h))
      (λ tick m f own es e legs right now. second_all IsOutside (λ s. IsOutside s.packet) e (controller_outside f own es e legs right) (client_outside f own es e legs right) (λ p h. h)) es are (all_unit es))
    where
      packets_all : (all : List Sent) → AllByRecursion (λ s. IsOutside s.packet) all → AllByRecursion IsOutside (packets all)
      packets_all [] h = tt
      packets_all (s ∷ all) h = (h.0, packets_all all h.1)

      all_unit : (es : List RunEvent) → AllByRecursion (λ e. Unit {0}) es
      all_unit [] = tt
      all_unit (e ∷ es) = (tt, all_unit es)

  -- the first packet that is picked, and what holds of it
  first_of : (P : PacketValue → Type 0) (q : PacketValue → Bool) (all ps : List PacketValue) (p : PacketValue) → AllByRecursion P all → filter q all ≡ p ∷ ps → (q p ≡ true) × P p
  first_of P q [] ps p h e = cc
  first_of P q (x ∷ all) ps p h e = by (first_of P q all ps p h.1) (q x) refl e
    where
      by : (filter q all ≡ p ∷ ps → (q p ≡ true) × P p) → (b : Bool) → q x ≡ b → cond b (x ∷ filter q all) (filter q all) ≡ p ∷ ps → (q p ≡ true) × P p
      by more true is g = let same : x ≡ p = cc in subst (λ y. (q y ≡ true) × P y) same (is, h.0)
      by more false is g = more g

  module _ (law : SessionsAreRight) (limit : ℕ) (es : List RunEvent) (are : AreRunEvents assets limit es) (rises : Rises es) (p : PacketValue) (ps : List PacketValue)
      (some : picked assets client place (sent es) ≡ p ∷ ps) where
    head : (goes_to_place assets client place p ≡ true) × IsOutside p
    head = first_of IsOutside (goes_to_place assets client place) (packets (sent es)) ps p (all_outside law limit es are) some

    ends : (p.source ≡ client) × (asset_place assets p.dest ≡ Some place)
    ends = goes_by p (asset_place assets p.dest) refl head.0

    -- the asset that stands there
    there : (a : Asset) × IsFirstAt (λ (x : Asset). same_endpoint x.endpoint p.dest) assets place a
    there = first_at (λ (a : Asset). same_endpoint a.endpoint p.dest) assets place ends.1

    abbrev flow : Flow
    flow = record { site = alone there.0; syn = p }

    dest_is : there.0.endpoint ≡ p.dest
    dest_is = same_is there.0.endpoint p.dest there.1.passes

    own : IsOwn assets flow
    own = (head.1 head.0, found_has assets p.dest there.0 (sym (place_has assets p.dest place ends.1) ∙ there.1.here))

    place_self : (place == place) ≡ true
    place_self = grind (arith, nat_tests)

    -- to go to the place is to go to its endpoint
    to_place : (source dest : Endpoint) (b : Bool) (o : Option ℕ) → same_endpoint dest there.0.endpoint ≡ b → asset_place assets dest ≡ o →
        is_to_place client place source o ≡ (same_endpoint source p.source && b)
    to_place source dest true o is at =
        let here : o ≡ Some place = sym at ∙ ap (asset_place assets) (same_is dest there.0.endpoint is ∙ dest_is) ∙ ends.1 in
        ap (is_to_place client place source) here ∙ ap (λ b. same_endpoint source client && b) place_self ∙ ap (λ c. same_endpoint source c && true) (sym ends.0)
    to_place source dest false None is at = sym (and_right (same_endpoint source p.source) false refl)
    to_place source dest false (Some k) is at =
        let other : (k == place) ≡ false = false_from_ne_true (k == place) (λ e.
        let same : dest ≡ p.dest = one_place assets dest p.dest place (at ∙ ap Some (number_is k place e)) ends.1 in
        true≢false (sym (same_self there.0.endpoint) ∙ ap (λ x. same_endpoint x there.0.endpoint) (dest_is ∙ sym same) ∙ is)) in
        ap (λ b. same_endpoint source client && b) other ∙ and_right (same_endpoint source client) false refl ∙ sym (and_right (same_endpoint source p.source) false refl)

    goes_is : (x : PacketValue) → goes_to_place assets client place x ≡ goes_from p.source there.0.endpoint x
    goes_is x = to_place x.source x.dest (same_endpoint x.dest there.0.endpoint) (asset_place assets x.dest) refl refl

    told_same : (ss : List Session) → told assets client place (filter (is_between p.source there.0.endpoint) ss) ≡ told assets client place ss
    told_same [] = refl
    told_same (s ∷ ss) =
        by (is_between p.source there.0.endpoint s) (to_place (client_of s.flow) s.flow.site.first.endpoint (same_endpoint s.flow.site.first.endpoint there.0.endpoint) (asset_place assets s.flow.site.first.endpoint) refl refl) (told_same ss)
      where
        by : (b : Bool) → is_theirs assets client place s.flow ≡ b → told assets client place (filter (is_between p.source there.0.endpoint) ss) ≡ told assets client place ss →
            told assets client place (cond b (s ∷ filter (is_between p.source there.0.endpoint) ss) (filter (is_between p.source there.0.endpoint) ss)) ≡ told assets client place (s ∷ ss)
        by true e more = ap (λ qs. cond (is_theirs assets client place s.flow) (packets_of (controllers s.events)) [] ++ qs) more
        by false e more = rw e more

    pub onward : picked assets client place (sent es) ≡ told assets client place (sessions_of es)
    onward =
        let mine = filter (is_between p.source there.0.endpoint) (sessions_of es) in
        narrowed (goes_to_place assets client place) (goes_between p.source there.0.endpoint) (λ x g. ap (λ b. b || goes_from there.0.endpoint p.source x) (sym (goes_is x) ∙ g)) (sent es)
        ∙ ap (picked assets client place) (sent_holds law assets limit flow own es are rises).content
        ∙ all_told assets client place limit mine (all_filtered (IsRightSession limit) _ (sessions_of es) (law assets limit es are))
        (all_filtered (HasOwn assets) _ (sessions_of es) (sessions_have (IsOwn assets) es (all_own assets limit es are)))
        ∙ told_same (sessions_of es)
