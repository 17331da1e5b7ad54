-- The packets that were heard from a client to a site, session by session.
use Rattle.std.proofs.Common.{◌≡◌, ℕ, Bool, true, false, List, [], ◌∷◌, ◌++◌, cond, map, option_and_then, Option, Some, None, refl, sym, ap, ◌∙◌, subst}
use Rattle.cf_unobjected.proofs.Common.{AllByRecursion, AreRunEvents, Asset, Endpoint, Flow, IsRightSession, IsSpoken, Numbered, PacketValue, RunEvent, Session, SessionEvent, Watched, and_parts, asset_place, client_of, controllers, false≢true, is_to_place, packets_of, pairs_on, same_endpoint, same_is, sessions_of, sessions_on, site_from}
use Rattle.cf_isolation.proofs.Tables.{BegunHave, Has, begun_in, sessions_have}
use Rattle.cf_policy.specs.Site.{site_at}
use Rattle.cf_run.specs.Sessions.{HasEvents}
use Rattle.cf_session.specs.Event.{AreEvents as AreSessionEvents}
use Rattle.cf_session.specs.Laws.{AreUncutBefore}
use Rattle.cf_unobjected.specs.PairFlows.{SpeaksAs, Spoken}
use Rattle.cf_unobjected.proofs.Halves.{is_theirs, told}
use Rattle.cf_unobjected.proofs.Others.{number_is}
use Rattle.cf_unobjected.proofs.Speaks.{speaks}

-- ---- every session is to the site that is found at its endpoint

abbrev pub IsFound : List Asset → Flow → Type 0
IsFound assets f = site_at assets f.site.first.endpoint ≡ Some f.site

all_found : (assets : List Asset) (limit : ℕ) (es : List RunEvent) → AreRunEvents assets limit es → BegunHave (IsFound assets) es
all_found assets limit [] h = tt
all_found assets limit (e ∷ es) h = ((λ f b is. (begun_in assets limit e es h f b is).2.among), all_found assets limit es h.1)

pub sessions_found : (assets : List Asset) (limit : ℕ) (es : List RunEvent) → AreRunEvents assets limit es → AllByRecursion (Has (IsFound assets)) (sessions_of es)
sessions_found assets limit es h = sessions_have (IsFound assets) es (all_found assets limit es h)

-- ---- a list whose elements are heard as two lists

abbrev heard_as : List Numbered → List PacketValue
heard_as ns = map (λ n. n.packet) ns

record Split (ns : List Numbered) (xs ys : List PacketValue) : Type 0 where
  first : List Numbered
  rest : List Numbered
  are : ns ≡ first ++ rest
  first_is : heard_as first ≡ xs
  rest_is : heard_as rest ≡ ys

one_before : (n : Numbered) (ns : List Numbered) (x : PacketValue) (xs ys : List PacketValue) → n.packet ≡ x → Split ns xs ys → Split (n ∷ ns) (x ∷ xs) ys
one_before n ns x xs ys e s = record {
  first = n ∷ s.first;
  rest = s.rest;
  are = ap (λ l. n ∷ l) s.are;
  first_is = ap (λ p. p ∷ heard_as s.first) e ∙ ap (λ l. x ∷ l) s.first_is;
  rest_is = s.rest_is;
}

split : (ns : List Numbered) (xs ys : List PacketValue) → heard_as ns ≡ xs ++ ys → Split ns xs ys
split ns [] ys h = record { first = []; rest = ns; are = refl; first_is = refl; rest_is = h }
split [] (x ∷ xs) ys h = cc
split (n ∷ ns) (x ∷ xs) ys h =
    let head : n.packet ≡ x = cc in
    let tail : heard_as ns ≡ xs ++ ys = cc in
    one_before n ns x xs ys head (split ns xs ys tail)

pairs_both : (asset : ℕ) (xs ys : List Numbered) (fs : List Watched) → pairs_on asset (xs ++ ys) fs ≡ pairs_on asset ys (pairs_on asset xs fs)
pairs_both asset [] ys fs = refl
pairs_both asset (x ∷ xs) ys fs = pairs_both asset xs ys _

-- ---- session by session

module _ (assets : List Asset) (limit : ℕ) (client : Endpoint) (asset : ℕ) where
  -- what was spoken is what a session of theirs sent to its controller
  pub record IsTheirs (s : Spoken) : Type 0 where
    pub events : List SessionEvent
    pub are : AreSessionEvents s.flow limit events
    pub uncut : AreUncutBefore events
    pub packets : heard_as (s.first ∷ s.rest) ≡ packets_of (controllers events)
    pub client_is : client_of s.flow ≡ client
    pub site_is : site_from assets asset ≡ Some s.flow.site

  pub record Built (heard : List Numbered) : Type 0 where
    pub sessions : List Spoken
    pub spoken : AllByRecursion IsSpoken sessions
    pub theirs : AllByRecursion IsTheirs sessions
    pub is : (fs : List Watched) → pairs_on asset heard fs ≡ sessions_on asset sessions fs

  site_by : (f : Flow) (o : Option ℕ) → asset_place assets f.site.first.endpoint ≡ o → is_to_place client asset (client_of f) o ≡ true → IsFound assets f → (client_of f ≡ client) × (site_from assets asset ≡ Some f.site)
  site_by f None at h found = absurd (false≢true h)
  site_by f (Some k) at h found =
      let here : k ≡ asset = number_is k asset ((and_parts (same_endpoint (client_of f) client) _ h).1) in
      (same_is (client_of f) client ((and_parts _ _ h).0), ap (option_and_then (site_from assets)) (sym (at ∙ ap Some here)) ∙ found)

  theirs_by : (f : Flow) (e : SessionEvent) (es : List SessionEvent) (first : List Numbered) (are : HasEvents limit f (e ∷ es)) → is_theirs assets client asset f ≡ true → IsFound assets f →
      heard_as first ≡ packets_of (controllers (e ∷ es)) → (s : SpeaksAs f first) → IsTheirs s.session
  theirs_by f e es first are ours found is s =
      let parts = site_by f (asset_place assets f.site.first.endpoint) refl ours found in
      record {
        events = e ∷ es;
        are = subst (λ (g : Flow). AreSessionEvents g limit (e ∷ es)) (sym s.is_of) are.0;
        uncut = are.1;
        packets = ap heard_as (sym s.is_heard) ∙ is;
        client_is = ap client_of s.is_of ∙ parts.0;
        site_is = parts.1 ∙ ap (λ (g : Flow). Some g.site) (sym s.is_of);
      }

  one_more : (heard : List Numbered) (f : Flow) (es : List SessionEvent) (ps : List PacketValue) → HasEvents limit f es → IsFound assets f → is_theirs assets client asset f ≡ true →
      (s : Split heard (packets_of (controllers es)) ps) → Built s.rest → Built heard
  one_more heard f [] ps are found ours s more = absurd are
  one_more heard f (e ∷ es) ps are found ours s more =
      let spoke = speaks f limit e es s.first are.0 s.first_is in
      record {
        sessions = spoke.session ∷ more.sessions;
        spoken = (spoke.is_spoken, more.spoken);
        theirs = (theirs_by f e es s.first are ours found s.first_is spoke, more.theirs);
        is = λ fs.
            ap (λ l. pairs_on asset l fs) s.are ∙ pairs_both asset s.first s.rest fs ∙ ap (λ l. pairs_on asset s.rest (pairs_on asset l fs)) spoke.is_heard
            ∙ more.is (pairs_on asset (spoke.session.first ∷ spoke.session.rest) fs);
      }

  build_by : (s : Session) (ss : List Session) (heard : List Numbered) (b : Bool) → is_theirs assets client asset s.flow ≡ b → IsRightSession limit s → IsFound assets s.flow →
      ((ns : List Numbered) → heard_as ns ≡ told assets client asset ss → Built ns) → heard_as heard ≡ cond b (packets_of (controllers s.events)) [] ++ told assets client asset ss → Built heard
  build_by s ss heard false ours right found more is = more heard is
  build_by s ss heard true ours right found more is =
      let parts = split heard (packets_of (controllers s.events)) (told assets client asset ss) is in
      one_more heard s.flow s.events _ right found ours parts (more parts.rest parts.rest_is)

  pub build : (ss : List Session) → AllByRecursion (IsRightSession limit) ss → AllByRecursion (Has (IsFound assets)) ss → (heard : List Numbered) → heard_as heard ≡ told assets client asset ss → Built heard
  build [] right found [] is = record { sessions = []; spoken = tt; theirs = tt; is = λ fs. refl }
  build [] right found (n ∷ ns) is = cc
  build (s ∷ ss) right found heard is = build_by s ss heard (is_theirs assets client asset s.flow) refl right.0 found.0 (λ ns e. build ss right.1 found.1 ns e) is
