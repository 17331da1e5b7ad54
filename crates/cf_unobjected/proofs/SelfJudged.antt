-- The flows of a run's output capture have no objection.
use Rattle.std.proofs.Common.{◌≡◌, ℕ, ◌+◌, ◌≤◌, ◌^◌, Bool, true, false, List, [], ◌∷◌, ◌++◌, cond, if◌then◌else◌, map, Some, None, option_map, refl, sym, ap, ◌∙◌, subst, arith, drop, filter, length, reverse}
use Rattle.cf_unobjected.proofs.Common.{AllByRecursion, AreFlowsOf, AreRead, AreReadBy, AreRunEvents, Asset, Endpoint, Flow, IsFlowOf, IsReadBy, Numbered, PacketValue, Reading, RunEvent, Sent, SiteValue, Watched, Whole, all_front, all_map, client_of, first_wrong, goes_to_place, heard_on, is_between, objected, objection_in, objection_to, pair_of, sessions_of, sessions_on, site_from, sooner, wrong_by}
use Rattle.cf_run.specs.Selected.{Rises}
use Rattle.cf_isolation.specs.ReadBack.{ReadsAs, RunsAreReadBack, output_form, record_by}
use Rattle.cf_records.specs.Capture.{AreRecords, FileEnd, LastPlace}
use Rattle.cf_records.specs.Form.{first_place}
use Rattle.cf_records.specs.Records.{HaveOneList}
use Rattle.cf_run.specs.Sessions.{SessionsAreRight}
use Rattle.cf_run.specs.Trace.{sent}
use Rattle.cf_unobjected.specs.Unobjected.{IsUnobjected}
use Rattle.cf_unobjected.specs.OneFlow.{HasNoObjection, OneFlowIsUnobjected, numbered_from}
use Rattle.cf_unobjected.specs.PairFlows.{IsOfSession}
use Rattle.cf_unobjected.specs.SelfJudged.{RunsAreUnobjected, WatchedRunsAreUnobjected}
use Rattle.cf_unobjected.specs.Separate.{is_to}
use Rattle.cf_unobjected.proofs.Built.{Built, IsTheirs, build, sessions_found}
use Rattle.cf_unobjected.proofs.Halves.{packets, picked}
use Rattle.cf_unobjected.proofs.Heard.{watched_heard}
use Rattle.cf_unobjected.proofs.OfPackets.{of_packets}
use Rattle.cf_unobjected.proofs.OneReading.{one_reading}
use Rattle.cf_unobjected.proofs.Onward.{onward}
use Rattle.cf_unobjected.proofs.Pairs.{all_of}
use Rattle.cf_unobjected.proofs.Separate.{self_number}

-- ---- each flow of a list is one of its own pair

self_between : (w : Watched) → is_between w.client w.asset w ≡ true
self_between w = rw (self_number w.client.address, self_number w.client.port, self_number w.asset) refl

last_of : (P : Watched → Type 0) (xs : List Watched) (w : Watched) (b : Bool) → b ≡ true → AllByRecursion P (xs ++ (if b then w ∷ [] else [])) → P w
last_of P [] w true e h = h.0
last_of P (x ∷ xs) w true e h = last_of P xs w true refl h.1
last_of P xs w false e h = cc

all_of_pairs : (Q : Endpoint → ℕ → Watched → Type 0) (ws : List Watched) → ((c : Endpoint) (i : ℕ) → AllByRecursion (Q c i) (pair_of c i ws)) → AllByRecursion (λ w. Q w.client w.asset w) ws
all_of_pairs Q [] h = tt
all_of_pairs Q (w ∷ ws) h = (
  last_of (Q w.client w.asset) (pair_of w.client w.asset ws) w (is_between w.client w.asset w) (self_between w) (h w.client w.asset),
  all_of_pairs Q ws (λ c i. all_front (Q c i) (pair_of c i ws) _ (h c i)),
)

-- ---- the packets that were heard are those that were sent

heard_all : (k : ℕ) (all : List Sent) → map (λ n. n.packet) (numbered_from k all) ≡ packets all
heard_all k [] = refl
heard_all k (s ∷ ss) = ap (λ ps. s.packet ∷ ps) (heard_all (k + 1) ss)

picked_by : (b : Bool) (n : Numbered) (ns : List Numbered) (ps : List PacketValue) → map (λ m. m.packet) ns ≡ ps → map (λ m. m.packet) (cond b (n ∷ ns) ns) ≡ cond b (n.packet ∷ ps) ps
picked_by true n ns ps h = ap (λ l. n.packet ∷ l) h
picked_by false n ns ps h = h

picked_heard : (q : PacketValue → Bool) (ns : List Numbered) → map (λ m. m.packet) (filter (λ n. q n.packet) ns) ≡ filter q (map (λ m. m.packet) ns)
picked_heard q [] = refl
picked_heard q (n ∷ ns) = picked_by (q n.packet) n (filter (λ m. q m.packet) ns) (filter q (map (λ m. m.packet) ns)) (picked_heard q ns)

-- ---- a flow has nothing wrong

-- it is of a session of its client and site, and has no objection
record IsFine (assets : List Asset) (client : Endpoint) (asset : ℕ) (w : Watched) : Type 0 where
  flow : Flow
  client_is : client_of flow ≡ client
  site_is : site_from assets asset ≡ Some flow.site
  fine : HasNoObjection flow w.carried

module _ (one : OneFlowIsUnobjected) (law : SessionsAreRight) (assets : List Asset) (limit : ℕ) (small : limit ≤ 2 ^ 30) where
  of_session : (client : Endpoint) (asset : ℕ) (w : Watched) → IsOfSession (IsTheirs assets limit client asset) w → IsFine assets client asset w
  of_session client asset w h = record {
    flow = h.session.flow;
    client_is = h.holds.client_is;
    site_is = h.holds.site_is;
    fine = one h.session.flow limit h.holds.events w.carried small h.holds.are h.holds.uncut
        (record { silent = h.silent; are_silent = h.are_silent; heard = h.session.first ∷ h.session.rest; packets = h.holds.packets; is = h.is });
  }

  module _ (events : List RunEvent) (are : AreRunEvents assets limit events) (rises : Rises events) where
    abbrev heard : List Numbered
    heard = numbered_from 1 (sent events)

    -- what is heard of a client and a site is nothing, or what its sessions of theirs sent
    built_of : (client : Endpoint) (asset : ℕ) (ns : List Numbered) → filter (is_to assets client asset) heard ≡ ns → Built assets limit client asset ns
    built_of client asset [] e = record { sessions = []; spoken = tt; theirs = tt; is = λ fs. refl }
    built_of client asset (n ∷ ns) e =
        let is : map (λ (m : Numbered). m.packet) (n ∷ ns) ≡ picked assets client asset (sent events) =
        ap (map (λ (m : Numbered). m.packet)) (sym e) ∙ picked_heard (goes_to_place assets client asset) heard ∙ ap (filter (goes_to_place assets client asset)) (heard_all 1 (sent events)) in
        build assets limit client asset (sessions_of events) (law assets limit events are) (sessions_found assets limit events are) (n ∷ ns)
        (is ∙ onward assets client asset law limit events are rises n.packet _ (sym is))

    all_fine : AllByRecursion (λ w. IsFine assets w.client w.asset w) (heard_on assets heard [])
    all_fine =
        all_of_pairs (IsFine assets) (heard_on assets heard [])
        (λ client asset.
        (let built = built_of client asset (filter (is_to assets client asset) heard) refl in
        let of = all_of asset (IsTheirs assets limit client asset) built.sessions built.spoken built.theirs in
        subst (AllByRecursion (IsFine assets client asset)) (sym (of_packets client asset assets heard [] ∙ built.is []))
        (all_map (IsOfSession (IsTheirs assets limit client asset)) (IsFine assets client asset) (of_session client asset) (sessions_on asset built.sessions []) of)))

-- ---- the judgement

module _ (assets : List Asset) where
  nothing_wrong : (site : SiteValue) (client : ℕ) (r : Reading) → IsUnobjected site client r.flow.bytes r.flow.born → AreRead site client [] r.flow.bytes r.flow.born r.judged r.ending →
      first_wrong site r.judged r.ending ≡ None
  nothing_wrong site client r u read =
      let same = one_reading site client [] r.flow.bytes r.flow.born r.judged u.judged r.ending Whole read u.are_read in
      ap (λ js. first_wrong site js r.ending) same.0 ∙ ap (first_wrong site u.judged) same.1 ∙ u.nothing_wrong

  none_to : (w : Watched) (r : Reading) → IsFine assets w.client w.asset w → IsFlowOf w r.flow → IsReadBy (site_from assets r.flow.asset) r → objection_in (site_from assets r.flow.asset) r ≡ None
  none_to w r fine of read =
      let there : site_from assets r.flow.asset ≡ Some fine.flow.site = ap (site_from assets) of.asset ∙ fine.site_is in
      let read_by : IsReadBy (Some fine.flow.site) r = subst (λ o. IsReadBy o r) there read in
      let client : r.flow.client.address ≡ (client_of fine.flow).address = ap (λ (e : Endpoint). e.address) (of.client ∙ sym fine.client_is) in
      let by_client = subst (λ a. AreRead fine.flow.site a [] r.flow.bytes r.flow.born r.judged r.ending) client read_by in
      ap (λ o. objection_in o r) there
      ∙ ap (λ c. option_map (objected r.flow) (sooner (option_map wrong_by c) (first_wrong fine.flow.site r.judged r.ending))) (fine.fine.no_conflict r.flow.conflict of.conflict)
      ∙ ap (λ o. option_map (objected r.flow) (sooner None o)) (nothing_wrong fine.flow.site (client_of fine.flow).address r (fine.fine.unobjected r.flow.bytes r.flow.born of.bytes) by_client)

  none_of : (ws : List Watched) (rs : List Reading) → AllByRecursion (λ w. IsFine assets w.client w.asset w) ws → AreFlowsOf ws (map (λ r. r.flow) rs) → AreReadBy assets rs → objection_to assets None rs ≡ None
  none_of [] [] fine of read = refl
  none_of [] (r ∷ rs) fine of read = cc
  none_of (w ∷ ws) [] fine of read = absurd of
  none_of (w ∷ ws) (r ∷ rs) fine of read = ap (λ o. objection_to assets o rs) (none_to w r fine.0 of.0 read.0) ∙ none_of ws rs fine.1 of.1 read.1

-- ---- the file

pub self_judged : OneFlowIsUnobjected → SessionsAreRight → RunsAreReadBack → HaveOneList → RunsAreUnobjected
self_judged one law back one_list assets limit given out log summary run small time newest has flows of_records j judgement =
    let all = sent run.events in
    let reads : ReadsAs out all = back assets limit given out log summary run time.moments time.octets time.size in
    let records = (one_list output_form 24 (drop 24 out) (reverse newest) (map record_by all) has.0 reads.last has.1 reads.are).0 in
    let ws = watched_heard assets newest all records reads.packets in
    let of : AreFlowsOf (heard_on assets (numbered_from 1 all) []) flows = subst (λ l. AreFlowsOf l flows) ws of_records in
    let of_readings = subst (AreFlowsOf (heard_on assets (numbered_from 1 all) [])) (sym judgement.of_flows) of in
    judgement.objection ∙ none_of assets (heard_on assets (numbered_from 1 all) []) judgement.readings (all_fine one law assets limit small run.events run.are run.rises) of_readings judgement.are_read

-- the file that holds them has the form that is written
pub watched_judged : RunsAreReadBack → RunsAreUnobjected → WatchedRunsAreUnobjected
watched_judged back law assets limit given out log summary run small moments octets flows watches j judgement =
    let ends = watches.ends in
    let few : length out ≤ 2 ^ 40 = (let short = ends.short in omega (arith, short)) in
    let reads = back assets limit given out log summary run moments octets few in
    let same : ends.form ≡ output_form = (let one = ends.has_form in let other = reads.has_form in cc) in
    let last : LastPlace = record { place = watches.place; found = FileEnd } in
    let are : AreRecords output_form 24 (drop 24 out) ends.records last = subst (λ f. AreRecords f (first_place f) (drop (first_place f) out) ends.records last) same ends.are_records in
    law assets limit given out log summary run small (record { moments = moments; octets = octets; size = few }) watches.newest
    (last, subst (λ rs. AreRecords output_form 24 (drop 24 out) rs last) watches.are_newest are) flows watches.are_flows j judgement
