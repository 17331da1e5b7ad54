-- The records of an output capture between a session's endpoints.
use Rattle.std.proofs.Common.{◌≡◌, ℕ, ◌&&◌, Bool, true, false, List, [], ◌∷◌, cond, map, refl, sym, ap, ◌∙◌, filter}
use Rattle.cf_isolation.proofs.Common.{AllByRecursion, Asset, Endpoint, EventsAreFixed, Input, IsRightSession, Sent, SessionsAreRight, born_at, client_of, goes_between, is_during, is_in_life, moments_of, output_form, record_by, sent, tick_of}
use Rattle.cf_packet.specs.Packet.{read_record}
use Rattle.cf_records.specs.Capture.{Record}
use Rattle.cf_records.specs.Records.{HaveOneList}
use Rattle.cf_run.specs.Isolation.{RunsIsolateSessions}
use Rattle.cf_run.specs.Run.{IsRun}
use Rattle.cf_run.specs.declared.summary.Summary.{Summary}
use Rattle.cf_isolation.specs.Isolated.{CapturesAreIsolated, CapturesHoldSessions, CapturesHoldToTheNext, HasWrittenRecords, IsInTime, began_at, seen_until}
use Rattle.cf_isolation.specs.Lives.{AlikeInRecords, EachHasRecords, own_sent}
use Rattle.cf_isolation.specs.ReadBack.{IsReadAgain, RunsAreReadBack}
use Rattle.cf_isolation.specs.Records.{is_packet_between, records_between}
use Rattle.cf_isolation.proofs.Moments.{one_time}
use Rattle.cf_isolation.proofs.Packets.{alike_events}
use Rattle.cf_isolation.proofs.Sending.{sent_holds}
use Rattle.cf_isolation.proofs.Tables.{IsOwn, all_own, begun_has, sessions_have}
use Rattle.cf_isolation.proofs.Theirs.{of_life}

-- of the records of what was sent those between two endpoints, at some moments, are those of what was sent so
module _ (client site : Endpoint) (during : ℕ → Bool) where
  records_same : (all : List Sent) → AllByRecursion IsReadAgain all →
      filter (λ (r : Record). is_packet_between client site (read_record r.link r.body) && during r.stamp) (map record_by all)
      ≡ map record_by (filter (λ (s : Sent). goes_between client site s.packet && during s.moment) all)
  records_same [] h = refl
  records_same (s ∷ all) h =
      let more = records_same all h.1 in
      let R = filter (λ (r : Record). is_packet_between client site (read_record r.link r.body) && during r.stamp) (map record_by all) in
      let S = filter (λ (x : Sent). goes_between client site x.packet && during x.moment) all in
      ap (λ answer. cond (is_packet_between client site answer && during s.moment) (record_by s ∷ R) R) h.0
      ∙ (elim (goes_between client site s.packet && during s.moment) as (λ b. cond b (record_by s ∷ R) R ≡ map record_by (cond b (s ∷ S) S)) [ true ↦ ap (λ l. record_by s ∷ l) more | false ↦ more ])

module _ (law : SessionsAreRight) (back : RunsAreReadBack) (one_list : HaveOneList) where
  -- the records of the file are those of what was sent
  of_file : (assets : List Asset) (limit : ℕ) (given : List Input) (out log : List ℕ) (summary : Summary) (run : IsRun assets limit given out log summary) → IsInTime given out →
      (records : List Record) → HasWrittenRecords out records → (client site : Endpoint) (during : ℕ → Bool) →
      filter (λ (r : Record). is_packet_between client site (read_record r.link r.body) && during r.stamp) records
      ≡ map record_by (filter (λ (s : Sent). goes_between client site s.packet && during s.moment) (sent run.events))
  of_file assets limit given out log summary run time records has client site during =
      let reads = back assets limit given out log summary run time.moments time.octets time.size in
      let same = one_list output_form 24 _ records (map record_by (sent run.events)) has.0 reads.last has.1 reads.are in
      ap (filter (λ (r : Record). is_packet_between client site (read_record r.link r.body) && during r.stamp)) same.0 ∙ records_same client site during (sent run.events) reads.packets

  pub captures_hold : CapturesHoldSessions
  captures_hold assets limit given out log summary run time records has flow session =
      let own = begun_has (IsOwn assets) flow run.events (all_own assets limit run.events run.are) session in
      of_file assets limit given out log summary run time records has (client_of flow) flow.site.first.endpoint (is_during (began_at session) (seen_until session))
      ∙ ap (map record_by) ((sent_holds law assets limit flow own run.events run.are run.rises).in_time session)

  pub captures_to_the_next : CapturesHoldToTheNext
  captures_to_the_next assets limit given out log summary run time records has flow session behind =
      let own = begun_has (IsOwn assets) flow run.events (all_own assets limit run.events run.are) session in
      of_file assets limit given out log summary run time records has (client_of flow) flow.site.first.endpoint (is_during (began_at session) (tick_of behind.next.input))
      ∙ ap (map record_by) ((sent_holds law assets limit flow own run.events run.are run.rises).to_next session behind)

  pub captures_own : EachHasRecords
  captures_own assets limit given out log summary run time records has s life =
      let own = of_life (λ x. IsOwn assets x.flow) s run.events life (sessions_have (IsOwn assets) run.events (all_own assets limit run.events run.are)) in
      of_file assets limit given out log summary run time records has (client_of s.flow) s.flow.site.first.endpoint (λ m. is_in_life (born_at s.events) life.later m)
      ∙ ap (map record_by) ((sent_holds law assets limit s.flow own run.events run.are run.rises).in_life s life.before life.later life.are)

-- ---- two runs

pub captures_isolated : CapturesHoldSessions → RunsIsolateSessions → CapturesAreIsolated
captures_isolated holds law assets limit given other_given out other_out log other_log summary other_summary run other_run time other_time moments records others has others_have flow one other earlier matched =
    let same = law assets limit given other_given out other_out log other_log summary other_summary run other_run moments flow one other earlier matched in
    let times = one_time assets flow run.events other_run.events one other (ap moments_of run.are_inputs ∙ moments ∙ sym (ap moments_of other_run.are_inputs)) earlier matched in
    holds assets limit given out log summary run time records has flow one ∙ ap (map record_by) same.sent
    ∙ sym (holds assets limit other_given other_out other_log other_summary other_run other_time others others_have flow other)
    ∙ ap (λ n. records_between (client_of flow) flow.site.first.endpoint n (seen_until other) others) (sym times.began)
    ∙ ap (λ n. records_between (client_of flow) flow.site.first.endpoint (began_at one) n others) (sym times.seen)

pub alike_in_records : EventsAreFixed → SessionsAreRight → EachHasRecords → AlikeInRecords
alike_in_records fixed law holds assets limit given other_given out other_out log other_log summary other_summary run other_run time other_time records others has others_have one other life other_life alike =
    let right = of_life (IsRightSession limit) one run.events life (law assets limit run.events run.are) in
    let other_right = of_life (IsRightSession limit) other other_run.events other_life (law assets limit other_run.events other_run.are) in
    holds assets limit given out log summary run time records has one life
    ∙ ap (λ es. map record_by (own_sent es)) (alike_events fixed limit one other right other_right alike)
    ∙ sym (holds assets limit other_given other_out other_log other_summary other_run other_time others others_have other other_life)
