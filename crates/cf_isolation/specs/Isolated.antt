-- Isolation of the files, `CapturesHoldSessions` and `CapturesAreIsolated`: what is matched to a session fixes the records of the
-- output capture between its two endpoints, and they are what its own events sent.
--
-- A session's time in a run goes from the moment of the record in which it began to that of any record before the one in which the next
-- session of its client and site begins: the records that are considered, `HasSession` of `cf_run`. The next session of theirs has the
-- same two endpoints, and all that it sends goes out after that time. In the record in which the next one begins the session may still
-- have a first half, a microsecond before the packet, and the time then goes on up to that half.
use Rattle.std.specs.Prelude.{◌≡◌, ◌<◌, ◌≤◌, ◌^◌, ℕ, List, [], ◌∷◌, ◌++◌, drop, length, map}
use Rattle.std.specs.List.{AllByRecursion, flat_map}
use Rattle.cf_view.specs.Moment.{moment_limit}
use Rattle.cf_policy.specs.declared.Asset.{Asset}
use Rattle.cf_isolation.specs.ReadBack.{output_form, record_by}
use Rattle.cf_records.specs.Capture.{AreRecords, LastPlace, Record}
use Rattle.cf_run.specs.Isolation.{AreMatchedAlike, HasSession, moments_of, session_sent, ticks_of}
use Rattle.cf_run.specs.Run.{IsRun}
use Rattle.cf_run.specs.Selected.{last_moment}
use Rattle.cf_run.specs.Trace.{RunEvent, Input, kept, sent, table_after, tick_of}
use Rattle.cf_run.specs.declared.summary.Summary.{Summary}
use Rattle.cf_session.specs.Sent.{Sent, sent_first}
use Rattle.cf_session.specs.Session.{Flow, client_of}
use Rattle.cf_view.specs.Octets.{IsOctets}
use Rattle.cf_isolation.specs.Records.{records_between, sent_between}

-- ---- a session's time

-- the moment of the record in which it began
abbrev pub began_at : {flow : Flow} → {events : List RunEvent} → HasSession flow events → ℕ
began_at has = has.first.input.moment

-- the moment of the last record that is considered
abbrev pub seen_until : {flow : Flow} → {events : List RunEvent} → HasSession flow events → ℕ
seen_until has = last_moment (has.later ++ has.first ∷ has.earlier)

-- the event after those that are considered. Where the next session of the same client and site begins in it, its first half is the
-- last that this session has
pub record NextEvent {flow : Flow} {events : List RunEvent} (has : HasSession flow events) : Type 0 where
  pub after : List RunEvent
  pub next : RunEvent
  pub are : has.after ≡ after ++ next ∷ []

-- two sessions have one time
pub record HaveOneTime {events others : List RunEvent} (flow : Flow)
    (one : HasSession flow events) (other : HasSession flow others) : Type 0 where
  pub began : began_at one ≡ began_at other
  pub seen : seen_until one ≡ seen_until other

-- ---- what a run sent

-- all that it sent between the endpoints of a session, in the session's time
abbrev pub sent_in_time : {events : List RunEvent} → (flow : Flow) → HasSession flow events → List Sent
sent_in_time {events} flow has = sent_between (client_of flow) flow.site.first.endpoint (began_at has) (seen_until has) (sent events)

-- what a session sends in the first half of the event that comes next
abbrev pub sent_last : {events : List RunEvent} → (flow : Flow) → (has : HasSession flow events) → NextEvent has → List Sent
sent_last flow has behind =
    let table = kept (tick_of behind.next.input) (table_after (has.later ++ has.first ∷ has.earlier)) in
    flat_map sent_first (ticks_of (client_of flow) flow.site.first.endpoint table behind.next.ticks)

-- ---- the output capture

-- the octets of a file have these records
abbrev pub HasWrittenRecords : (octets : List ℕ) → List Record → Type 0
HasWrittenRecords octets records = (last : LastPlace) × AreRecords output_form 24 (drop 24 octets) records last

-- a run over records in time wrote octets, and not too many
pub record IsInTime (given : List Input) (out : List ℕ) : Type 0 where
  pub moments : AllByRecursion (λ i. i.moment < moment_limit) given
  pub octets : IsOctets out
  pub size : length out ≤ 2 ^ 40

-- the records of a run's output capture between the endpoints of a session, in the session's time, are those of the packets that
-- the session's own events sent, in their order
abbrev pub CapturesHoldSessions : Type 0
CapturesHoldSessions =
    (assets : List Asset) (limit : ℕ) (given : List Input) (out log : List ℕ) (summary : Summary)
    (run : IsRun assets limit given out log summary) → IsInTime given out → (records : List Record) → HasWrittenRecords out records →
    (flow : Flow) (has : HasSession flow run.events) →
    records_between (client_of flow) flow.site.first.endpoint (began_at has) (seen_until has) records ≡ map record_by (session_sent flow has)

-- the output capture holds a session's records up to the first half of the event that comes next
abbrev pub CapturesHoldToTheNext : Type 0
CapturesHoldToTheNext =
    (assets : List Asset) (limit : ℕ) (given : List Input) (out log : List ℕ) (summary : Summary)
    (run : IsRun assets limit given out log summary) → IsInTime given out → (records : List Record) → HasWrittenRecords out records →
    (flow : Flow) (has : HasSession flow run.events) (behind : NextEvent has) →
    records_between (client_of flow) flow.site.first.endpoint (began_at has) (tick_of behind.next.input) records
    ≡ map record_by (session_sent flow has ++ sent_last flow has behind)

-- two sessions as above: the two output captures have the same records between their endpoints in that time
abbrev pub CapturesAreIsolated : Type 0
CapturesAreIsolated =
    (assets : List Asset) (limit : ℕ) (given other_given : List Input) (out other_out log other_log : List ℕ)
    (summary other_summary : Summary)
    (run : IsRun assets limit given out log summary) (other_run : IsRun assets limit other_given other_out other_log other_summary) →
    IsInTime given out → IsInTime other_given other_out → moments_of given ≡ moments_of other_given →
    (records others : List Record) → HasWrittenRecords out records → HasWrittenRecords other_out others →
    (flow : Flow) (one : HasSession flow run.events) (other : HasSession flow other_run.events) →
    length one.earlier ≡ length other.earlier → AreMatchedAlike assets flow one other →
    records_between (client_of flow) flow.site.first.endpoint (began_at one) (seen_until one) records
    ≡ records_between (client_of flow) flow.site.first.endpoint (began_at one) (seen_until one) others
