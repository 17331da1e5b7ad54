-- The life of each session of a run in the two output files: EachHasRecords and EachLogged; and what two runs have alike: AlikeInRecords and
-- AlikeInLines. A session is one of `sessions_of` of `cf_run`, with its own events.
--
-- A life goes from the moment of the record in which the session began to before that of the record in which the next session of the
-- same client and site begins, or to the end.
use Rattle.std.specs.Prelude.{◌≡◌, ℕ, nat_le, nat_lt, Bool, ◌&&◌, List, [], ◌∷◌, ◌++◌, filter, map, slice_get, Some}
use Rattle.std.specs.List.{AllByRecursion}
use Rattle.cf_leg.specs.Event.{moment}
use Rattle.cf_packet.specs.Packet.{read_record}
use Rattle.cf_policy.specs.Within.{AreAssetsWithin}
use Rattle.cf_policy.specs.declared.Asset.{Asset}
use Rattle.cf_isolation.specs.ReadBack.{record_by}
use Rattle.cf_records.specs.Capture.{Record}
use Rattle.cf_run.specs.Run.{IsRun}
use Rattle.cf_run.specs.Sessions.{AreAlike, sessions_of}
use Rattle.cf_run.specs.Table.{Session, is_between}
use Rattle.cf_run.specs.Trace.{RunEvent, Input, logged, sent}
use Rattle.cf_run.specs.declared.summary.Summary.{Summary}
use Rattle.cf_session.specs.Sent.{Sent, logged_first, logged_second, sent_first, sent_second}
use Rattle.cf_session.specs.Session.{Flow, SessionEvent, client_of}
use Rattle.cf_view.specs.declared.Endpoint.{Endpoint}
use Rattle.cf_isolation.specs.Isolated.{HasWrittenRecords, IsInTime}
use Rattle.cf_isolation.specs.Lines.{moment_in, names_both, names_of}
use Rattle.cf_isolation.specs.Logged.{IsReadInput}
use Rattle.cf_isolation.specs.Records.{goes_between, is_packet_between}

-- ---- a session's own events

-- all that they sent, and all that they logged, the oldest first
abbrev pub own_sent : List SessionEvent → List Sent
own_sent [] = []
own_sent (event ∷ earlier) = own_sent earlier ++ (sent_first event ++ sent_second event)

-- the lines that the session's own events logged, the oldest first
abbrev pub own_logged : Flow → List SessionEvent → List (List ℕ)
own_logged flow [] = []
own_logged flow (event ∷ earlier) = own_logged flow earlier ++ (logged_first flow event ++ logged_second flow earlier event)

-- the moment of the record in which the session began: that of its oldest event
abbrev pub born_at : List SessionEvent → ℕ
born_at [] = 0
born_at (event ∷ []) = moment event.client
born_at (event ∷ (before ∷ earlier)) = born_at (before ∷ earlier)

-- ---- its life

-- the sessions of a client and a site, in the order in which they began
abbrev pub sessions_between : (client site : Endpoint) → List RunEvent → List Session
sessions_between client site events = filter (is_between client site) (sessions_of events)

-- the session is one of them, and these of theirs began after it
pub record HasLife (session : Session) (events : List RunEvent) : Type 0 where
  pub before : List Session
  pub later : List Session
  pub are : sessions_between (client_of session.flow) session.flow.site.first.endpoint events ≡ before ++ session ∷ later

-- each session that there was has one
abbrev pub EachHasALife : Type 0
EachHasALife =
    (events : List RunEvent) (place : ℕ) (session : Session) → slice_get (sessions_of events) place ≡ Some session → HasLife session events

-- the moment is in the life of a session that began at one moment, and after which these began
abbrev pub is_in_life : (born : ℕ) → (later : List Session) → (moment : ℕ) → Bool
is_in_life born [] moment = nat_le born moment
is_in_life born (next ∷ later) moment = nat_le born moment && nat_lt moment (born_at next.events)

-- ---- what the files hold of it

-- what a run sent in a session's life
abbrev pub sent_in_life : {events : List RunEvent} → (session : Session) → HasLife session events → List Sent
sent_in_life {events} session life =
    let client = client_of session.flow in
    let site = session.flow.site.first.endpoint in
    filter (λ s. goes_between client site s.packet && is_in_life (born_at session.events) life.later s.moment) (sent events)

-- the records of its output capture in a session's life
abbrev pub records_in_life : {events : List RunEvent} → (session : Session) → HasLife session events → List Record → List Record
records_in_life session life records =
    let client = client_of session.flow in
    let site = session.flow.site.first.endpoint in
    filter (λ r. is_packet_between client site (read_record r.link r.body) && is_in_life (born_at session.events) life.later r.stamp)
    records

-- the lines of its log in a session's life
abbrev pub lines_in_life : {events : List RunEvent} → (session : Session) → HasLife session events → List (List ℕ)
lines_in_life {events} session life =
    let client = client_of session.flow in
    let names = names_of session.flow.site in
    filter (λ line. names_both client names line && is_in_life (born_at session.events) life.later (moment_in line)) (logged events)

-- the records of the output capture between the ends of a session, in its life, are the records of what it sent
abbrev pub EachHasRecords : Type 0
EachHasRecords =
    (assets : List Asset) (limit : ℕ) (given : List Input) (out log : List ℕ) (summary : Summary)
    (run : IsRun assets limit given out log summary) → IsInTime given out → (records : List Record) → HasWrittenRecords out records →
    (session : Session) (life : HasLife session run.events) →
    records_in_life session life records ≡ map record_by (own_sent session.events)

-- the lines that name its client and an asset of its site, in its life, are those that its own events logged, in their order
abbrev pub EachLogged : Type 0
EachLogged =
    (assets : List Asset) (limit : ℕ) (given : List Input) (out log : List ℕ) (summary : Summary)
    (run : IsRun assets limit given out log summary) → AreAssetsWithin assets → AllByRecursion IsReadInput given →
    (session : Session) (life : HasLife session run.events) → lines_in_life session life ≡ own_logged session.flow session.events

-- ---- two runs

-- a session of one run and one of another that have one flow and are given the same packets at the same moments: both captures have
-- the same records between their endpoints in their lives, whatever else they hold
abbrev pub AlikeInRecords : Type 0
AlikeInRecords =
    (assets : List Asset) (limit : ℕ) (given other_given : List Input) (out other_out log other_log : List ℕ)
    (summary other_summary : Summary)
    (run : IsRun assets limit given out log summary) (other_run : IsRun assets limit other_given other_out other_log other_summary) →
    IsInTime given out → IsInTime other_given other_out →
    (records others : List Record) → HasWrittenRecords out records → HasWrittenRecords other_out others →
    (one other : Session) (life : HasLife one run.events) (other_life : HasLife other other_run.events) → AreAlike one other →
    records_in_life one life records ≡ records_in_life other other_life others

-- both logs have the same lines that name them
abbrev pub AlikeInLines : Type 0
AlikeInLines =
    (assets : List Asset) (limit : ℕ) (given other_given : List Input) (out other_out log other_log : List ℕ)
    (summary other_summary : Summary)
    (run : IsRun assets limit given out log summary) (other_run : IsRun assets limit other_given other_out other_log other_summary) →
    AreAssetsWithin assets → AllByRecursion IsReadInput given → AllByRecursion IsReadInput other_given →
    (one other : Session) (life : HasLife one run.events) (other_life : HasLife other other_run.events) → AreAlike one other →
    lines_in_life one life ≡ lines_in_life other other_life
