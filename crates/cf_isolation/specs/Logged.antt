-- Isolation of the logs, `LogsHoldSessions` and `LogsAreIsolated`: what is matched to a session fixes the lines of the log that name
-- it, and they are what its own events logged. A session's time is that of `Isolated`.
use Rattle.std.specs.Prelude.{◌≡◌, ◌<◌, ℕ, List, ◌∷◌, ◌++◌, filter, length, IfOk}
use Rattle.std.specs.List.{AllByRecursion}
use Rattle.cf_packet.specs.Written.{HasRanges}
use Rattle.cf_view.specs.Moment.{moment_limit}
use Rattle.cf_policy.specs.Within.{AreAssetsWithin}
use Rattle.cf_policy.specs.declared.Asset.{Asset}
use Rattle.cf_run.specs.Isolation.{AreMatchedAlike, HasSession, moments_of, session_logged, ticks_of}
use Rattle.cf_run.specs.Run.{IsRun}
use Rattle.cf_run.specs.Table.{is_between}
use Rattle.cf_run.specs.Trace.{RunEvent, Input, kept, logged, logged_ticks, table_after, tick_of}
use Rattle.cf_run.specs.declared.summary.Summary.{Summary}
use Rattle.cf_session.specs.Session.{Flow, client_of}
use Rattle.cf_isolation.specs.Isolated.{HaveOneTime, NextEvent, began_at, seen_until}
use Rattle.cf_isolation.specs.Lines.{lines_naming, names_of}

-- all lines of a run that name a session's client and an asset of its site, in the session's time
abbrev pub logged_in_time : {events : List RunEvent} → (flow : Flow) → HasSession flow events → List (List ℕ)
logged_in_time {events} flow has = lines_naming (client_of flow) (names_of flow.site) (began_at has) (seen_until has) (logged events)

-- a record is in time, and its packet, if it is one, has fields of their types, as one that was read from octets
pub record IsReadInput (input : Input) : Type 0 where
  pub moment : input.moment < moment_limit
  pub packet : IfOk input.packet HasRanges

-- under a policy whose assets have distinct names they are the lines that the session's own events logged, in their order
abbrev pub LogsHoldSessions : Type 0
LogsHoldSessions =
    (assets : List Asset) (limit : ℕ) (given : List Input) (out log : List ℕ) (summary : Summary)
    (run : IsRun assets limit given out log summary) → AreAssetsWithin assets → AllByRecursion IsReadInput given →
    (flow : Flow) (has : HasSession flow run.events) → logged_in_time flow has ≡ session_logged flow has

-- what a session logs in the first half of the event that comes next
abbrev pub logged_last : {events : List RunEvent} → (flow : Flow) → (has : HasSession flow events) → NextEvent has → List (List ℕ)
logged_last flow has behind =
    let table = kept (tick_of behind.next.input) (table_after (has.later ++ has.first ∷ has.earlier)) in
    logged_ticks (filter (is_between (client_of flow) flow.site.first.endpoint) table)
    (ticks_of (client_of flow) flow.site.first.endpoint table behind.next.ticks)

-- a log holds a session's lines up to the packet that begins the next session of theirs
abbrev pub LogsHoldToTheNext : Type 0
LogsHoldToTheNext =
    (assets : List Asset) (limit : ℕ) (given : List Input) (out log : List ℕ) (summary : Summary)
    (run : IsRun assets limit given out log summary) → AreAssetsWithin assets → AllByRecursion IsReadInput given →
    (flow : Flow) (has : HasSession flow run.events) (behind : NextEvent has) →
    lines_naming (client_of flow) (names_of flow.site) (began_at has) (tick_of behind.next.input) (logged run.events)
    ≡ session_logged flow has ++ logged_last flow has behind

-- two runs of one policy with equal moments: a session of the one and a session of the other, of the same client and site, which
-- began in the same event by the same packet, have one time up to the last event before which they are matched alike, and in it the
-- two logs have the same lines that name them, in the same order. The rest of the two captures may differ in every way
abbrev pub LogsAreIsolated : Type 0
LogsAreIsolated =
    (assets : List Asset) (limit : ℕ) (given other_given : List Input) (out other_out log other_log : List ℕ)
    (summary other_summary : Summary)
    (run : IsRun assets limit given out log summary) (other_run : IsRun assets limit other_given other_out other_log other_summary) →
    AreAssetsWithin assets → AllByRecursion IsReadInput given → AllByRecursion IsReadInput other_given →
    moments_of given ≡ moments_of other_given →
    (flow : Flow) (one : HasSession flow run.events) (other : HasSession flow other_run.events) →
    length one.earlier ≡ length other.earlier → AreMatchedAlike assets flow one other →
    HaveOneTime flow one other × (logged_in_time flow one ≡ logged_in_time flow other)
