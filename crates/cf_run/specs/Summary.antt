-- What is counted over events: summary_of.
use Rattle.std.specs.Prelude.{ℕ, ◌+◌, ◌-◌, ◌^◌, ◌&&◌, min, not, Bool, true, false, List, [], ◌∷◌, length, count_by, Option, Some, None, slice_get}
use Rattle.std.specs.Option.{is_none, is_some}
use Rattle.cf_lane.specs.Judged.{one_if}
use Rattle.cf_policy.specs.declared.Asset.{Asset}
use Rattle.cf_session.specs.Session.{SessionEvent, was_closed, work_of}
use Rattle.cf_session.specs.Work.{Work, no_work}
use Rattle.cf_run.specs.Fitting.{is_above, is_beyond, is_foreign, misfit_in}
use Rattle.cf_run.specs.Table.{Session}
use Rattle.cf_run.specs.Trace.{Begun, Dropped, RunEvent, NoRoom, NoSession, Received, Went, behind, table_after, tick_of, ticked}
use Rattle.cf_run.specs.declared.summary.Summary.{Summary}

-- the commands that an event decided: what the lane of its session counts now, without what it counted before
abbrev pub work_before : Option Session → Work
work_before None = no_work
work_before (Some session) = work_of (behind session.events)

-- the commands of a kind that the packet's session has more after the event than before it
abbrev pub decided_in : (Work → ℕ) → List Session → Received → ℕ
decided_in count table (Went place event) = count event.work - count (work_before (slice_get table place))
decided_in count table _ = 0

-- ---- what one event counts, after this table

-- the table as the packet of an event finds it
abbrev pub found : List Session → RunEvent → List Session
found before event = ticked event.ticks (tick_of event.input) before

-- the record was no packet
abbrev pub was_dropped : Received → Bool
was_dropped Dropped = true
was_dropped _ = false

-- the packet was of no session
abbrev pub was_outside : Received → Bool
was_outside NoSession = true
was_outside _ = false

-- the packet would have begun a session, and the table was full
abbrev pub found_no_room : Received → Bool
found_no_room NoRoom = true
found_no_room _ = false

-- the packet began a session
abbrev pub has_begun : Received → Bool
has_begun (Begun flow event) = true
has_begun _ = false

-- the packet's session was cut
abbrev pub was_cut : Received → Bool
was_cut (Went place event) = is_some event.cut
was_cut _ = false

-- the number of sessions that an event cut, in both of its halves
abbrev pub cuts_in : List Session → RunEvent → ℕ
cuts_in before event = count_by (λ t. is_some t.cut) event.ticks + one_if (was_cut event.received)

-- the packet was of no session, and its ends were not a client's and an asset's
abbrev pub was_foreign : List Asset → RunEvent → Bool
was_foreign assets event = was_outside event.received && is_foreign assets event.input.packet

-- a session that was not closed is so behind its event, which did not cut it
abbrev pub closes_at : Option Session → SessionEvent → Bool
closes_at None event = false
closes_at (Some session) event =
    is_none event.cut && (was_closed session.flow (event ∷ behind session.events) && not (was_closed session.flow session.events))

-- the packet's session closed
abbrev pub closes_in : List Session → Received → Bool
closes_in table (Went place event) = closes_at (slice_get table place) event
closes_in table _ = false

-- ---- over all events, the newest first

-- the sum of what each event counts, after the table that those before it left
abbrev pub total : (List Session → RunEvent → ℕ) → List RunEvent → ℕ
total count [] = 0
total count (event ∷ earlier) = total count earlier + count (table_after earlier) event

-- a count that passes 2^64 - 1 stays there
abbrev pub capped : ℕ → ℕ
capped n = min n (2 ^ 64 - 1)

-- the counts of events over these assets, each up to 2^64 - 1
abbrev pub summary_of : List Asset → List RunEvent → Summary
summary_of assets events = record {
  records = capped (length events);
  dropped = capped (total (λ before event. one_if (was_dropped event.received)) events);
  outside = capped (total (λ before event. one_if (was_outside event.received)) events);
  full = capped (total (λ before event. one_if (found_no_room event.received)) events);
  sessions = capped (total (λ before event. one_if (has_begun event.received)) events);
  admitted = capped (total (λ before event. decided_in (λ w. w.admitted) (found before event) event.received) events);
  refused = capped (total (λ before event. decided_in (λ w. w.refused) (found before event) event.received) events);
  cuts = capped (total cuts_in events);
  foreign = capped (total (λ before event. one_if (was_foreign assets event)) events);
  closed = capped (total (λ before event. one_if (closes_in (found before event) event.received)) events);
  above = capped (total (λ before event. one_if (is_above (misfit_in (found before event) event.received))) events);
  beyond = capped (total (λ before event. one_if (is_beyond (misfit_in (found before event) event.received))) events);
}
