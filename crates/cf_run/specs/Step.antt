-- Steps of the proof: one event over the table in memory, `Steps`; and what an engine stands for, `IsEngineOf`.
use Rattle.std.specs.Prelude.{◌≡◌, ◌≤◌, ◌-◌, ◌^◌, ℕ, List, ◌∷◌, ◌++◌, Result, count_by, length}
use Rattle.std.specs.Option.{is_some}
use Rattle.cf_packet.specs.Packet.{PacketValue}
use Rattle.cf_packet.specs.declared.packet.PacketRefusal.{PacketRefusal}
use Rattle.cf_policy.specs.declared.Asset.{Asset}
use Rattle.cf_session.specs.Told.{Told, with_both}
use Rattle.cf_run.specs.Engine.{AreAll, AreDueFrom, AreSound}
use Rattle.cf_run.specs.Receiving.{AreTicked, IsOutcome}
use Rattle.cf_run.specs.Selected.{Rises, last_moment}
use Rattle.cf_run.specs.Summary.{found, summary_of}
use Rattle.cf_run.specs.Table.{Session}
use Rattle.cf_run.specs.Trace.{AreRunEvents, RunEvent, IsRunEvent, Received, ReceivesRecord, after_received, logged_in_first}
use Rattle.cf_run.specs.Trace.{logged_in_second, logged_received, sent_in_first, sent_in_second, sent_received, table_after}
use Rattle.cf_run.specs.declared.entry.Entry.{Entry}
use Rattle.cf_run.specs.declared.second_half.Outcome.{Outcome}
use Rattle.cf_run.specs.declared.summary.Happened.{Happened}
use Rattle.cf_run.specs.declared.summary.Summary.{Summary}

-- the second half of an event with a record that is a packet or none
pub record ReceivingRecord (assets : List Asset) (limit now : ℕ) (packet : Result PacketValue PacketRefusal) (table : List Session)
    (entries : List Entry)
    (old new : Told) (result : Outcome) (received : Received) : Type 0 where
  pub receives : ReceivesRecord assets limit (now - 1) table packet received
  pub told : new ≡ with_both old (sent_received received) (logged_received table received)
  pub all : AreAll assets now entries (after_received received table)
  pub counts : IsOutcome assets packet table result received

abbrev pub ReceivesRecordOne : List Asset → (limit now : ℕ) → Result PacketValue PacketRefusal → (before after : List Entry)
    → (old new : Told) → Outcome → Type 0
ReceivesRecordOne assets limit now packet before after old new result =
    (table : List Session) → AreTicked (now - 1) table → AreAll assets now before table →
    (received : Received) × ReceivingRecord assets limit now packet table after old new result received

-- what is counted of an event, after this table
pub record IsCounted (assets : List Asset) (before : List Session) (happened : Happened) (event : RunEvent) : Type 0 where
  pub ticks : happened.cuts ≡ count_by (λ t. is_some t.cut) event.ticks
  pub received : IsOutcome assets event.input.packet (found before event) happened.outcome event.received

-- an event with a record, after this table
pub record Steps (assets : List Asset) (limit now : ℕ) (packet : Result PacketValue PacketRefusal) (before : List Session)
    (entries : List Entry) (old new : Told)
    (happened : Happened) (event : RunEvent) : Type 0 where
  pub input : event.input ≡ record { moment = now; packet = packet }
  pub is_event : IsRunEvent assets limit before event
  pub told : new ≡ with_both old (sent_in_first event ++ sent_in_second event)
      (logged_in_first before event ++ logged_in_second before event)
  pub all : AreAll assets now entries (after_received event.received (found before event))
  pub counts : IsCounted assets before happened event

-- what a contract sees of an `Engine`: the sessions in memory, a moment before which none of them is due, how many letters a
-- stream has at most, the moment of the last event, and the counts
pub record EngineValue : Type 0 where
  pub table : List Entry
  pub due : ℕ
  pub limit : ℕ
  pub last : ℕ
  pub summary : Summary

-- whatever happened, each session can take what comes, and is passed by only before it is due
pub record IsSoundEngine (assets : List Asset) (engine : EngineValue) : Type 0 where
  pub sessions : AreSound assets engine.limit engine.table
  pub due : AreDueFrom engine.due engine.table
  pub size : length engine.table ≤ 256
  pub some : 1 ≤ engine.limit
  pub limit : engine.limit ≤ 2 ^ 30

-- the engine stands for these events, the newest first
pub record IsEngineOf (assets : List Asset) (engine : EngineValue) (events : List RunEvent) : Type 0 where
  pub are : AreRunEvents assets engine.limit events
  pub rises : Rises events
  pub last : last_moment events ≡ engine.last
  pub all : AreAll assets engine.last engine.table (table_after events)
  pub counts : engine.summary ≡ summary_of assets events

-- a run that went on by one event
pub record StepsOn (assets : List Asset) (now : ℕ) (packet : Result PacketValue PacketRefusal) (events : List RunEvent)
    (engine : EngineValue) (old new : Told) (event : RunEvent) :
    Type 0 where
  pub input : event.input ≡ record { moment = now; packet = packet }
  pub stands : IsEngineOf assets engine (event ∷ events)
  pub told : new ≡ with_both old (sent_in_first event ++ sent_in_second event)
      (logged_in_first (table_after events) event ++ logged_in_second (table_after events) event)
