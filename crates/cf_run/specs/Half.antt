-- A half of an event, and what the desk has that failed amid it: IsHalfOf and BreaksHalf.
use Rattle.std.specs.Prelude.{◌≡◌, ◌⊎◌, ◌-◌, ℕ, Bool, true, false, List, [], ◌++◌, slice_get, Result, Ok, Err}
use Rattle.std.specs.List.{concat, flat_map}
use Rattle.cf_outside.specs.Desk.{DeskValue}
use Rattle.cf_packet.specs.Packet.{PacketValue}
use Rattle.cf_packet.specs.declared.packet.PacketRefusal.{PacketRefusal}
use Rattle.cf_policy.specs.declared.Asset.{Asset}
use Rattle.cf_view.specs.declared.Side.{Side}
use Rattle.cf_session.specs.Broken.{BreaksAmid, IsPartOf, octets_of}
use Rattle.cf_session.specs.Sent.{Sent, sent_first, sent_second}
use Rattle.cf_session.specs.Session.{Flow, SessionEvent}
use Rattle.cf_session.specs.Told.{Told, told, with_both}
use Rattle.cf_run.specs.Engine.{AreAll}
use Rattle.cf_run.specs.Receiving.{AreTicked}
use Rattle.cf_run.specs.Table.{Begins, Session, match_of}
use Rattle.cf_run.specs.Trace.{AreTicks, RunEvent, GoesOnAt, Input, IsRunEvent, Received, Receives, ReceivesRecord, kept, logged_at}
use Rattle.cf_run.specs.Trace.{logged_in_first, logged_in_second, logged_received, logged_ticks, sent_in_first, sent_in_second}
use Rattle.cf_run.specs.Trace.{sent_received, tick_of, ticked}
use Rattle.cf_run.specs.declared.engine.StepFault.{StepFault}
use Rattle.cf_run.specs.declared.engine.StepFault.TheVariants as stepped
use Rattle.cf_run.specs.declared.entry.Entry.{Entry}

-- what an event sent and logged before one of its halves, and what it sends and logs in it
pub record Half : Type 0 where
  pub sent_before : List Sent
  pub logged_before : List (List ℕ)
  pub sent : List Sent
  pub logged : List (List ℕ)

-- the first half, in which each session that has not expired has its tick
abbrev pub first_half : (tick : ℕ) → List Session → List SessionEvent → Half
first_half tick before ticks = record {
  sent_before = [];
  logged_before = [];
  sent = flat_map sent_first ticks;
  logged = logged_ticks
      (kept tick before) ticks;
}

-- the second half
abbrev pub second_half : List Session → RunEvent → Half
second_half before event = record {
  sent_before = sent_in_first event;
  logged_before = logged_in_first before event;
  sent = sent_in_second event;
  logged = logged_in_second before event;
}

-- each session that has not expired has a first half that is right after its earlier events
abbrev pub IsFirstHalf : List Session → Input → Half → Type 0
IsFirstHalf before input half = (ticks : List SessionEvent) × AreTicks (tick_of input) (kept (tick_of input) before) ticks
    × (half ≡ first_half (tick_of input) before ticks)

-- a record is a packet that begins a session at this table: neither one of a live session nor one that finds the table full
abbrev pub BeginsSession : List Asset → List Session → Result PacketValue PacketRefusal → Type 0
BeginsSession assets table (Err refusal) = ⊥
BeginsSession assets table (Ok packet) = (flow : Flow) × (match_of assets table packet ≡ Begins flow)

-- the first half where the packet after it begins a session
pub record IsHalfBeforeBeginning (assets : List Asset) (before : List Session) (input : Input) (half : Half) : Type 0 where
  pub ticks : List SessionEvent
  pub are : AreTicks (tick_of input) (kept (tick_of input) before) ticks
  pub is : half ≡ first_half (tick_of input) before ticks
  pub begins : BeginsSession assets (ticked ticks (tick_of input) before) input.packet

-- the second half: there is an event with the record that is right after this table
abbrev pub IsSecondHalf : List Asset → (limit : ℕ) → List Session → Input → Half → Type 0
IsSecondHalf assets limit before input half = (event : RunEvent) × (event.input ≡ input) × IsRunEvent assets limit before event
    × (half ≡ second_half before event)

-- a half that the event of a record may have at this table
abbrev pub IsHalfOf : List Asset → (limit : ℕ) → List Session → Input → Half → Type 0
IsHalfOf assets limit before input half = IsFirstHalf before input half ⊎ IsSecondHalf assets limit before input half

-- the desk failed amid the half: it got all that went before it in the event, the first packets and lines of the half whole, and
-- of the next ones a beginning
pub record BreaksHalf (half : Half) (old new : DeskValue) : Type 0 where
  pub gone : List Sent
  pub left : List Sent
  pub are_sent : half.sent ≡ gone ++ left
  pub put : List (List ℕ)
  pub missing : List (List ℕ)
  pub are_lines : half.logged ≡ put ++ missing
  pub is_told : told new ≡ with_both (told old) (half.sent_before ++ gone) (half.logged_before ++ put)
  pub packet_part : IsPartOf (octets_of old.octets left) old.packet_part new.packet_part
  pub line_part : IsPartOf (concat missing) old.line_part new.line_part

-- an event was broken off in one of its halves
abbrev pub StepBreaks : List Asset → (limit : ℕ) → List Session → Input → (old new : DeskValue) → Type 0
StepBreaks assets limit before input old new = (half : Half) × IsHalfOf assets limit before input half × BreaksHalf half old new

-- an event stopped between its halves, as its packet was to begin a session: the desk got all of the first, and nothing of the
-- second
abbrev pub StepStops : List Asset → List Session → Input → (old new : Told) → Type 0
StepStops assets before input old new = (half : Half) × IsHalfBeforeBeginning assets before input half
    × (new ≡ with_both old half.sent half.logged)

-- no memory was left, or the desk failed
abbrev pub is_write : StepFault → Bool
is_write stepped.NoMemory = false
is_write stepped.Write = true

-- an event was not handled to its end, since the desk failed
abbrev pub has_failed : {A : Type 0} → Result A StepFault → Bool
has_failed (Ok value) = false
has_failed (Err fault) = is_write fault

-- ---- the parts of a step

-- the first half was broken off
pub record TicksBreak (tick : ℕ) (table : List Session) (old new : DeskValue) : Type 0 where
  pub ticks : List SessionEvent
  pub are : AreTicks tick (kept tick table) ticks
  pub amid : BreaksAmid (flat_map sent_first ticks) (logged_ticks (kept tick table) ticks) old new

-- the second half was, with a packet
pub record ReceivingBreaks (assets : List Asset) (limit now : ℕ) (packet : PacketValue) (table : List Session) (old new : DeskValue) : Type
    0 where
  pub received : Received
  pub receives : Receives limit (now - 1) table packet (match_of assets table packet) received
  pub amid : BreaksAmid (sent_received received) (logged_received table received) old new

abbrev pub ReceiveBreaks : List Asset → (limit now : ℕ) → PacketValue → List Entry → (old new : DeskValue) → Type 0
ReceiveBreaks assets limit now packet entries old new =
    (table : List Session) → AreTicked (now - 1) table → AreAll assets now entries table
    → ReceivingBreaks assets limit now packet table old new

-- a session's event was, as it went on
pub record GoingBreaks (limit place : ℕ) (from : Side) (packet : PacketValue) (table : List Session) (old new : DeskValue) : Type 0 where
  pub event : SessionEvent
  pub goes_on : GoesOnAt limit from packet event (slice_get table place)
  pub amid : BreaksAmid (sent_second event) (logged_at (slice_get table place) event) old new

abbrev pub GoBreaks : List Asset → (limit now place : ℕ) → Side → PacketValue → List Entry → (old new : DeskValue) → Type 0
GoBreaks assets limit now place from packet entries old new =
    (table : List Session) → AreTicked (now - 1) table → AreAll assets now entries table → GoingBreaks limit place from packet table old new

-- the second half was, with a record that is a packet or none
pub record ReceivingRecordBreaks (assets : List Asset) (limit now : ℕ) (packet : Result PacketValue PacketRefusal) (table : List Session)
    (old new : DeskValue) : Type 0 where
  pub received : Received
  pub receives : ReceivesRecord assets limit (now - 1) table packet received
  pub amid : BreaksAmid (sent_received received) (logged_received table received) old new

abbrev pub ReceiveRecordBreaks : List Asset → (limit now : ℕ) → Result PacketValue PacketRefusal → List Entry → (old new : DeskValue)
    → Type 0
ReceiveRecordBreaks assets limit now packet entries old new =
    (table : List Session) → AreTicked (now - 1) table → AreAll assets now entries table
    → ReceivingRecordBreaks assets limit now packet table old new

-- a half with this record stopped: there its packet begins a session
abbrev pub StopsBeginning : List Asset → (now : ℕ) → Result PacketValue PacketRefusal → List Entry → Type 0
StopsBeginning assets now packet entries = (table : List Session) → AreAll assets now entries table → BeginsSession assets table packet
