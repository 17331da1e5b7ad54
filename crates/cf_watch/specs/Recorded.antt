-- What captures show that are read one behind the other, as one recording: HasRecording; and why they are not read to their ends:
-- FirstWhere and UnreadAs. Read from the end.
use Rattle.std.specs.Prelude.{◌≡◌, ◌⊎◌, ℕ, List, [], ◌∷◌, ◌++◌, map, reverse, Ok, Err}
use Rattle.cf_outside.specs.Files.{Content, IsLongerThan}
use Rattle.cf_policy.specs.declared.Asset.{Asset}
use Rattle.cf_records.specs.Capture.{AtPlace, Cut, FileEnd, Large, Record, Refused, TooLong}
use Rattle.cf_records.specs.Reader.{HasFormIn}
use Rattle.cf_records.specs.declared.Form.{Form}
use Rattle.cf_view.specs.declared.LinkSet.{LinkSet}
use Rattle.cf_view.specs.declared.LinkSet.TheVariants as set
use Rattle.cf_watch.specs.Flow.{AreFlowsOf}
use Rattle.cf_watch.specs.FlowValue.{FlowValue, StretchValue}
use Rattle.cf_watch.specs.Seen.{seen_by}
use Rattle.cf_watch.specs.Stretches.{all_stretches}
use Rattle.cf_watch.specs.Watch.{HasRecords, kinds_by}
use Rattle.cf_watch.specs.declared.fault.TheConstants.{CAPTURE_LIMIT}
use Rattle.cf_watch.specs.declared.fault.WatchFault.{WatchFault}
use Rattle.cf_watch.specs.declared.fault.WatchFault.TheVariants as fault
use Rattle.cf_watch.specs.declared.fault.WatchRefusal.{WatchRefusal}
use Rattle.cf_watch.specs.declared.fault.WatchRefusal.TheVariants as refusal
use Rattle.cf_watch.specs.declared.scope.Scope.{Scope}
use Rattle.cf_watch.specs.declared.scope.Scope.TheVariants as scope

-- ---- one capture

-- a file of these link types, whatever its length, has a form, and records up to this place, at which this stands
pub record IsReadTo (kinds : LinkSet) (file : Content) (found : AtPlace) (place : ℕ) : Type 0 where
  pub form : Form
  pub has_form : HasFormIn kinds file (Ok form)
  pub records : List Record
  pub are_records : HasRecords file form records (record { place = place; found = found })

-- a file of these link types has these records, up to its end
pub record IsCaptureIn (kinds : LinkSet) (file : Content) (records : List Record) : Type 0 where
  pub form : Form
  pub has_form : HasFormIn kinds file (Ok form)
  pub place : ℕ
  pub are_records : HasRecords file form records (record { place = place; found = FileEnd })

-- the same of a capture of a recording
abbrev pub IsCaptureOf : Content → List Record → Type 0
IsCaptureOf file records = IsCaptureIn set.Recorded file records

-- the refusal of a file that has an octet at place 2^40: where connections are watched it is too long before
abbrev pub large_by : Scope → WatchRefusal
large_by scope.Connections = refusal.Long
large_by scope.Recording = refusal.Large

-- why a file is not read to its end, as far as it is told; the length of one whose connections are watched was tested before
abbrev pub StopsAs : Scope → Content → WatchFault → Type 0
StopsAs by file (fault.Cut at) = IsReadTo (kinds_by by) file Cut at
StopsAs by file (fault.Refused refusal.TooLong) = (place : ℕ) × IsReadTo (kinds_by by) file TooLong place
StopsAs by file (fault.Refused (refusal.Block of)) = (place : ℕ) × IsReadTo (kinds_by by) file (Refused of) place
StopsAs by file (fault.Refused (refusal.Header of)) = HasFormIn (kinds_by by) file (Err of)
StopsAs by file (fault.Refused refusal.Long) = (by ≡ scope.Connections) × IsLongerThan file CAPTURE_LIMIT
StopsAs by file (fault.Refused refusal.Large) = (by ≡ scope.Recording) × ((place : ℕ) × IsReadTo (kinds_by by) file Large place)
StopsAs by file fault.Read = Unit {0}
StopsAs by file fault.NoMemory = Unit {0}

-- why a capture of a recording is not read to its end
abbrev pub UnreadAs : Content → WatchFault → Type 0
UnreadAs file why = StopsAs scope.Recording file why

-- ---- captures, one behind the other

-- the captures of these names have these records, those of one behind those of the one before
abbrev pub HaveRecords : (content : List ℕ → Content) → (captures : List (List ℕ)) → List Record → Type 0
HaveRecords content [] records = records ≡ []
HaveRecords content (capture ∷ captures) records =
    (first later : List Record) × IsCaptureOf (content capture) first × HaveRecords content captures later × (records ≡ first ++ later)

-- of one of the captures this is so, and of each before it that
abbrev pub FirstWhere : (That This : Content → Type 0) → (content : List ℕ → Content) → (captures : List (List ℕ)) → Type 0
FirstWhere That This content [] = ⊥
FirstWhere That This content (capture ∷ captures) = This (content capture) ⊎ (That (content capture) × FirstWhere That This content captures)

-- a capture of a recording that has records up to its end
abbrev pub IsWhole : Content → Type 0
IsWhole file = (records : List Record) × IsCaptureOf file records

-- the first of the captures that is not read to its end is so
abbrev pub FirstUnread : (This : Content → Type 0) → (content : List ℕ → Content) → (captures : List (List ℕ)) → Type 0
FirstUnread This content captures = FirstWhere IsWhole This content captures

-- these are the flows of records, the oldest of which stands first, their other stretches, and the stamps of these records in
-- microseconds; records are counted from 1, over all of them
pub record IsRecordingOf (assets : List Asset) (records : List Record) (flows : List FlowValue) (stretches : List StretchValue)
    (stamps : List ℕ) : Type 0 where
  pub are_flows : AreFlowsOf (seen_by scope.Recording assets (reverse records)) flows
  pub are_stretches : stretches ≡ all_stretches (seen_by scope.Recording assets (reverse records)) flows
  pub are_stamps : stamps ≡ map (λ r. r.stamp) records

-- these are those of all records of the captures, as of one list
pub record HasRecording (assets : List Asset) (content : List ℕ → Content) (captures : List (List ℕ)) (flows : List FlowValue)
    (stretches : List StretchValue) (stamps : List ℕ) : Type 0 where
  pub records : List Record
  pub have : HaveRecords content captures records
  pub shows : IsRecordingOf assets records flows stretches stamps
