-- What a watcher answers about a capture file: WatchesAs.
use Rattle.std.specs.Prelude.{◌≡◌, ℕ, List, reverse, drop, Result, Ok, Err}
use Rattle.cf_outside.specs.Files.{Content, IsAtEnd, IsLongerThan, absent, holds, untold}
use Rattle.cf_policy.specs.declared.Asset.{Asset}
use Rattle.cf_records.specs.Capture.{AreRecords, AtPlace, Cut, FileEnd, LastPlace, Record, Refused, TooLong}
use Rattle.cf_records.specs.Form.{first_place}
use Rattle.cf_records.specs.Reader.{HasFormIn}
use Rattle.cf_view.specs.declared.LinkSet.{LinkSet}
use Rattle.cf_view.specs.declared.LinkSet.TheVariants as set
use Rattle.cf_records.specs.declared.Form.{Form}
use Rattle.cf_watch.specs.Flow.{AreFlowsOf}
use Rattle.cf_watch.specs.FlowValue.{FlowValue}
use Rattle.cf_watch.specs.Watched.{watched}
use Rattle.cf_watch.specs.declared.fault.TheConstants.{CAPTURE_LIMIT}
use Rattle.cf_watch.specs.declared.fault.WatchFault.{WatchFault}
use Rattle.cf_watch.specs.declared.fault.WatchFault.TheVariants as fault
use Rattle.cf_watch.specs.declared.fault.WatchRefusal.TheVariants as refusal
use Rattle.cf_watch.specs.declared.scope.Scope.{Scope}
use Rattle.cf_watch.specs.declared.scope.Scope.TheVariants as scope

-- a file of this form has these records, the oldest first, up to its last place, as far as it is told; no moment is tested
abbrev pub HasRecords : Content → Form → List Record → LastPlace → Type 0
HasRecords untold form records last = Unit {0}
HasRecords absent form records last = ⊥
HasRecords (holds all) form records last = AreRecords form (first_place form) (drop (first_place form) all) records last

-- the link types that are read: for a review those of Linux cooked captures too
abbrev pub kinds_by : Scope → LinkSet
kinds_by scope.Connections = set.Plain
kinds_by scope.Recording = set.Recorded

-- a file of these link types that is not longer than the limit has a form, and records up to this place, at which this stands
pub record EndsAt (kinds : LinkSet) (file : Content) (found : AtPlace) (place : ℕ) : Type 0 where
  pub short : IsAtEnd file CAPTURE_LIMIT
  pub form : Form
  pub has_form : HasFormIn kinds file (Ok form)
  pub records : List Record
  pub are_records : HasRecords file form records (record { place = place; found = found })

-- the flows of all records of a file
pub record HasFlows (assets : List Asset) (file : Content) (flows : List FlowValue) : Type 0 where
  pub newest : List Record
  pub place : ℕ
  pub ends : EndsAt set.Plain file FileEnd place
  pub are_newest : ends.records ≡ reverse newest
  pub are_flows : AreFlowsOf (watched assets newest) flows

-- why a file of these link types is not watched to its end, as far as it is told
abbrev pub FailsAs : LinkSet → Content → WatchFault → Type 0
FailsAs kinds file (fault.Cut at) = EndsAt kinds file Cut at
FailsAs kinds file (fault.Refused refusal.TooLong) = (place : ℕ) × EndsAt kinds file TooLong place
FailsAs kinds file (fault.Refused (refusal.Block of)) = (place : ℕ) × EndsAt kinds file (Refused of) place
FailsAs kinds file (fault.Refused (refusal.Header of)) = IsAtEnd file CAPTURE_LIMIT × HasFormIn kinds file (Err of)
FailsAs kinds file (fault.Refused refusal.Long) = IsLongerThan file CAPTURE_LIMIT
FailsAs kinds file (fault.Refused refusal.Large) = ⊥
FailsAs kinds file fault.Read = Unit {0}
FailsAs kinds file fault.NoMemory = Unit {0}

-- an answer about the connections of a file
abbrev pub WatchesAs : List Asset → Content → Result (List FlowValue) WatchFault → Type 0
WatchesAs assets file (Ok flows) = HasFlows assets file flows
WatchesAs assets file (Err why) = FailsAs set.Plain file why
