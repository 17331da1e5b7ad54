-- Why the capture of a command is not watched to its end, and the flows of one that is: `WatchRefuses`, `WatchCuts` and `HasWatched`; and
-- why one of a recording is not read to its end: `ReviewRefuses`, `ReviewCuts`.
-- What is watched is said in `cf_watch`.
use Rattle.std.specs.Prelude.{◌≡◌, ◌≢◌, ◌⊎◌, ℕ, List}
use Rattle.cf_outside.specs.Files.{Content, IsAtEnd, IsLongerThan}
use Rattle.cf_policy.specs.declared.Policy.{Policy}
use Rattle.cf_records.specs.Capture.{Cut}
use Rattle.cf_watch.specs.FlowValue.{FlowValue}
use Rattle.cf_watch.specs.Watch.{EndsAt, HasFlows}
use Rattle.cf_watch.specs.declared.WatchFault.{WatchFault}
use Rattle.cf_watch.specs.declared.WatchFault.TheVariants as fault
use Rattle.cf_watch.specs.declared.WatchRefusal.TheVariants as watch
use Rattle.cf_watch.specs.declared.fault.TheConstants.{CAPTURE_LIMIT}
use Rattle.cf_ending.specs.Captures.{block_refusal, form_refusal}
use Rattle.cf_view.specs.declared.LinkSet.TheVariants as set
use Rattle.cf_ending.specs.Outside.{Outside}
use Rattle.cf_box.specs.Packets.{ListingCutsIn, ListingRefuses, ListingRefusesIn}
use Rattle.cf_box.specs.PolicyFile.{HasPolicy}
use Rattle.cf_ending.specs.declared.CaptureRefusal.{CaptureRefusal}
use Rattle.cf_ending.specs.declared.CaptureRefusal.TheVariants as refusal
use Rattle.cf_ending.specs.declared.Stop.{Stop}
use Rattle.cf_ending.specs.declared.Stop.TheVariants as stop

-- why the work stops where the capture is not watched to its end
abbrev pub fault_stop : WatchFault → Stop
fault_stop fault.NoMemory = stop.NoMemory
fault_stop fault.Read = stop.ReadFault
fault_stop (fault.Cut place) = stop.CaptureCut place
fault_stop (fault.Refused watch.Long) = stop.CaptureRefused refusal.Long
fault_stop (fault.Refused watch.Large) = stop.CaptureRefused refusal.Large
fault_stop (fault.Refused watch.TooLong) = stop.CaptureRefused refusal.TooLong
fault_stop (fault.Refused (watch.Header of)) = stop.CaptureRefused (form_refusal of)
fault_stop (fault.Refused (watch.Block of)) = stop.CaptureRefused (block_refusal of)

-- a capture that is not longer than the limit is refused as a listing refuses it; no place of it reaches 2^40
pub record WatchRefusesShort (file : Content) (r : CaptureRefusal) : Type 0 where
  pub short : IsAtEnd file CAPTURE_LIMIT
  pub refuses : ListingRefuses file r
  pub no_large : r ≢ refusal.Large

-- a capture whose connections are watched is refused; its length is tested first
abbrev pub WatchRefuses : Content → CaptureRefusal → Type 0
WatchRefuses file r = ((r ≡ refusal.Long) × IsLongerThan file CAPTURE_LIMIT) ⊎ WatchRefusesShort file r

-- it ends inside the record at this place
abbrev pub WatchCuts : Content → (place : ℕ) → Type 0
WatchCuts file place = EndsAt set.Plain file Cut place

-- a capture of a recording is refused as a listing refuses one of its link types
abbrev pub ReviewRefuses : Content → CaptureRefusal → Type 0
ReviewRefuses file r = ListingRefusesIn set.Recorded file r

-- it ends inside the record at this place
abbrev pub ReviewCuts : Content → (place : ℕ) → Type 0
ReviewCuts file place = ListingCutsIn set.Recorded file place

-- the policy of a file means this, and these are the flows of a capture to its assets
pub record HasWatched (policy capture : List ℕ) (before : Outside) (p : Policy) (flows : List FlowValue) : Type 0 where
  pub has_policy : HasPolicy (before.files.content policy) p
  pub has_flows : HasFlows p.assets (before.files.content capture) flows
