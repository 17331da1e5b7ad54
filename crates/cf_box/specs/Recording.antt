-- Why captures are not read as one recording: `CapturesRefuse` and `CapturesCut` of the first that is not read to its end. What is read of them is said in `cf_watch`.
use Rattle.std.specs.Prelude.{ℕ, List}
use Rattle.cf_outside.specs.Files.{Content}
use Rattle.cf_watch.specs.Recorded.{FirstUnread}
use Rattle.cf_box.specs.Watching.{ReviewCuts, ReviewRefuses}
use Rattle.cf_ending.specs.Outside.{FilesValue, RoseIn}
use Rattle.cf_ending.specs.declared.CaptureRefusal.{CaptureRefusal}
use Rattle.cf_ending.specs.declared.Stop.{Stop}
use Rattle.cf_ending.specs.declared.Stop.TheVariants as stop

-- the first of the captures that is not read to its end is refused so
abbrev pub CapturesRefuse : (content : List ℕ → Content) → (captures : List (List ℕ)) → CaptureRefusal → Type 0
CapturesRefuse content captures r = FirstUnread (λ file. ReviewRefuses file r) content captures

-- it ends inside the record at this place
abbrev pub CapturesCut : (content : List ℕ → Content) → (captures : List (List ℕ)) → (place : ℕ) → Type 0
CapturesCut content captures place = FirstUnread (λ file. ReviewCuts file place) content captures

-- why the captures were not read to their ends
abbrev pub StopsReading : (captures : List (List ℕ)) → (before after : FilesValue) → Stop → Type 0
StopsReading captures before after stop.ReadFault = RoseIn captures before.read_faults after.read_faults
StopsReading captures before after (stop.CaptureRefused r) = CapturesRefuse before.content captures r
StopsReading captures before after (stop.CaptureCut place) = CapturesCut before.content captures place
StopsReading captures before after stop.NoMemory = Unit {0}
StopsReading captures before after _ = ⊥
