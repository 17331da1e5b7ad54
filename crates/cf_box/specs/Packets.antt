-- `packets CAPTURE`: the packets of a capture are listed, a line each (`PacketLine`): `Lists`.
use Rattle.std.specs.Prelude.{◌≡◌, ◌≢◌, ◌⊎◌, ℕ, List, take, Option, Result, Ok, Err}
use Rattle.cf_outside.specs.Faults.{Rose}
use Rattle.cf_outside.specs.Files.{Content}
use Rattle.cf_outside.specs.Sink.{printed_with}
use Rattle.cf_records.specs.Capture.{Cut, FileEnd, Large, LastPlace, Record, Refused, TooLong}
use Rattle.cf_records.specs.Reader.{HasForm, OpensAs}
use Rattle.cf_records.specs.declared.BlockRefusal.TheVariants as block
use Rattle.cf_records.specs.declared.Form.{Form}
use Rattle.cf_records.specs.declared.record_reader.OpenFault.{OpenFault}
use Rattle.cf_records.specs.declared.record_reader.OpenFault.TheVariants as opened
use Rattle.cf_watch.specs.Watch.{HasRecords}
use Rattle.cf_ending.specs.declared.CaptureRefusal.{CaptureRefusal}
use Rattle.cf_ending.specs.declared.CaptureRefusal.TheVariants as refusal
use Rattle.cf_ending.specs.Captures.{EndsIn, RefusesIn, form_refusal}
use Rattle.cf_view.specs.declared.LinkSet.{LinkSet}
use Rattle.cf_view.specs.declared.LinkSet.TheVariants as set
use Rattle.cf_ending.specs.Outside.{Outside, SinkValue}
use Rattle.cf_ending.specs.PacketLine.{dropped_in, lines_from}
use Rattle.cf_ending.specs.declared.Done.{Done}
use Rattle.cf_ending.specs.declared.Done.TheVariants as done
use Rattle.cf_ending.specs.declared.Stop.{Stop}
use Rattle.cf_ending.specs.declared.Stop.TheVariants as stop

-- ---- why a capture is not listed, or not to its end

-- a file of this form has these records up to its last place, as far as it is told; no moment is tested
abbrev pub HasListedRecords : Content → Form → List Record → LastPlace → Type 0
HasListedRecords file form records last = HasRecords file form records last

-- a listing tests no moments, so none refuses it
abbrev pub ListingRefusesIn : LinkSet → Content → CaptureRefusal → Type 0
ListingRefusesIn kinds file r = RefusesIn kinds HasListedRecords file r × (r ≢ refusal.Clock)

-- the capture that is listed ends inside the record at this place
abbrev pub ListingCutsIn : LinkSet → Content → (place : ℕ) → Type 0
ListingCutsIn kinds file place = EndsIn kinds HasListedRecords file Cut place

-- the same of a file of Ethernet or raw IP
abbrev pub ListingRefuses : Content → CaptureRefusal → Type 0
ListingRefuses file r = ListingRefusesIn set.Plain file r

abbrev pub ListingCuts : Content → (place : ℕ) → Type 0
ListingCuts file place = ListingCutsIn set.Plain file place

-- why the work stops where the capture is not opened
abbrev pub open_stop : OpenFault → Stop
open_stop opened.NoMemory = stop.NoMemory
open_stop opened.Read = stop.ReadFault
open_stop (opened.Refused of) = stop.CaptureRefused (form_refusal of)

-- ---- what a listing did

-- what an answer tells of a capture's records, which end so, and of what was put: the lines of all of them, and at their end how many have
-- no segment; where a read failed, those of the first ones; where a put failed, a prefix of the lines
abbrev pub ListingAnswers : List Record → LastPlace → (before after : Option (List ℕ)) → (failed : Type 0) → Result Done Stop → Type 0
ListingAnswers records last before after failed (Ok d) =
    (d ≡ done.Listed (dropped_in records)) × (last.found ≡ FileEnd) × (after ≡ printed_with before (lines_from 1 records))
ListingAnswers records last before after failed (Err (stop.CaptureCut place)) =
    (last ≡ record { place = place; found = Cut }) × (after ≡ printed_with before (lines_from 1 records))
ListingAnswers records last before after failed (Err (stop.CaptureRefused refusal.TooLong)) =
    (last.found ≡ TooLong) × (after ≡ printed_with before (lines_from 1 records))
ListingAnswers records last before after failed (Err (stop.CaptureRefused refusal.Large)) =
    (last.found ≡ Large) × (after ≡ printed_with before (lines_from 1 records))
ListingAnswers records last before after failed (Err (stop.CaptureRefused refusal.Block)) =
    (last.found ≡ Refused block.Block) × (after ≡ printed_with before (lines_from 1 records))
ListingAnswers records last before after failed (Err (stop.CaptureRefused refusal.Section)) =
    (last.found ≡ Refused block.Section) × (after ≡ printed_with before (lines_from 1 records))
ListingAnswers records last before after failed (Err (stop.CaptureRefused refusal.Interface)) =
    (last.found ≡ Refused block.Interface) × (after ≡ printed_with before (lines_from 1 records))
ListingAnswers records last before after failed (Err (stop.CaptureRefused refusal.Resolution)) =
    (last.found ≡ Refused block.Resolution) × (after ≡ printed_with before (lines_from 1 records))
ListingAnswers records last before after failed (Err stop.ReadFault) =
    (n : ℕ) × (after ≡ printed_with before (lines_from 1 (take n records)))
ListingAnswers records last before after failed (Err stop.WriteFault) =
    failed × ((k : ℕ) × (after ≡ printed_with before (take k (lines_from 1 records))))
ListingAnswers records last before after failed _ = ⊥

-- the capture was opened, and its records were listed up to their end, a failed read or a failed put
pub record HasListed (file : Content) (before after : Option (List ℕ)) (failed : Type 0) (answer : Result Done Stop) : Type 0 where
  pub form : Form
  pub has_form : HasForm file (Ok form)
  pub records : List Record
  pub last : LastPlace
  pub are_records : HasListedRecords file form records last
  pub answers : ListingAnswers records last before after failed answer

-- the capture was not opened, and nothing was put
pub record StaysClosed (file : Content) (before after : SinkValue) (s : Stop) : Type 0 where
  pub fault : OpenFault
  pub opens : OpensAs file (Err fault)
  pub stops : s ≡ open_stop fault
  pub sink : after ≡ before

-- the capture of a file was listed, with this answer
abbrev pub ListsFile : Content → (before after : SinkValue) → Result Done Stop → Type 0
ListsFile file before after answer = HasListed file before.text after.text (Rose before.faults after.faults) answer

-- each record has its line, and no file changed
pub record Lists (file : List ℕ) (before after : Outside) (d : Done) : Type 0 where
  pub lists : ListsFile (before.files.content file) before.sink after.sink (Ok d)
  pub content : after.files.content ≡ before.files.content
  pub pair : after.pair ≡ before.pair

-- the lines that were put before a stop, and no file changed
pub record PacketsLeaves (file : List ℕ) (before after : Outside) (s : Stop) : Type 0 where
  pub lines : StaysClosed (before.files.content file) before.sink after.sink s
      ⊎ ListsFile (before.files.content file) before.sink after.sink (Err s)
  pub content : after.files.content ≡ before.files.content
  pub pair : after.pair ≡ before.pair
