-- A run over a capture file: RunsAs says what its answer means, and what then stands in the files.
use Rattle.std.specs.Prelude.{◌≡◌, ◌≢◌, ◌⊎◌, ℕ, List, [], ◌∷◌, ◌++◌, drop, take, Result, Ok, Err}
use Rattle.std.specs.List.{concat}
use Rattle.cf_outside.specs.Files.{Appends, Content, Creates, absent, content_after_create, holds, untold}
use Rattle.cf_outside.specs.declared.files.WriteAnswer.TheVariants as write
use Rattle.cf_pcap.specs.Header.{output_octets}
use Rattle.cf_policy.specs.declared.Asset.{Asset}
use Rattle.cf_session.specs.Broken.{octets_of}
use Rattle.cf_records.specs.Capture.{AtPlace, Clock, Cut, FileEnd, Large, LastPlace, Record, Refused, TooLong}
use Rattle.cf_records.specs.Form.{first_place}
use Rattle.cf_records.specs.Moments.{AreTimed, first_moment}
use Rattle.cf_records.specs.declared.form.Form.{Form}
use Rattle.cf_run.specs.Half.{Half, IsHalfBeforeBeginning, IsHalfOf}
use Rattle.cf_run.specs.OutputFile.{record_octets}
use Rattle.cf_records.specs.Reader.{HasForm}
use Rattle.cf_run.specs.Run.{IsRun, capture_of, inputs, inputs_of}
use Rattle.cf_run.specs.Selected.{Rises}
use Rattle.cf_run.specs.Trace.{AreRunEvents, RunEvent, Input, logged, sent, table_after}
use Rattle.cf_run.specs.declared.engine.StepFault.{StepFault}
use Rattle.cf_run.specs.declared.engine.StepFault.TheVariants as stepped
use Rattle.cf_records.specs.declared.record_reader.OpenFault.{OpenFault}
use Rattle.cf_records.specs.declared.record_reader.OpenFault.TheVariants as opened
use Rattle.cf_run.specs.declared.run.RunFault.{RunFault}
use Rattle.cf_run.specs.declared.run.RunFault.TheVariants as fault
use Rattle.cf_run.specs.declared.run.RunNames.{RunNames}
use Rattle.cf_run.specs.declared.run.RunRefusal.TheVariants as refusal
use Rattle.cf_run.specs.declared.summary.Summary.{Summary}

-- what a contract sees of the names of the files
pub record RunNamesValue : Type 0 where
  pub capture : List ℕ
  pub out : List ℕ
  pub log : List ℕ

abbrev pub run_names_value : RunNames → RunNamesValue
run_names_value names = record { capture = names.capture.now; out = names.out.now; log = names.log.now }

-- a fault of opening the capture, and one of an event, as the run has it
abbrev pub open_fault : OpenFault → RunFault
open_fault opened.NoMemory = fault.NoMemory
open_fault opened.Read = fault.Read
open_fault (opened.Refused of) = fault.Refused (refusal.Header of)

abbrev pub step_fault : StepFault → RunFault
step_fault stepped.NoMemory = fault.NoMemory
step_fault stepped.Write = fault.Write

-- no two of the three files are the same
pub record AreApart (names : RunNamesValue) : Type 0 where
  pub capture_out : names.capture ≢ names.out
  pub capture_log : names.capture ≢ names.log
  pub out_log : names.out ≢ names.log

-- a file of this form has these records up to its last place, as far as it is told
abbrev pub HasRunRecords : Content → Form → List Record → LastPlace → Type 0
HasRunRecords untold form records last = Unit {0}
HasRunRecords absent form records last = ⊥
HasRunRecords (holds all) form records last = AreTimed form first_moment (first_place form) (drop (first_place form) all) records last

-- the first records of a capture
abbrev pub BeginsWithRecords : Content → Form → List Record → Type 0
BeginsWithRecords file form records = (more : List Record) × (last : LastPlace) × HasRunRecords file form (records ++ more) last

-- a creation failed, or the append of the header: OUT is created first, then LOG, and then OUT gets its header
pub data IsCreatedInPart (names : RunNamesValue) (before after : List ℕ → Content) : Type 0 where
  out_failed : Creates (before names.out) (after names.out) write.Failed → after names.log ≡ before names.log
      → IsCreatedInPart names before after
  log_failed : after names.out ≡ content_after_create (before names.out) → Creates (before names.log) (after names.log) write.Failed
      → IsCreatedInPart names before after
  header_failed : Appends output_octets (content_after_create (before names.out)) (after names.out) write.Failed →
      after names.log ≡ content_after_create (before names.log) → IsCreatedInPart names before after

-- a file that was told holds these octets
abbrev pub HoldsOctets : (before after : Content) → List ℕ → Type 0
HoldsOctets untold after octets = Unit {0}
HoldsOctets absent after octets = after ≡ holds octets
HoldsOctets (holds all) after octets = after ≡ holds octets

module _ (assets : List Asset) (limit : ℕ) (names : RunNamesValue) (before after : List ℕ → Content) where
  -- the two output files are those of a run over these records
  pub record LeavesRun (records : List Record) (summary : Summary) : Type 0 where
    pub out : List ℕ
    pub log : List ℕ
    pub is_run : IsRun assets limit (inputs records) out log summary
    pub in_out : HoldsOctets (before names.out) (after names.out) out
    pub in_log : HoldsOctets (before names.log) (after names.log) log

  -- the capture was read up to a place, and its records were run over
  pub record RunsTo (found : AtPlace) (place : ℕ) (summary : Summary) : Type 0 where
    pub form : Form
    pub has_form : HasForm (before names.capture) (Ok form)
    pub records : List Record
    pub are_records : HasRunRecords (before names.capture) form records (record { place = place; found = found })
    pub leaves : LeavesRun records summary

  -- a read failed after records that were run over, one at least
  pub record RunsPartly : Type 0 where
    pub form : Form
    pub has_form : HasForm (before names.capture) (Ok form)
    pub records : List Record
    pub some : records ≢ []
    pub are_first : BeginsWithRecords (before names.capture) form records
    pub summary : Summary
    pub leaves : LeavesRun records summary

  -- these first records were run over, and the run stopped in the event of the next one
  pub record StopsIn (events : List RunEvent) (input : Input) : Type 0 where
    pub form : Form
    pub has_form : HasForm (before names.capture) (Ok form)
    pub records : List Record
    pub next : Record
    pub are_first : BeginsWithRecords (before names.capture) form (records ++ next ∷ [])
    pub are : AreRunEvents assets limit events
    pub rises : Rises events
    pub are_inputs : inputs_of events ++ input ∷ [] ≡ inputs (records ++ next ∷ [])

  -- a write failed amid a half of that event: the two files have what the events and the event before that half gave, and a
  -- beginning of what is right in that half
  pub record BreaksOff : Type 0 where
    pub events : List RunEvent
    pub input : Input
    pub stops : StopsIn events input
    pub half : Half
    pub is_half : IsHalfOf assets limit (table_after events) input half
    pub octets_out : ℕ
    pub in_out : HoldsOctets (before names.out) (after names.out)
        (capture_of (sent events ++ half.sent_before) ++ take octets_out (octets_of record_octets half.sent))
    pub octets_log : ℕ
    pub in_log : HoldsOctets (before names.log) (after names.log)
        (concat (logged events ++ half.logged_before) ++ take octets_log (concat half.logged))

  -- memory ran out after the first half of that event, where its packet begins a session
  pub record StopsBetween : Type 0 where
    pub events : List RunEvent
    pub input : Input
    pub stops : StopsIn events input
    pub half : Half
    pub is_half : IsHalfBeforeBeginning assets (table_after events) input half
    pub in_out : HoldsOctets (before names.out) (after names.out) (capture_of (sent events ++ half.sent))
    pub in_log : HoldsOctets (before names.log) (after names.log) (concat (logged events ++ half.logged))

  -- the record or the block at a place is refused
  abbrev pub RunsToRefusal : AtPlace → Type 0
  RunsToRefusal found = (place : ℕ) × (summary : Summary) × RunsTo found place summary

  -- what an answer of the run over the records means
  abbrev pub RunsRecords : Result Summary RunFault → Type 0
  RunsRecords (Ok summary) = (place : ℕ) × RunsTo FileEnd place summary
  RunsRecords (Err (fault.Cut at summary)) = RunsTo Cut at summary
  RunsRecords (Err (fault.Refused refusal.TooLong)) = RunsToRefusal TooLong
  RunsRecords (Err (fault.Refused refusal.Clock)) = RunsToRefusal Clock
  RunsRecords (Err (fault.Refused refusal.Large)) = RunsToRefusal Large
  RunsRecords (Err (fault.Refused (refusal.Block of))) = RunsToRefusal (Refused of)
  RunsRecords (Err (fault.Refused (refusal.Header of))) = ⊥
  RunsRecords (Err fault.Read) = RunsPartly
  RunsRecords (Err fault.Write) = BreaksOff
  RunsRecords (Err fault.NoMemory) = StopsBetween

  -- what an answer means, and what then stands in the two files: before they are created the header can be refused, memory can run
  -- out, and a read can fail, that of the header or of the first record; and their creation can fail
  abbrev pub RunsAs : Result Summary RunFault → Type 0
  RunsAs (Err (fault.Refused (refusal.Header of))) = HasForm (before names.capture) (Err of) × (after ≡ before)
  RunsAs (Err fault.Read) = (after ≡ before) ⊎ RunsPartly
  RunsAs (Err fault.NoMemory) = (after ≡ before) ⊎ StopsBetween
  RunsAs (Err fault.Write) = IsCreatedInPart names before after ⊎ BreaksOff
  RunsAs answer = RunsRecords answer
