-- The answer of a listing, as the answer of the command.
use Rattle.std.proofs.Common.{◌≡◌, ◌≢◌, ℕ, List, Option, Result, Ok, Err, refl, ap, subst, inl, inr}
use Rattle.cf_outside.specs.Faults.{Rose}
use Rattle.cf_outside.specs.Files.{Content}
use Rattle.cf_records.specs.Capture.{AtPlace, Large, LastPlace, Record, Refused, TooLong}
use Rattle.cf_records.specs.Reader.{HasFormIn, OpensAs}
use Rattle.cf_view.specs.declared.LinkSet.{LinkSet}
use Rattle.cf_view.specs.declared.LinkSet.TheVariants as set
use Rattle.cf_records.specs.declared.BlockRefusal.{BlockRefusal}
use Rattle.cf_records.specs.declared.BlockRefusal.TheVariants as block
use Rattle.cf_records.specs.declared.Form.{Form}
use Rattle.cf_records.specs.declared.FormRefusal.{FormRefusal}
use Rattle.cf_records.specs.declared.FormRefusal.TheVariants as form
use Rattle.cf_records.specs.declared.record_reader.OpenFault.{OpenFault}
use Rattle.cf_records.specs.declared.record_reader.OpenFault.TheVariants as opened
use Rattle.cf_watch.specs.Watch.{EndsAt as IsWatchedUpTo, FailsAs}
use Rattle.cf_watch.specs.declared.WatchFault.{WatchFault}
use Rattle.cf_watch.specs.declared.WatchFault.TheVariants as fault
use Rattle.cf_watch.specs.declared.WatchRefusal.TheVariants as watch
use Rattle.cf_ending.specs.Captures.{EndsAt, EndsIn, EndsSomewhere, RefusesIn, block_refusal, form_refusal}
use Rattle.cf_words.specs.Command.{Command, Packets}
use Rattle.cf_box.specs.Ends.{CutsCapture, Meets, PassesPolicy, RefusesCapture, StopsFor}
use Rattle.cf_ending.specs.Outside.{Outside, ReadFailed, ReadsOnly}
use Rattle.cf_box.specs.Packets.{HasListed, HasListedRecords, ListsFile, open_stop}
use Rattle.cf_box.specs.Watching.{WatchCuts, WatchRefuses, fault_stop}
use Rattle.cf_ending.specs.declared.CaptureRefusal.{CaptureRefusal}
use Rattle.cf_ending.specs.declared.CaptureRefusal.TheVariants as refusal
use Rattle.cf_ending.specs.declared.Done.{Done}
use Rattle.cf_ending.specs.declared.Stop.{Stop}
use Rattle.cf_ending.specs.declared.Stop.TheVariants as stop
use Rattle.cf_box.proofs.Reading.{since_read}

-- a header that is refused refuses the capture, and so does a block
pub form_refuses : (kinds : LinkSet) (Has : Content → Form → List Record → LastPlace → Type 0) (file : Content) (of : FormRefusal) →
    HasFormIn kinds file (Err of) → RefusesIn kinds Has file (form_refusal of)
form_refuses kinds Has file form.Section h = inl h
form_refuses kinds Has file _ h = h

pub block_refuses : (kinds : LinkSet) (Has : Content → Form → List Record → LastPlace → Type 0) (file : Content) (of : BlockRefusal) →
    EndsSomewhere kinds Has file (Refused of) → RefusesIn kinds Has file (block_refusal of)
block_refuses kinds Has file block.Section h = inr h
block_refuses kinds Has file _ h = h

-- where a watched capture ends, a listing ends too
pub listed : (kinds : LinkSet) (file : Content) (found : AtPlace) (place : ℕ) → IsWatchedUpTo kinds file found place → EndsIn kinds HasListedRecords file found place
listed kinds file found place e = record { form = e.form; has_form = e.has_form; records = e.records; are_records = e.are_records }

-- where the records of a listing end so
pub listed_to : {file : Content} {old now : Option (List ℕ)} {failed : Type 0} {answer : Result Done Stop} (found : AtPlace) (l : HasListed file old now failed answer) → l.last.found ≡ found →
    EndsAt HasListedRecords file found l.last.place
listed_to {file} found l is = record {
  form = l.form;
  has_form = l.has_form;
  records = l.records;
  are_records = subst (λ f. HasListedRecords file l.form l.records (record { place = l.last.place; found = f })) is l.are_records;
}

-- by no moment, and by no place
pub form_apart : (of : FormRefusal) → (form_refusal of ≢ refusal.Clock) × (form_refusal of ≢ refusal.Large)
form_apart form.Short = ((λ e. cc e), (λ e. cc e))
form_apart _ = ((λ e. cc e), (λ e. cc e))

pub block_apart : (of : BlockRefusal) → (block_refusal of ≢ refusal.Clock) × (block_refusal of ≢ refusal.Large)
block_apart block.Block = ((λ e. cc e), (λ e. cc e))
block_apart _ = ((λ e. cc e), (λ e. cc e))

module _ (file : List ℕ) (before after : Outside) (content : after.files.content ≡ before.files.content) (pair : after.pair ≡ before.pair) where
  abbrev capture : Content
  capture = before.files.content file

  -- a listing reads no policy
  passes_none : PassesPolicy (Packets file) before
  passes_none = record { policy = λ file e. cc e; other = λ file e. cc e; asset = λ other name e f. cc e }

  stops : (s : Stop) → (s ≡ stop.ReadFault → Rose (before.files.read_faults file) (after.files.read_faults file)) → ListsFile capture before.sink after.sink (Err s) → StopsFor (Packets file) before after s
  stops stop.ReadFault read l = inl (read refl)
  stops stop.WriteFault read l = (inr l.answers.0, passes_none)
  stops (stop.CaptureRefused refusal.TooLong) read l = (((l.last.place, listed_to TooLong l l.answers.0), λ e. cc e), passes_none)
  stops (stop.CaptureRefused refusal.Large) read l = (((l.last.place, listed_to Large l l.answers.0), λ e. cc e), passes_none)
  stops (stop.CaptureRefused refusal.Block) read l = (((l.last.place, listed_to (Refused block.Block) l l.answers.0), λ e. cc e), passes_none)
  stops (stop.CaptureRefused refusal.Section) read l = ((inr (l.last.place, listed_to (Refused block.Section) l l.answers.0), λ e. cc e), passes_none)
  stops (stop.CaptureRefused refusal.Interface) read l = (((l.last.place, listed_to (Refused block.Interface) l l.answers.0), λ e. cc e), passes_none)
  stops (stop.CaptureRefused refusal.Resolution) read l = (((l.last.place, listed_to (Refused block.Resolution) l l.answers.0), λ e. cc e), passes_none)
  stops (stop.CaptureCut place) read l = (
    record { form = l.form; has_form = l.has_form; records = l.records; are_records = subst (HasListedRecords capture l.form l.records) l.answers.0 l.are_records },
    passes_none,
  )
  stops (stop.CaptureRefused why) read l = absurd l.answers
  stops s read l = absurd l.answers

  pub listing_meets : (r : Result Done Stop) → (r ≡ Err stop.ReadFault → Rose (before.files.read_faults file) (after.files.read_faults file)) → ListsFile capture before.sink after.sink r → Meets (Packets file) before after r
  listing_meets (Ok d) read l = record { lists = l; content = content; pair = pair }
  listing_meets (Err s) read l = (stops s (λ e. read (ap Err e)) l, record { lines = inr l; content = content; pair = pair })

  -- the capture was not opened
  unopened : (fault : OpenFault) → (fault ≡ opened.Read → Rose (before.files.read_faults file) (after.files.read_faults file)) → OpensAs capture (Err fault) → StopsFor (Packets file) before after (open_stop fault)
  unopened opened.NoMemory read h = tt
  unopened opened.Read read h = inl (read refl)
  unopened (opened.Refused of) read h = ((form_refuses set.Plain HasListedRecords capture of h, (form_apart of).0), passes_none)

  pub closed_meets : (fault : OpenFault) → (fault ≡ opened.Read → Rose (before.files.read_faults file) (after.files.read_faults file)) → OpensAs capture (Err fault) → after.sink ≡ before.sink → Meets (Packets file) before after (Err (open_stop fault))
  closed_meets fault read h same = (
    unopened fault read h,
    record { lines = inl (record { fault = fault; opens = h; stops = refl; sink = same }); content = content; pair = pair },
  )

-- ---- a capture that is not watched to its end

-- that is no failed write
pub not_a_write : (f : WatchFault) → fault_stop f ≢ stop.WriteFault
not_a_write (fault.Refused watch.Long) e = cc e
not_a_write _ e = cc e

-- it is why a command stops that reads the capture after its policy
module _ (c : Command) (before after : Outside) (capture : List ℕ) (refuses : (r : CaptureRefusal) → WatchRefuses (before.files.content capture) r → RefusesCapture c before r)
    (cuts : (place : ℕ) → WatchCuts (before.files.content capture) place → CutsCapture c before place)
    (reads : Rose (before.files.read_faults capture) (after.files.read_faults capture) → ReadFailed c before after) (passes : PassesPolicy c before) where
  unwatched_by : (f : WatchFault) → (f ≡ fault.Read → Rose (before.files.read_faults capture) (after.files.read_faults capture)) → FailsAs set.Plain (before.files.content capture) f → StopsFor c before after (fault_stop f)
  unwatched_by fault.NoMemory read w = tt
  unwatched_by fault.Read read w = reads (read refl)
  unwatched_by (fault.Cut place) read w = (cuts place w, passes)
  unwatched_by (fault.Refused watch.Long) read w = (refuses refusal.Long (inl (refl, w)), passes)
  unwatched_by (fault.Refused watch.Large) read w = absurd w
  unwatched_by (fault.Refused watch.TooLong) read w =
      (refuses refusal.TooLong (inr (record { short = w.1.short; refuses = ((w.0, listed set.Plain _ TooLong w.0 w.1), λ e. cc e); no_large = λ e. cc e })), passes)
  unwatched_by (fault.Refused (watch.Header of)) read w =
      let refused = form_refuses set.Plain HasListedRecords (before.files.content capture) of w.1 in
      (refuses (form_refusal of) (inr (record { short = w.0; refuses = (refused, (form_apart of).0); no_large = (form_apart of).1 })), passes)
  unwatched_by (fault.Refused (watch.Block of)) read w =
      let refused = block_refuses set.Plain HasListedRecords (before.files.content capture) of (w.0, listed set.Plain _ (Refused of) w.0 w.1) in
      (refuses (block_refusal of) (inr (record { short = w.1.short; refuses = (refused, (block_apart of).0); no_large = (block_apart of).1 })), passes)

  pub unwatched : {names : List (List ℕ)} (middle : Outside) → ReadsOnly names before.files middle.files → (f : WatchFault) →
      (f ≡ fault.Read → Rose (middle.files.read_faults capture) (after.files.read_faults capture)) →
      FailsAs set.Plain (middle.files.content capture) f → StopsFor c before after (fault_stop f)
  unwatched middle only f read w =
      unwatched_by f (λ e. since_read before.files middle.files after.files only capture (read e)) (subst (λ k. FailsAs set.Plain (k capture) f) only.content w)
