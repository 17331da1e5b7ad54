-- The captures of a command, read one behind the other.
use Rattle.std.proofs.Common.{◌≡◌, ◌≤◌, ℕ, List, [], ◌∷◌, ◌++◌, map, length, reverse, Result, Ok, Err, refl, sym, ap, subst, ◌∙◌, inl, inr, arith, append_assoc}
use Rattle.std.proofs.lemmas.List.{append-nil, reverse-append, reverse-reverse}
use Rattle.std.specs.Prelude.{IfErr, OnOk}
use Rattle.cf_outside.specs.Faults.{HasCauseIn, Rose}
use Rattle.cf_outside.specs.Files.{Content}
use Rattle.cf_policy.specs.declared.Asset.{Asset}
use Rattle.cf_records.specs.Capture.{AtPlace, Cut, Large, Record, Refused, TooLong}
use Rattle.cf_view.specs.declared.LinkSet.TheVariants as set
use Rattle.cf_watch.specs.FlowValue.{FlowValue, StretchValue}
use Rattle.cf_watch.specs.Recorded.{HasRecording, HaveRecords, IsCaptureOf, IsReadTo, IsRecordingOf, IsWhole, UnreadAs}
use Rattle.cf_watch.specs.Recorder.{IsRecorderFor, IsRecorderOf}
use Rattle.cf_watch.specs.declared.Recorder.{Recorder}
use Rattle.cf_watch.specs.declared.Scope.TheVariants as scope
use Rattle.cf_watch.specs.declared.WatchFault.{WatchFault}
use Rattle.cf_watch.specs.declared.WatchFault.TheVariants as fault
use Rattle.cf_watch.specs.declared.WatchRefusal.TheVariants as watch
use Rattle.cf_ending.specs.Captures.{EndsIn}
use Rattle.cf_ending.specs.Outside.{FilesValue, ReadsOnly, RoseIn}
use Rattle.cf_ending.specs.declared.Stop.{Stop}
use Rattle.cf_ending.specs.declared.Stop.TheVariants as stop
use Rattle.cf_box.specs.Packets.{HasListedRecords}
use Rattle.cf_box.specs.Recording.{CapturesCut, CapturesRefuse, StopsReading}
use Rattle.cf_box.specs.Watching.{fault_stop}
use Rattle.cf_box.proofs.CaptureStops.{block_apart, block_refuses, form_apart, form_refuses}
use Rattle.cf_box.proofs.Reading.{rises_front, rises_one, rises_then}

-- ---- what was read

pub rose_since : (names : List (List ℕ)) (old mid new : List ℕ → ℕ) → ((n : List ℕ) → old n ≤ mid n) → RoseIn names mid new → RoseIn names old new
rose_since [] old mid new later rose = rose
rose_since (name ∷ names) old mid new later (inl rose) = let a = later name in inl (omega (arith, a, rose))
rose_since (name ∷ names) old mid new later (inr rose) = inr (rose_since names old mid new later rose)

-- none was
pub reads_none : (names : List (List ℕ)) (before : FilesValue) → ReadsOnly names before before
reads_none names before = record { content = refl; reads = record { later = λ n. omega arith; others = λ other n. refl }; writes = refl }

-- one was
pub reads_capture : {failed : Type 0} (name : List ℕ) (before after : FilesValue) → after.content ≡ before.content → HasCauseIn name before.read_faults after.read_faults failed →
    after.write_faults ≡ before.write_faults → ReadsOnly (name ∷ []) before after
reads_capture name before after content cause writes = record { content = content; reads = rises_one name before.read_faults after.read_faults cause; writes = writes }

-- ---- a capture that is not read to its end

read_listed : (file : Content) (found : AtPlace) (place : ℕ) → IsReadTo set.Recorded file found place → EndsIn set.Recorded HasListedRecords file found place
read_listed file found place e = record { form = e.form; has_form = e.has_form; records = e.records; are_records = e.are_records }

module _ (capture : List ℕ) (names : List (List ℕ)) (before after : FilesValue) where
  pub unread : (f : WatchFault) → (f ≡ fault.Read → Rose (before.read_faults capture) (after.read_faults capture)) → UnreadAs (before.content capture) f →
      StopsReading (capture ∷ names) before after (fault_stop f)
  unread fault.NoMemory read w = tt
  unread fault.Read read w = inl (read refl)
  unread (fault.Cut place) read w = inl (read_listed (before.content capture) Cut place w)
  unread (fault.Refused watch.Long) read w = let none = w.0 in cc
  unread (fault.Refused watch.Large) read w = inl ((w.1.0, read_listed (before.content capture) Large w.1.0 w.1.1), λ e. cc e)
  unread (fault.Refused watch.TooLong) read w = inl ((w.0, read_listed (before.content capture) TooLong w.0 w.1), λ e. cc e)
  unread (fault.Refused (watch.Header of)) read w = inl (form_refuses set.Recorded HasListedRecords (before.content capture) of w, (form_apart of).0)
  unread (fault.Refused (watch.Block of)) read w =
      inl (block_refuses set.Recorded HasListedRecords (before.content capture) of (w.0, read_listed (before.content capture) (Refused of) w.0 w.1), (block_apart of).0)

-- ---- the first of some, and then the others

module _ (name : List ℕ) (names : List (List ℕ)) (before middle : FilesValue) (first : ReadsOnly (name ∷ []) before middle) where
  -- the first alone was read
  pub reads_front : ReadsOnly (name ∷ names) before middle
  reads_front = record { content = first.content; reads = rises_front name names before.read_faults middle.read_faults first.reads; writes = first.writes }

  module _ (after : FilesValue) (second : ReadsOnly names middle after) where
    pub reads_more : ReadsOnly (name ∷ names) before after
    reads_more = record {
      content = second.content ∙ first.content;
      reads = rises_then name names before.read_faults middle.read_faults after.read_faults first.reads second.reads;
      writes = second.writes ∙ first.writes;
    }

    -- the first was read to its end, and they were not
    pub stops_later : IsWhole (before.content name) → (s : Stop) → StopsReading names middle after s → StopsReading (name ∷ names) before after s
    stops_later whole stop.ReadFault rose = inr (rose_since names before.read_faults middle.read_faults after.read_faults first.reads.later rose)
    stops_later whole (stop.CaptureRefused r) c = inr (whole, subst (λ f. CapturesRefuse f names r) first.content c)
    stops_later whole (stop.CaptureCut place) c = inr (whole, subst (λ f. CapturesCut f names place) first.content c)
    stops_later whole stop.NoMemory c = tt
    stops_later whole s c = absurd c

-- by who takes records, of whom it is said which it took, the newest first
module _ {H : Type 0} (has : List Record → H → Type 0) where
  -- records that were taken behind others
  abbrev pub TakesBehind : (old new : H) → List Record → Type 0
  TakesBehind old new records = (earlier : List Record) → has earlier old → has (reverse records ++ earlier) new

  -- of captures of these names
  abbrev pub TakesAll : (content : List ℕ → Content) → (captures : List (List ℕ)) → (old new : H) → Type 0
  TakesAll content captures old new = (records : List Record) × HaveRecords content captures records × TakesBehind old new records

  -- of a capture
  abbrev pub TakesOne : Content → (old new : H) → Type 0
  TakesOne file old new = (records : List Record) × IsCaptureOf file records × TakesBehind old new records

  -- the same, with the newest first
  abbrev pub TakesNewest : Content → (old new : H) → Type 0
  TakesNewest file old new = (newest : List Record) × IsCaptureOf file (reverse newest) × ((earlier : List Record) → has earlier old → has (newest ++ earlier) new)

  pub one_taken : {T E : Type 0} (r : Result T E) (file : Content) (old new : H) → OnOk r (TakesNewest file old new) → OnOk r (TakesOne file old new)
  one_taken (Ok done) file old new taken = (reverse taken.0, taken.1, λ earlier is. subst (λ rs. has (rs ++ earlier) new) (sym (reverse-reverse taken.0)) (taken.2 earlier is))
  one_taken (Err fault) file old new taken = tt

  -- so some were taken
  pub heard_where : {T E : Type 0} (r : Result T E) (file : Content) (old new : H) → ((newest : List Record) × has newest old) → OnOk r (TakesNewest file old new) →
      OnOk r ((newest : List Record) × has newest new)
  heard_where (Ok done) file old new before taken = (taken.0 ++ before.0, taken.2 before.0 before.1)
  heard_where (Err fault) file old new before taken = tt

  takes_none : (content : List ℕ → Content) (old : H) → TakesAll content [] old old
  takes_none content old = ([], refl, λ earlier is. is)

  takes_then : (content : List ℕ → Content) (name : List ℕ) (names : List (List ℕ)) (old mid new : H) → TakesOne (content name) old mid → TakesAll content names mid new →
      TakesAll content (name ∷ names) old new
  takes_then content name names old mid new first later =
      let both : reverse (first.0 ++ later.0) ≡ reverse later.0 ++ reverse first.0 = reverse-append first.0 later.0 in (
        first.0 ++ later.0,
        (first.0, later.0, first.1, later.1, refl),
        λ earlier is.
            subst (λ rs. has rs new) (sym (append_assoc (reverse later.0) (reverse first.0) earlier) ∙ ap (λ rs. rs ++ earlier) (sym both))
            (later.2 (reverse first.0 ++ earlier) (first.2 earlier is)),
      )

  pub word_none : {W : Type 0} (bytes : W → List ℕ) (words : List W) → length words ≡ 0 → (content : List ℕ → Content) (old : H) → TakesAll content (map bytes words) old old
  word_none bytes [] is content old = takes_none content old
  word_none bytes (word ∷ words) is content old = absurd (omega (arith, is))

  -- all that were taken by who took none before, the newest first
  pub all_taken : (content : List ℕ → Content) (captures : List (List ℕ)) (old new : H) → has [] old → (takes : TakesAll content captures old new) → has (reverse takes.0) new
  all_taken content captures old new none takes = subst (λ rs. has rs new) (append-nil (reverse takes.0)) (takes.2 [] none)

-- ---- words that name them

-- the first of the words names the file that was read, and the others the rest
module _ {W : Type 0} (bytes : W → List ℕ) (words rest : List W) (word : W) (is : words ≡ word ∷ rest) (name : List ℕ) (same : name ≡ bytes word) (before middle : FilesValue)
    (first : ReadsOnly (name ∷ []) before middle) where
  front : name ∷ map bytes rest ≡ map bytes words
  front = ap (λ n. n ∷ map bytes rest) same ∙ sym (ap (map bytes) is)

  pub word_front : ReadsOnly (map bytes words) before middle
  word_front = subst (λ ns. ReadsOnly ns before middle) front (reads_front name (map bytes rest) before middle first)

  pub word_unread : (f : WatchFault) → (f ≡ fault.Read → Rose (before.read_faults name) (middle.read_faults name)) → UnreadAs (before.content name) f →
      StopsReading (map bytes words) before middle (fault_stop f)
  word_unread f read w = subst (λ ns. StopsReading ns before middle (fault_stop f)) front (unread name (map bytes rest) before middle f read w)

  module _ (after : FilesValue) (second : ReadsOnly (map bytes rest) middle after) where
    pub word_more : ReadsOnly (map bytes words) before after
    word_more = subst (λ ns. ReadsOnly ns before after) front (reads_more name (map bytes rest) before middle first after second)

    pub word_stops : {T : Type 0} (r : Result T Stop) → IsWhole (before.content name) → IfErr r (StopsReading (map bytes rest) middle after) →
        IfErr r (StopsReading (map bytes words) before after)
    word_stops (Ok v) whole stops = stops
    word_stops (Err s) whole stops = subst (λ ns. StopsReading ns before after s) front (stops_later name (map bytes rest) before middle first after second whole s stops)

  pub word_takes : {H T : Type 0} (has : List Record → H → Type 0) (r : Result T Stop) (old mid new : H) → TakesOne has (before.content name) old mid →
      OnOk r (TakesAll has middle.content (map bytes rest) mid new) → OnOk r (TakesAll has before.content (map bytes words) old new)
  word_takes has (Ok v) old mid new read later =
      subst (λ ns. TakesAll has before.content ns old new) front
      (takes_then has before.content name (map bytes rest) old mid new read (subst (λ f. TakesAll has f (map bytes rest) mid new) first.content later))
  word_takes has (Err s) old mid new read later = later

-- what all that was taken shows
pub is_recording : (assets : List Asset) (content : List ℕ → Content) (captures : List (List ℕ)) (old new : Recorder) (flows : List FlowValue) (stretches : List StretchValue) (stamps : List ℕ) →
    IsRecorderOf assets [] old → TakesAll (IsRecorderFor scope.Recording assets) content captures old new →
    ((records : List Record) → IsRecorderOf assets records new → IsRecordingOf assets records flows stretches stamps) → HasRecording assets content captures flows stretches stamps
is_recording assets content captures old new flows stretches stamps none takes shows =
    record { records = takes.0; have = takes.1; shows = shows takes.0 (all_taken (IsRecorderFor scope.Recording assets) content captures old new none takes) }
