-- What a reader of a capture file finds: OpensAs and FindsRecord.
use Rattle.std.specs.Prelude.{◌≡◌, ℕ, zero, suc, ◌+◌, List, drop, Result, Ok, Err}
use Rattle.cf_outside.specs.Files.{Content, untold, absent, holds}
use Rattle.cf_view.specs.declared.LinkKind.{LinkKind}
use Rattle.cf_view.specs.declared.LinkSet.{LinkSet}
use Rattle.cf_view.specs.declared.LinkSet.TheVariants as set
use Rattle.cf_records.specs.Capture.{AtPlace, Cut, FileEnd, Fits, Large, Passes, Refused, TooLong, at_place, form_behind}
use Rattle.cf_records.specs.Form.{first_place, form_in}
use Rattle.cf_records.specs.declared.form.Form.{Form}
use Rattle.cf_records.specs.declared.form.FormRefusal.{FormRefusal}
use Rattle.cf_records.specs.declared.record_reader.NextRecord.{NextRecord}
use Rattle.cf_records.specs.declared.record_reader.NextRecord.TheVariants as next
use Rattle.cf_records.specs.declared.record_reader.OpenFault.{OpenFault}
use Rattle.cf_records.specs.declared.record_reader.OpenFault.TheVariants as fault

-- what a contract sees of a `RecordReader`: the form of its file as its octets so far tell it, where the next record or block begins,
-- and the link kind and the captured octets of the last record
pub record ReaderValue : Type 0 where
  pub form : Form
  pub place : ℕ
  pub link : LinkKind
  pub body : List ℕ

-- the file has this form where these link types are read, or is refused, as far as it is told
abbrev pub HasFormIn : LinkSet → Content → Result Form FormRefusal → Type 0
HasFormIn kinds untold answer = Unit {0}
HasFormIn kinds absent answer = ⊥
HasFormIn kinds (holds all) answer = form_in kinds all ≡ answer

-- the same where Ethernet and raw IP are read
abbrev pub HasForm : Content → Result Form FormRefusal → Type 0
HasForm file answer = HasFormIn set.Plain file answer

-- what opening a file answers where these link types are read
abbrev pub OpensIn : LinkSet → Content → Result ReaderValue OpenFault → Type 0
OpensIn kinds file (Ok reader) = HasFormIn kinds file (Ok reader.form) × (reader.place ≡ first_place reader.form)
OpensIn kinds file (Err (fault.Refused refusal)) = HasFormIn kinds file (Err refusal)
OpensIn kinds file (Err fault.Read) = Unit {0}
OpensIn kinds file (Err fault.NoMemory) = Unit {0}

-- the same where Ethernet and raw IP are read
abbrev pub OpensAs : Content → Result ReaderValue OpenFault → Type 0
OpensAs file answer = OpensIn set.Plain file answer

module _ (all : List ℕ) where
  -- from one place of these octets to another there are only so many blocks that are passed over
  abbrev pub PassesTo : (count : ℕ) → (old : Form) → (from : ℕ) → (new : Form) → (to : ℕ) → Type 0
  PassesTo zero old from new to = (new ≡ old) × (to ≡ from)
  PassesTo (suc count) old from new to =
      (used : ℕ) × (at_place old from (drop from all) ≡ Passes used) × PassesTo count (form_behind old (drop from all)) (from + used) new to

  -- a reader passes blocks over, and then this stands where it is
  abbrev pub StopsAt : (old new : ReaderValue) → AtPlace → Type 0
  StopsAt old new found =
      (count : ℕ) × PassesTo count old.form old.place new.form new.place × (at_place new.form new.place (drop new.place all) ≡ found)

  -- what it finds is what stands there; after a record it goes on
  abbrev pub Finds : (old new : ReaderValue) → NextRecord → Type 0
  Finds old new (next.Whole stamp) =
      (count : ℕ) × (file_form : Form) × (place : ℕ) × (used : ℕ) × PassesTo count old.form old.place file_form place
      × (at_place file_form place (drop place all) ≡ Fits (record { stamp = stamp; link = new.link; body = new.body }) used)
      × (new.form ≡ form_behind file_form (drop place all)) × (new.place ≡ place + used)
  Finds old new next.End = StopsAt old new FileEnd
  Finds old new next.Cut = StopsAt old new Cut
  Finds old new next.TooLong = StopsAt old new TooLong
  Finds old new (next.Refused refusal) = StopsAt old new (Refused refusal)
  Finds old new next.Large = StopsAt old new Large
  Finds old new next.Failed = (count : ℕ) × PassesTo count old.form old.place new.form new.place

-- the record that comes next of a file, as far as it is told; of one that is absent nothing is read
abbrev pub FindsRecord : Content → (old new : ReaderValue) → NextRecord → Type 0
FindsRecord untold old new answer = Unit {0}
FindsRecord absent old new answer = answer ≡ next.Failed
FindsRecord (holds all) old new answer = Finds all old new answer

-- a stretch of a file, as far as it is told, that only blocks stand in that are passed over
abbrev pub PassesSome : Content → (old : Form) → (from : ℕ) → (new : Form) → (to : ℕ) → Type 0
PassesSome untold old from new to = Unit {0}
PassesSome absent old from new to = Unit {0}
PassesSome (holds all) old from new to = (count : ℕ) × PassesTo all count old from new to
