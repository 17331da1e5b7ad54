-- Captures that are told and in form, which have records up to their end: HasRecordsIn, and HasTimedRecords where each has its moment; and
-- the captures of a recording: TellsAll and TellsFirst.
use Rattle.std.specs.Prelude.{◌≡◌, ℕ, List, [], ◌∷◌, drop, Ok}
use Rattle.cf_outside.specs.Files.{Content, holds}
use Rattle.cf_records.specs.Capture.{AreRecords, FileEnd, Record}
use Rattle.cf_records.specs.Form.{first_place, form_in, form_of}
use Rattle.cf_records.specs.Moments.{AreTimed, first_moment}
use Rattle.cf_records.specs.declared.Form.{Form}
use Rattle.cf_view.specs.declared.LinkSet.{LinkSet}
use Rattle.cf_view.specs.declared.LinkSet.TheVariants as set
use Rattle.cf_watch.specs.Recorded.{FirstWhere}

-- a capture's records, up to the end of its bytes; and the same where each has its moment
abbrev pub HasRecordsIn : LinkSet → List ℕ → Type 0
HasRecordsIn kinds bytes =
    (form : Form) × (form_in kinds bytes ≡ Ok form)
    × ((records : List Record) × (place : ℕ)
    × AreRecords form (first_place form) (drop (first_place form) bytes) records (record { place = place; found = FileEnd }))

-- the same of a capture of Ethernet or raw IP
abbrev pub HasRecordsToItsEnd : List ℕ → Type 0
HasRecordsToItsEnd bytes = HasRecordsIn set.Plain bytes

-- a capture each of whose records is tested with its moment
abbrev pub HasTimedRecords : List ℕ → Type 0
HasTimedRecords bytes =
    (form : Form) × (form_of bytes ≡ Ok form)
    × ((records : List Record) × (place : ℕ)
    × AreTimed form first_moment (first_place form) (drop (first_place form) bytes) records (record { place = place; found = FileEnd }))

-- ---- of a recording

-- a file is told, and is a capture of a recording that is in form
abbrev pub TellsRecords : Content → Type 0
TellsRecords file = (bytes : List ℕ) × (file ≡ holds bytes) × HasRecordsIn set.Recorded bytes

-- all of the captures are
abbrev pub TellsAll : (content : List ℕ → Content) → (captures : List (List ℕ)) → Type 0
TellsAll content [] = Unit {0}
TellsAll content (capture ∷ captures) = TellsRecords (content capture) × TellsAll content captures

-- one of them is this, and those before it are told and in form
abbrev pub TellsFirst : (This : Content → Type 0) → (content : List ℕ → Content) → (captures : List (List ℕ)) → Type 0
TellsFirst This content captures = FirstWhere TellsRecords This content captures
