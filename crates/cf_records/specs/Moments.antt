-- The moments of a file's records: moments; and its records where each is tested with its moment: AreTimed.
use Rattle.std.specs.Prelude.{◌≡◌, ℕ, ◌+◌, max, nat_lt, if◌then◌else◌, List, [], ◌∷◌, drop, Option, Some, None}
use Rattle.cf_view.specs.Moment.{moment_limit}
use Rattle.cf_records.specs.Capture.{AtPlace, Clock, Cut, FileEnd, Fits, IsLast}
use Rattle.cf_records.specs.Capture.{Large, LastPlace, Passes, Record, Refused, TooLong, at_place}
use Rattle.cf_records.specs.Capture.{form_behind, records_among}
use Rattle.cf_records.specs.declared.form.Form.{Form}

-- the moment of a record, in microseconds: its stamp, and never earlier than a least one
abbrev pub moment_from : ℕ → Record → ℕ
moment_from least r = max r.stamp least

-- the least moment of a file's first record. That of each later one is 2 past the moment before
abbrev pub first_moment : ℕ
first_moment = 2

-- the moments of records whose first has a moment of at least so much
abbrev pub moments_from : ℕ → List Record → List ℕ
moments_from least [] = []
moments_from least (r ∷ rs) = moment_from least r ∷ moments_from (moment_from least r + 2) rs

-- the moments of a file's records
abbrev pub moments : List Record → List ℕ
moments rs = moments_from first_moment rs

-- the last test of a record: its moment is below 2^32 seconds
abbrev pub timed : ℕ → AtPlace → AtPlace
timed least (Fits r used) = if nat_lt (moment_from least r) moment_limit then Fits r used else Clock
timed least (Passes used) = Passes used
timed least FileEnd = FileEnd
timed least Cut = Cut
timed least TooLong = TooLong
timed least (Refused refusal) = Refused refusal
timed least Clock = Clock
timed least Large = Large

-- pieces as of ArePieces; the first record has a moment of at least so much, each later one a moment at least 2 past the one before, and
-- all pass the last test
abbrev pub AreTimedPieces : Form → (least place : ℕ) → List ℕ → List (Option Record) → LastPlace → Type 0
AreTimedPieces file_form least place octets [] last =
    (last.place ≡ place) × (timed least (at_place file_form place octets) ≡ last.found) × IsLast last.found
AreTimedPieces file_form least place octets (Some r ∷ more) last =
    (used : ℕ) × (timed least (at_place file_form place octets) ≡ Fits r used)
    × AreTimedPieces (form_behind file_form octets) (moment_from least r + 2) (place + used) (drop used octets) more last
AreTimedPieces file_form least place octets (None ∷ more) last =
    (used : ℕ) × (timed least (at_place file_form place octets) ≡ Passes used)
    × AreTimedPieces (form_behind file_form octets) least (place + used) (drop used octets) more last

-- the records, each tested with its moment, of which none is below the least one
abbrev pub AreTimed : Form → (least place : ℕ) → List ℕ → List Record → LastPlace → Type 0
AreTimed file_form least place octets records last =
    (pieces : List (Option Record)) × AreTimedPieces file_form least place octets pieces last × (records ≡ records_among pieces)
