-- Laws of the records of a capture file, `HaveOneList`, and of their moments, `HaveOneTimedList`, of either form.
use Rattle.std.specs.Prelude.{◌≡◌, ℕ, ◌+◌, ◌<◌, max, List, ◌∷◌, slice_get, Some}
use Rattle.cf_records.specs.Capture.{AreRecords, LastPlace, Record}
use Rattle.cf_records.specs.Moments.{AreTimed, first_moment, moments}
use Rattle.cf_records.specs.declared.form.Form.{Form}
use Rattle.cf_view.specs.Moment.{moment_limit}

-- octets at any place of a file have records and a last place
abbrev pub HaveRecords : Type 0
HaveRecords = (file_form : Form) (place : ℕ) (octets : List ℕ) → (rs : List Record) × (last : LastPlace)
    × AreRecords file_form place octets rs last

abbrev pub HaveTimedRecords : Type 0
HaveTimedRecords = (file_form : Form) (least place : ℕ) (octets : List ℕ) → (rs : List Record) × (last : LastPlace)
    × AreTimed file_form least place octets rs last

-- the records of a capture are one list, and no other
abbrev pub HaveOneList : Type 0
HaveOneList =
    (file_form : Form) (place : ℕ) (octets : List ℕ) (rs ss : List Record) (e g : LastPlace) →
    AreRecords file_form place octets rs e → AreRecords file_form place octets ss g → (rs ≡ ss) × (e ≡ g)

-- octets have one list of timed records, and one end
abbrev pub HaveOneTimedList : Type 0
HaveOneTimedList =
    (file_form : Form) (least place : ℕ) (octets : List ℕ) (rs ss : List Record) (e g : LastPlace) →
    AreTimed file_form least place octets rs e → AreTimed file_form least place octets ss g → (rs ≡ ss) × (e ≡ g)

-- the first moment is the later of the first stamp and 2
abbrev pub BeginAtTwo : Type 0
BeginAtTwo = (rs : List Record) (r : Record) → slice_get rs 0 ≡ Some r → slice_get (moments rs) 0 ≡ Some (max r.stamp 2)

-- each later moment is the later of its stamp and 2 past the moment before
abbrev pub GoOnByTwo : Type 0
GoOnByTwo =
    (rs : List Record) (k m : ℕ) (r : Record) →
    slice_get (moments rs) k ≡ Some m → slice_get rs (k + 1) ≡ Some r → slice_get (moments rs) (k + 1) ≡ Some (max r.stamp (m + 2))

-- the moments of a file's records are below 2^32 seconds
abbrev pub StayBelowTheLimit : Type 0
StayBelowTheLimit =
    (file_form : Form) (place : ℕ) (octets : List ℕ) (rs : List Record) (last : LastPlace) →
    AreTimed file_form first_moment place octets rs last →
    (k m : ℕ) → slice_get (moments rs) k ≡ Some m → m < moment_limit

-- no record stands after one whose stamp is the last microsecond below 2^32 seconds
abbrev pub NoneAfterTheLastMoment : Type 0
NoneAfterTheLastMoment =
    (file_form : Form) (place : ℕ) (octets : List ℕ) (r s : Record) (rs : List Record) (last : LastPlace) →
    AreTimed file_form first_moment place octets (r ∷ s ∷ rs) last → r.stamp + 1 < moment_limit
