-- Which records a capture file has, and how they end: AreRecords, and AreTimed where each record has its moment. The records are
-- those of draft-ietf-opsawg-pcap, or the enhanced packets of draft-ietf-opsawg-pcapng; the order of the tests, moments and all
-- limits are this project's own.
use Rattle.std.specs.Prelude.{◌≡◌, ℕ, ◌+◌, ◌^◌, min, nat_lt, ◌==◌, Bool, if◌then◌else◌, List, [], ◌∷◌, length, drop, slice_range}
use Rattle.std.specs.Prelude.{Option, Some, None}
use Rattle.cf_view.specs.declared.LinkKind.{LinkKind}
use Rattle.cf_pcap.specs.Record.{captured_at, stamp_at}
use Rattle.cf_pcap.specs.declared.header.Header.{Header}
use Rattle.cf_pcap.specs.declared.record.TheConstants.{CAPTURED_LIMIT}
use Rattle.cf_pcapng.specs.Block.{Begins, Describes, Found, Holds, Is, Needs, Other, Refuses, block_at, size_at}
use Rattle.cf_pcapng.specs.Blocks.{after_found}
use Rattle.cf_pcapng.specs.Section.{Section}
use Rattle.cf_pcapng.specs.declared.block.TheConstants.{REFUSED_INTERFACE, REFUSED_LENGTH, REFUSED_RESOLUTION, REFUSED_SECTION}
use Rattle.cf_records.specs.declared.blocks.BlockRefusal.{BlockRefusal}
use Rattle.cf_records.specs.declared.blocks.BlockRefusal.TheVariants as block
use Rattle.cf_records.specs.declared.form.Form.{Form}
use Rattle.cf_records.specs.declared.form.Form.TheVariants as form

-- a record of a capture: its stamp in microseconds, what stands before its IPv4 packet, and its captured octets
pub record Record : Type 0 where
  pub stamp : ℕ
  pub link : LinkKind
  pub body : List ℕ

-- what stands at a place of a file
pub data AtPlace : Type 0 where
  -- the end of the file
  FileEnd : AtPlace
  -- a record, which takes so many octets
  Fits : Record → (used : ℕ) → AtPlace
  -- a block of so many octets that is no record
  Passes : (used : ℕ) → AtPlace
  -- the first test that a record or a block fails: its octets are not all there; its captured length is not allowed; a block is refused by
  -- another of its own tests; its moment reaches 2^32 seconds; or one of its octets stands at place 2^40 or above
  Cut : AtPlace
  TooLong : AtPlace
  Refused : BlockRefusal → AtPlace
  Clock : AtPlace
  Large : AtPlace

-- whether one of the first octets of those that follow this place, if they are there, stands at place 2^40 or above
abbrev pub is_past : ℕ → ℕ → List ℕ → Bool
is_past place count octets = nat_lt (2 ^ 40) (place + min count (length octets))

-- ---- a classic file

-- the tests of the record at a place, in their order, without that of its moment
abbrev pub classic_at : Header → ℕ → List ℕ → AtPlace
classic_at header place octets =
    let size = 16 + captured_at header octets in
    if length octets == 0 then FileEnd
    else if is_past place 16 octets then Large
    else if nat_lt (length octets) 16 then Cut
    else if nat_lt CAPTURED_LIMIT (captured_at header octets) then TooLong
    else if is_past place size octets then Large
    else if nat_lt (length octets) size then Cut
    else Fits (record { stamp = stamp_at header octets; link = header.link; body = slice_range octets 16 size }) size

-- ---- a pcapng file

-- a refusal of a block, by its number
abbrev pub refused_by : ℕ → AtPlace
refused_by number =
    if number == REFUSED_LENGTH then TooLong
    else if number == REFUSED_SECTION then Refused block.Section
    else if number == REFUSED_INTERFACE then Refused block.Interface
    else if number == REFUSED_RESOLUTION then Refused block.Resolution
    else Refused block.Block

-- what is found of a block that is refused or not whole, or a record, or a block that is passed over
abbrev pub by_block : Found → AtPlace
by_block (Needs count) = Cut
by_block (Refuses number) = refused_by number
by_block (Is (Holds packet) used) = Fits (record { stamp = packet.stamp; link = packet.link; body = packet.body }) used
by_block (Is (Begins big_endian) used) = Passes used
by_block (Is (Describes interface) used) = Passes used
by_block (Is Other used) = Passes used

-- the tests of its length, of the place of its octets, and the others
abbrev pub by_size : Found → ℕ → List ℕ → Found → AtPlace
by_size (Needs count) place octets found = Cut
by_size (Refuses number) place octets found = refused_by number
by_size (Is one used) place octets found = if is_past place used octets then Large else by_block found

-- the tests of the block at a place, after those of its section, in their order, without that of a packet's moment: its type and its
-- first length stand in its first eight octets
abbrev pub section_at : Section → ℕ → List ℕ → AtPlace
section_at section place octets =
    if length octets == 0 then FileEnd
    else if is_past place 8 octets then Large
    else by_size (size_at section octets) place octets (block_at section octets)

-- ---- both

-- what stands at a place of a file, in either form
abbrev pub at_place : Form → ℕ → List ℕ → AtPlace
at_place (form.Classic header) place octets = classic_at header place octets
at_place (form.Blocks section) place octets = section_at section place octets

-- the form as it is after what stands there: a block may begin a section, or describe an interface
abbrev pub form_behind : Form → List ℕ → Form
form_behind (form.Classic header) octets = form.Classic header
form_behind (form.Blocks section) octets = form.Blocks (after_found section (block_at section octets))

-- the end of the records of a file: the file's, or the first record or block that fails a test
pub record LastPlace : Type 0 where
  pub place : ℕ
  pub found : AtPlace

-- a place that ends the records: neither a record nor a block that is passed over
abbrev pub IsLast : AtPlace → Type 0
IsLast (Fits r used) = ⊥
IsLast (Passes used) = ⊥
IsLast found = Unit {0}

-- what follows each other in a file: records, and blocks that are none
abbrev pub ArePieces : (at : Form → ℕ → List ℕ → AtPlace) → Form → ℕ → List ℕ → List (Option Record) → LastPlace → Type 0
ArePieces at file_form place octets [] last = (last.place ≡ place) × (at file_form place octets ≡ last.found) × IsLast last.found
ArePieces at file_form place octets (Some r ∷ more) last =
    (used : ℕ) × (at file_form place octets ≡ Fits r used) × ArePieces at (form_behind file_form octets) (place + used) (drop used octets)
    more last
ArePieces at file_form place octets (None ∷ more) last =
    (used : ℕ) × (at file_form place octets ≡ Passes used) × ArePieces at (form_behind file_form octets) (place + used) (drop used octets)
    more last

-- the records among them
abbrev pub records_among : List (Option Record) → List Record
records_among [] = []
records_among (Some r ∷ more) = r ∷ records_among more
records_among (None ∷ more) = records_among more

-- the records in the octets, which stand at that place of a file of this form, up to the last place
abbrev pub AreRecords : Form → ℕ → List ℕ → List Record → LastPlace → Type 0
AreRecords file_form place octets records last =
    (pieces : List (Option Record)) × ArePieces at_place file_form place octets pieces last × (records ≡ records_among pieces)
