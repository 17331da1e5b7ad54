-- Steps of the proof: what is read at one place of a file: `FindsPiece`.
use Rattle.std.specs.Prelude.{◌≡◌, ℕ, ◌+◌, ◌^◌, ◌<◌, ◌≤◌, false, List, drop, length, slice_range, Result, Ok, Err}
use Rattle.cf_outside.specs.Files.{Content, untold, absent, holds}
use Rattle.cf_pcap.specs.Record.{captured_at}
use Rattle.cf_pcap.specs.declared.header.Header.{Header}
use Rattle.cf_pcapng.specs.Block.{Is, Other, size_at}
use Rattle.cf_pcapng.specs.Section.{Section}
use Rattle.cf_records.specs.Capture.{AtPlace, Cut, FileEnd, Fits, Large, Passes}
use Rattle.cf_records.specs.Capture.{Refused, TooLong, at_place, classic_at, form_behind}
use Rattle.cf_records.specs.Capture.{is_past, section_at}
use Rattle.cf_records.specs.Reader.{PassesTo}
use Rattle.cf_records.specs.declared.form.Form.{Form}
use Rattle.cf_records.specs.declared.record_reader.NextRecord.{NextRecord}
use Rattle.cf_records.specs.declared.record_reader.NextRecord.TheVariants as next
use Rattle.cf_records.specs.declared.record_reader.Piece.{Piece}
use Rattle.cf_records.specs.declared.record_reader.Piece.TheVariants as piece

-- an answer that is no record says what stands there
abbrev pub EndsAs : NextRecord → AtPlace → Type 0
EndsAs next.End found = found ≡ FileEnd
EndsAs next.Cut found = found ≡ Cut
EndsAs next.TooLong found = found ≡ TooLong
EndsAs (next.Refused refusal) found = found ≡ Refused refusal
EndsAs next.Large found = found ≡ Large
EndsAs next.Failed found = ⊥
EndsAs (next.Whole stamp) found = ⊥

-- a piece says what stands at a place of octets, and the form is then what it is after it; a failed read leaves it as it was
abbrev pub PieceAs : (old : Form) → ℕ → List ℕ → (new : Form) → (buffer : List ℕ) → Piece → Type 0
PieceAs old place octets new buffer (piece.Record stamp link from to used) =
    (at_place old place octets ≡ Fits (record { stamp = stamp; link = link; body = slice_range buffer from to }) used)
    × (new ≡ form_behind old octets)
PieceAs old place octets new buffer (piece.Passed used) = (at_place old place octets ≡ Passes used) × (new ≡ form_behind old octets)
PieceAs old place octets new buffer (piece.Ends answer) = EndsAs answer (at_place old place octets) × (new ≡ old)

-- the piece that stands next in a file, as far as it is told
abbrev pub FindsPiece : Content → (old : Form) → ℕ → (new : Form) → (buffer : List ℕ) → Piece → Type 0
FindsPiece untold old place new buffer found = Unit {0}
FindsPiece absent old place new buffer found = found ≡ piece.Ends next.Failed
FindsPiece (holds all) old place new buffer (piece.Ends next.Failed) = new ≡ old
FindsPiece (holds all) old place new buffer found = PieceAs old place (drop place all) new buffer found

-- blocks are passed over, and then this piece stands there, which is none of them
abbrev pub IsBehind : List ℕ → (old : Form) → (from : ℕ) → (new : Form) → (to : ℕ) → (buffer : List ℕ) → Piece → Type 0
IsBehind all old from new to buffer (piece.Record stamp link at end used) =
    (count : ℕ) × (file_form : Form) × PassesTo all count old from file_form to
    × (at_place file_form to (drop to all) ≡ Fits (record { stamp = stamp; link = link; body = slice_range buffer at end }) used)
    × (new ≡ form_behind file_form (drop to all))
IsBehind all old from new to buffer (piece.Passed used) = ⊥
IsBehind all old from new to buffer (piece.Ends next.Failed) = (count : ℕ) × PassesTo all count old from new to
IsBehind all old from new to buffer (piece.Ends answer) =
    (count : ℕ) × PassesTo all count old from new to × EndsAs answer (at_place new to (drop to all))

abbrev pub FindsBehind : Content → (old : Form) → (from : ℕ) → (new : Form) → (to : ℕ) → (buffer : List ℕ) → Piece → Type 0
FindsBehind untold old from new to buffer found = Unit {0}
FindsBehind absent old from new to buffer found = found ≡ piece.Ends next.Failed
FindsBehind (holds all) old from new to buffer found = IsBehind all old from new to buffer found

-- an answer that is no record
abbrev pub IsNoRecord : NextRecord → Type 0
IsNoRecord (next.Whole stamp) = ⊥
IsNoRecord next.End = Unit {0}
IsNoRecord next.Cut = Unit {0}
IsNoRecord next.TooLong = Unit {0}
IsNoRecord (next.Refused refusal) = Unit {0}
IsNoRecord next.Large = Unit {0}
IsNoRecord next.Failed = Unit {0}

-- the way on behind a record
abbrev pub IsPastRecord : NextRecord → (from to : ℕ) → Type 0
IsPastRecord (next.Whole stamp) from to = from < to
IsPastRecord next.End from to = from ≤ to
IsPastRecord next.Cut from to = from ≤ to
IsPastRecord next.TooLong from to = from ≤ to
IsPastRecord (next.Refused refusal) from to = from ≤ to
IsPastRecord next.Large from to = from ≤ to
IsPastRecord next.Failed from to = from ≤ to

-- a piece stands in the buffer and below place 2^40
abbrev pub IsPieceInside : ℕ → ℕ → Piece → Type 0
IsPieceInside place room (piece.Record stamp link from to used) = (from ≤ to) × (to ≤ room) × (0 < used) × (place + used ≤ 2 ^ 40)
IsPieceInside place room (piece.Passed used) = (0 < used) × (place + used ≤ 2 ^ 40)
IsPieceInside place room (piece.Ends answer) = IsNoRecord answer

-- ---- a classic file: what the head of a record says of the octets at a place

pub record HeadFits (header : Header) (place : ℕ) (octets : List ℕ) (size : ℕ) : Type 0 where
  pub long : 16 ≤ length octets
  pub told : size ≡ 16 + captured_at header octets
  pub allowed : size ≤ 262160
  pub near : is_past place 16 octets ≡ false

abbrev pub HeadAs : Header → ℕ → List ℕ → Result ℕ NextRecord → Type 0
HeadAs header place octets (Ok size) = HeadFits header place octets size
HeadAs header place octets (Err answer) = EndsAs answer (classic_at header place octets)

-- ---- a pcapng file: what the first octets of a block say

pub record SizeFits (section : Section) (place : ℕ) (octets : List ℕ) (size : ℕ) : Type 0 where
  pub some : 0 < length octets
  pub near : is_past place 8 octets ≡ false
  pub told : size_at section octets ≡ Is Other size

abbrev pub SizeAs : Section → ℕ → List ℕ → Result ℕ NextRecord → Type 0
SizeAs section place octets (Ok size) = SizeFits section place octets size
SizeAs section place octets (Err answer) = EndsAs answer (section_at section place octets)
