-- What octets of a capture file say about the record that they begin: record_of. draft-ietf-opsawg-pcap, section 5; that
-- a record has at most so many captured octets is this project's own.
use Rattle.std.specs.Prelude.{ℕ, ◌≤◌, ◌+◌, ◌*◌, ◌/◌, ◌%◌, nat_lt, if◌then◌else◌, List, ◌++◌, length, slice_range}
use Rattle.cf_view.specs.Octets.{u32_le_octets}
use Rattle.cf_pcap.specs.declared.header.Header.{Header}
use Rattle.cf_pcap.specs.declared.record.RecordAnswer.{RecordAnswer}
use Rattle.cf_pcap.specs.declared.record.RecordAnswer.TheVariants as answer
use Rattle.cf_pcap.specs.declared.record.TheConstants.{CAPTURED_LIMIT}
use Rattle.cf_pcap.specs.Header.{u32_at}

-- what a contract sees of the answer about a record
pub data RecordAnswerValue : Type 0 where
  -- a record: its stamp in microseconds, its captured octets, and its own length
  Whole : (stamp : ℕ) (body : List ℕ) (used : ℕ) → RecordAnswerValue
  -- fewer octets than so many, which are the 16 of the head, or else those of the record
  Need : ℕ → RecordAnswerValue
  -- a captured length that is not allowed
  TooLong : RecordAnswerValue

abbrev pub record_answer_value : RecordAnswer → RecordAnswerValue
record_answer_value (answer.Whole stamp body used) = Whole stamp body.now used
record_answer_value (answer.Need size) = Need size
record_answer_value answer.TooLong = TooLong

-- the stamp in microseconds; a fraction of a second or more is added as it stands
abbrev pub stamp_at : Header → List ℕ → ℕ
stamp_at header octets =
    let fraction = u32_at header.big_endian octets 4 in
    u32_at header.big_endian octets 0 * 1000000 + (if header.nanos then fraction / 1000 else fraction)

-- the captured length
abbrev pub captured_at : Header → List ℕ → ℕ
captured_at header octets = u32_at header.big_endian octets 8

-- the answer about the record that begins the octets
abbrev pub record_of : Header → List ℕ → RecordAnswerValue
record_of header octets =
    let size = 16 + captured_at header octets in
    if nat_lt (length octets) 16 then Need 16
    else if nat_lt CAPTURED_LIMIT (captured_at header octets) then TooLong
    else if nat_lt (length octets) size then Need size
    else Whole (stamp_at header octets) (slice_range octets 16 size) size

-- a record takes its head and no more than the octets that are there
abbrev pub IsInside : RecordAnswerValue → ℕ → Type 0
IsInside (Whole stamp body used) count = (16 ≤ used) × (used ≤ count)
IsInside other count = Unit {0}

-- the head of a record that is written, at a moment in microseconds: both its lengths are that of its octets
abbrev pub head_octets : ℕ → ℕ → List ℕ
head_octets moment length =
    u32_le_octets (moment / 1000000) ++ u32_le_octets (moment % 1000000) ++ u32_le_octets length ++ u32_le_octets length
