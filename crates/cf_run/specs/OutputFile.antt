-- The packets of a capture file as it is written: file_packets. draft-ietf-opsawg-pcap; the settings are this project's own.
use Rattle.std.specs.Prelude.{◌≡◌, ◌<◌, ℕ, ◌&&◌, Bool, true, Option, None, Some, List, [], ◌++◌, if◌then◌else◌, length, take, drop}
use Rattle.std.specs.Prelude.{bytes_eq}
use Rattle.cf_pcap.specs.Header.{output_header, output_octets}
use Rattle.cf_pcap.specs.Record.{RecordAnswerValue, Whole, Need, TooLong, record_of, head_octets}
use Rattle.cf_outside.specs.Desk.{SentValue}
use Rattle.cf_outside.specs.Files.{Content, untold, absent, holds}
use Rattle.cf_outside.specs.Lines.{is_nothing}
use Rattle.cf_run.specs.Items.{items_from, part_from}

-- the record of a packet, as it is written
abbrev pub record_octets : SentValue → List ℕ
record_octets sent = head_octets sent.moment (length sent.bytes) ++ sent.bytes

-- a packet, where its record is these octets: a record whose original length is not that of its octets is none that is written
abbrev pub packet_spelled : List ℕ → SentValue → Option SentValue
packet_spelled octets sent = if bytes_eq octets (record_octets sent) then Some sent else None

abbrev pub packet_by : List ℕ → RecordAnswerValue → Option SentValue
packet_by octets (Whole stamp body used) = packet_spelled octets (record { moment = stamp; bytes = body })
packet_by octets (Need size) = None
packet_by octets TooLong = None

-- the packet of one whole record that is written, and its moment
abbrev pub packet_in : List ℕ → Option SentValue
packet_in octets = packet_by octets (record_of output_header octets)

-- octets that are one whole record, and no beginning of which is one
pub record IsRecord (octets : List ℕ) (sent : SentValue) : Type 0 where
  pub some : 0 < length octets
  pub whole : packet_in octets ≡ Some sent
  pub first : (count : ℕ) → count < length octets → packet_in (take count octets) ≡ None

-- the file begins with the header
abbrev pub has_header : List ℕ → Bool
has_header all = bytes_eq (take 24 all) output_octets

-- the packets of a file, where it is told and begins with the header
abbrev pub file_packets : Content → Option (List SentValue)
file_packets untold = None
file_packets absent = None
file_packets (holds all) = if has_header all then Some (items_from packet_in [] (drop 24 all)) else None

-- what stands after its last whole record, as far as it is told
abbrev pub packet_part : Content → List ℕ
packet_part untold = []
packet_part absent = []
packet_part (holds all) = part_from packet_in [] (drop 24 all)

-- a file has a header and whole records alone, as far as it is told
abbrev pub ends_with_record : Content → Bool
ends_with_record untold = true
ends_with_record absent = true
ends_with_record (holds all) = has_header all && is_nothing (part_from packet_in [] (drop 24 all))
