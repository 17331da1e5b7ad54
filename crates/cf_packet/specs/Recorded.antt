-- Which TCP segment the octets of a record are where a sending host may have made it, or why none: read_recorded. Such a host can leave the
-- sum of what it sends to its network card, as Linux does: the record then has the sum of the pseudo-header alone, not complemented.
-- RFC 9293, section 3.1, and RFC 1071, section 1; that it is taken is this project's own. All other tests are those of read_record.
use Rattle.std.specs.Prelude.{ℕ, ◌==◌, Bool, ◌||◌, not, if◌then◌else◌, List, length, Option, Some, None, Result, Ok, Err}
use Rattle.cf_view.specs.Octets.{u16_be_at}
use Rattle.cf_view.specs.declared.LinkKind.{LinkKind}
use Rattle.cf_packet.specs.Checksum.{ones_sum, words}
use Rattle.cf_packet.specs.Ipv4.{payload, header_refusal, source_address, destination_address, data_octets}
use Rattle.cf_packet.specs.Tcp.{is_bad, is_right_segment, pseudo_header}
use Rattle.cf_packet.specs.Packet.{PacketValue, fields_of}
use Rattle.cf_packet.specs.declared.packet.PacketRefusal.{PacketRefusal}
use Rattle.cf_packet.specs.declared.packet.PacketRefusal.TheVariants as refusal

-- the field Checksum
abbrev pub checksum_field : List ℕ → ℕ
checksum_field segment = u16_be_at segment 16

-- the checksum of a segment between two addresses is partial: its field has the sum of the pseudo-header alone
abbrev pub is_partial_segment : ℕ → ℕ → List ℕ → Bool
is_partial_segment source destination segment =
    checksum_field segment == ones_sum (words (pseudo_header source destination (length segment)))

-- the segment between two addresses, or the first test that it fails
abbrev pub recorded_segment : ℕ → ℕ → List ℕ → Result PacketValue PacketRefusal
recorded_segment source destination segment =
    if is_bad segment then Err refusal.BadTcp
    else if not (is_right_segment source destination segment || is_partial_segment source destination segment) then Err refusal.BadTcpSum
    else Ok (fields_of source destination segment)

-- the segment in a packet, or the first test that its header fails
abbrev pub recorded_after_header : List ℕ → Option PacketRefusal → Result PacketValue PacketRefusal
recorded_after_header packet (Some r) = Err r
recorded_after_header packet None = recorded_segment (source_address packet) (destination_address packet) (data_octets packet)

-- the packet in the octets of a record
abbrev pub recorded_payload : Option (List ℕ) → Result PacketValue PacketRefusal
recorded_payload None = Err refusal.NotIpv4
recorded_payload (Some packet) = recorded_after_header packet (header_refusal packet)

-- the segment in the octets of a record of this link type, or why there is none
abbrev pub read_recorded : LinkKind → List ℕ → Result PacketValue PacketRefusal
read_recorded link octets = recorded_payload (payload link octets)
