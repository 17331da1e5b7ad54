-- The header of a TCP segment: its fields, is_right_segment and mss_of. RFC 9293, sections 3.1 and 3.2.
use Rattle.std.specs.Prelude.{ℕ, zero, suc, ◌*◌, ◌/◌, ◌%◌, ◌==◌, nat_lt, Bool, ◌&&◌, ◌||◌, if◌then◌else◌, List, ◌∷◌, ◌++◌, length, drop}
use Rattle.std.specs.Prelude.{slice_index, slice_range, Option, Some, None}
use Rattle.cf_view.specs.Octets.{u16_be_at, u32_be_at, u16_be_octets, u32_be_octets}
use Rattle.cf_packet.specs.Checksum.{is_right}

-- the field Source Port
abbrev pub source_port : List ℕ → ℕ
source_port segment = u16_be_at segment 0

-- the field Destination Port
abbrev pub destination_port : List ℕ → ℕ
destination_port segment = u16_be_at segment 2

-- the field Sequence Number
abbrev pub sequence_number : List ℕ → ℕ
sequence_number segment = u32_be_at segment 4

-- the field Acknowledgment Number
abbrev pub acknowledgment_number : List ℕ → ℕ
acknowledgment_number segment = u32_be_at segment 8

-- the data offset, in words of four octets, and in octets
abbrev pub data_offset : List ℕ → ℕ
data_offset segment = slice_index segment 12 / 16

-- the place at which the text begins, by the field Data Offset
abbrev pub text_at : List ℕ → ℕ
text_at segment = data_offset segment * 4

-- the control bits FIN, SYN, RST, PSH, ACK and URG, the lowest first
abbrev pub control_bits : List ℕ → ℕ
control_bits segment = slice_index segment 13 % 64

-- the field Window
abbrev pub window_field : List ℕ → ℕ
window_field segment = u16_be_at segment 14

-- the octets of the options
abbrev pub options : List ℕ → List ℕ
options segment = slice_range segment 20 (text_at segment)

-- the octets of the text
abbrev pub text_octets : List ℕ → List ℕ
text_octets segment = drop (text_at segment) segment

-- the header is not whole, or its data offset is below 5 or past the segment
abbrev pub is_bad : List ℕ → Bool
is_bad segment =
    nat_lt (length segment) 20 || (nat_lt (data_offset segment) 5 || nat_lt (length segment) (text_at segment))

-- the pseudo-header: source, destination, a zero octet, the protocol 6 and the length of the segment
abbrev pub pseudo_header : ℕ → ℕ → ℕ → List ℕ
pseudo_header source destination length =
    u32_be_octets source ++ u32_be_octets destination ++ 0 ∷ 6 ∷ u16_be_octets length

-- the checksum of a segment between two addresses is right
abbrev pub is_right_segment : ℕ → ℕ → List ℕ → Bool
is_right_segment source destination segment = is_right (pseudo_header source destination (length segment) ++ segment)

-- the length of the option that begins octets, if one does: kind 0 ends the list, kind 1 is one octet, and every other
-- kind has a length that counts both its octets. One below 2 or past the header ends the list: this project's own
abbrev pub option_length : List ℕ → Option ℕ
option_length octets =
    let size = slice_index octets 1 in
    if length octets == 0 then None
    else if slice_index octets 0 == 0 then None
    else if slice_index octets 0 == 1 then Some 1
    else if nat_lt (length octets) 2 || (nat_lt size 2 || nat_lt (length octets) size) then None
    else Some size

-- the option of that length that begins octets is a maximum segment size: kind 2 with length 4
abbrev pub is_mss : ℕ → List ℕ → Bool
is_mss size octets = (slice_index octets 0 == 2) && (size == 4)

-- the first maximum segment size in a list of at most so many options
abbrev pub first_mss : ℕ → List ℕ → Option ℕ
first_mss zero octets = None
first_mss (suc n) octets = elim (option_length octets) as (λ _. Option ℕ) [
  | None ↦ None
  | Some size ↦ if is_mss size octets then Some (u16_be_at octets 2) else first_mss n (drop size octets)
]

-- the maximum segment size that options state: the first one counts, and each option has an octet
abbrev pub mss_of : List ℕ → Option ℕ
mss_of octets = first_mss (length octets) octets
