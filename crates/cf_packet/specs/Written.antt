-- The octets of a packet that is written: packet_octets. RFC 791 and RFC 9293, with this project's own settings: service
-- octet 0, identification 0, don't-fragment set, TTL 64, no IP options, urgent pointer 0, and no TCP option but a
-- maximum segment size.
use Rattle.std.specs.Prelude.{◌≡◌, ℕ, ◌+◌, ◌*◌, ◌^◌, ◌<◌, ◌≤◌, List, [], ◌∷◌, ◌++◌, length, Option, Some, None, OnSome}
use Rattle.cf_view.specs.Octets.{IsOctets, u16_be_octets, u32_be_octets}
use Rattle.cf_packet.specs.Checksum.{checksum_of}
use Rattle.cf_packet.specs.Tcp.{pseudo_header}
use Rattle.cf_packet.specs.Packet.{PacketValue}

-- the fields are in the ranges of their types
pub record HasRanges (p : PacketValue) : Type 0 where
  pub source_address : p.source.address < 2 ^ 32
  pub source_port : p.source.port < 65536
  pub dest_address : p.dest.address < 2 ^ 32
  pub dest_port : p.dest.port < 65536
  pub seq : p.seq < 2 ^ 32
  pub ack : p.ack < 2 ^ 32
  pub window : p.window < 65536
  pub mss : (m : ℕ) → p.mss ≡ Some m → m < 65536
  pub text : IsOctets p.text

-- the options, and their length in words of four octets
abbrev pub option_octets : Option ℕ → List ℕ
option_octets None = []
option_octets (Some mss) = 2 ∷ 4 ∷ u16_be_octets mss

-- the words of four octets that the options take
abbrev pub option_words : Option ℕ → ℕ
option_words None = 0
option_words (Some mss) = 1

-- the length of the segment
abbrev pub segment_length : PacketValue → ℕ
segment_length p = 20 + 4 * option_words p.mss + length p.text

-- the header of the segment, and the segment, with this in the checksum field
abbrev pub segment_header : ℕ → PacketValue → List ℕ
segment_header checksum p =
    u16_be_octets p.source.port ++ u16_be_octets p.dest.port ++ u32_be_octets p.seq ++ u32_be_octets p.ack
    ++ (5 + option_words p.mss) * 16 ∷ p.flags ∷ u16_be_octets p.window ++ u16_be_octets checksum ++ u16_be_octets 0
    ++ option_octets p.mss

-- the octets of a segment with this checksum
abbrev pub segment_with : ℕ → PacketValue → List ℕ
segment_with checksum p = segment_header checksum p ++ p.text

-- the header with this in its checksum field
abbrev pub header_with : ℕ → PacketValue → List ℕ
header_with checksum p =
    0x45 ∷ 0 ∷ u16_be_octets (20 + segment_length p) ++ u16_be_octets 0 ++ u16_be_octets 0x4000 ++ 64 ∷ 6 ∷ u16_be_octets checksum
    ++ u32_be_octets p.source.address ++ u32_be_octets p.dest.address

-- the two checksums
abbrev pub segment_checksum : PacketValue → ℕ
segment_checksum p =
    checksum_of (pseudo_header p.source.address p.dest.address (segment_length p) ++ segment_with 0 p)

-- the checksum of the IPv4 header
abbrev pub header_checksum : PacketValue → ℕ
header_checksum p = checksum_of (header_with 0 p)

-- the octets of a packet, with both checksums
abbrev pub packet_octets : PacketValue → List ℕ
packet_octets p = header_with (header_checksum p) p ++ segment_with (segment_checksum p) p

-- a packet that may be written: at most 1,460 octets of text, none beside a maximum segment size, and no bit but the
-- six flags
pub record IsWritable (p : PacketValue) : Type 0 where
  pub short : length p.text ≤ 1460
  pub bare : OnSome p.mss (length p.text ≡ 0)
  pub flags : p.flags < 64
