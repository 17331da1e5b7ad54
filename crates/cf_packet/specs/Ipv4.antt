-- The header of an IPv4 packet, and the first test that it fails: header_refusal. RFC 791, section 3.1.
use Rattle.std.specs.Prelude.{ℕ, ◌*◌, ◌/◌, ◌%◌, ◌==◌, nat_lt, not, Bool, ◌&&◌, ◌||◌, if◌then◌else◌, List, length, take, drop, slice_index}
use Rattle.std.specs.Prelude.{slice_range, Option, Some, None}
use Rattle.cf_view.specs.Octets.{u16_be_at, u32_be_at}
use Rattle.cf_view.specs.declared.LinkKind.{LinkKind}
use Rattle.cf_view.specs.declared.LinkKind.TheVariants as link
use Rattle.cf_packet.specs.Checksum.{is_right}
use Rattle.cf_packet.specs.declared.packet.PacketRefusal.{PacketRefusal}
use Rattle.cf_packet.specs.declared.packet.PacketRefusal.TheVariants as refusal

-- what stands after a header of so many octets, if the type at this place of it is that of IPv4
abbrev pub typed_payload : (type_at size : ℕ) → List ℕ → Option (List ℕ)
typed_payload type_at size octets =
    if nat_lt (length octets) size then None
    else if u16_be_at octets type_at == 0x0800 then Some (drop size octets)
    else None

-- the packet in the octets of a record: after the header of Ethernet (RFC 894), or that of LINKTYPE_LINUX_SLL or LINKTYPE_LINUX_SLL2
-- (tcpdump.org's list of link types), with its type in it
abbrev pub payload : LinkKind → List ℕ → Option (List ℕ)
payload link.Ethernet octets = typed_payload 12 14 octets
payload link.RawIp octets = Some octets
payload link.LinuxCooked octets = typed_payload 14 16 octets
payload link.LinuxCooked2 octets = typed_payload 0 20 octets

-- the field Version
abbrev pub version : List ℕ → ℕ
version packet = slice_index packet 0 / 16

-- the internet header length, in words of four octets, and in octets
abbrev pub ihl : List ℕ → ℕ
ihl packet = slice_index packet 0 % 16

-- the length of the header in octets, by the field IHL
abbrev pub header_length : List ℕ → ℕ
header_length packet = ihl packet * 4

-- the field Total Length, in octets
abbrev pub total_length : List ℕ → ℕ
total_length packet = u16_be_at packet 2

-- the third of the three flags, and the 13 bits after them
abbrev pub more_fragments : List ℕ → ℕ
more_fragments packet = u16_be_at packet 6 / 8192 % 2

-- the field Fragment Offset, in units of eight octets
abbrev pub fragment_offset : List ℕ → ℕ
fragment_offset packet = u16_be_at packet 6 % 8192

-- the field Protocol
abbrev pub protocol : List ℕ → ℕ
protocol packet = slice_index packet 9

-- the field Source Address
abbrev pub source_address : List ℕ → ℕ
source_address packet = u32_be_at packet 12

-- the field Destination Address
abbrev pub destination_address : List ℕ → ℕ
destination_address packet = u32_be_at packet 16

-- the data: octets past the total length are padding
abbrev pub data_octets : List ℕ → List ℕ
data_octets packet = slice_range packet (header_length packet) (total_length packet)

-- the tests, in their order; this order is this project's own
abbrev pub is_other_version : List ℕ → Bool
is_other_version packet = nat_lt 0 (length packet) && not (version packet == 4)

-- fewer octets than a header has, or than the header says
abbrev pub is_short : List ℕ → Bool
is_short packet =
    nat_lt (length packet) 20 || (nat_lt (length packet) (header_length packet) || nat_lt (length packet) (total_length packet))

-- the header says that it is shorter than 20 octets, or longer than the packet
abbrev pub is_bad_header : List ℕ → Bool
is_bad_header packet = nat_lt (ihl packet) 5 || nat_lt (total_length packet) (header_length packet)

-- the packet is a fragment of a datagram
abbrev pub is_fragment : List ℕ → Bool
is_fragment packet = not (more_fragments packet == 0) || not (fragment_offset packet == 0)

-- the first test that the header fails, if it fails one
abbrev pub header_refusal : List ℕ → Option PacketRefusal
header_refusal packet =
    if is_other_version packet then Some refusal.NotIpv4
    else if is_short packet then Some refusal.Short
    else if is_bad_header packet then Some refusal.BadHeader
    else if not (is_right (take (header_length packet) packet)) then Some refusal.BadHeaderSum
    else if is_fragment packet then Some refusal.Fragment
    else if not (protocol packet == 6) then Some refusal.NotTcp
    else None
