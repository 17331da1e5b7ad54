-- Which header begins a capture file: header_of. draft-ietf-opsawg-pcap, section 4, from where the names come.
use Rattle.std.specs.Prelude.{ℕ, ◌==◌, nat_lt, not, Bool, true, false, ◌&&◌, ◌||◌, if◌then◌else◌, List, ◌++◌, length, Option, Some, None}
use Rattle.std.specs.Prelude.{Result, Ok, Err}
use Rattle.cf_view.specs.Octets.{u16_be_at, u16_le_at, u32_be_at, u32_le_at, u16_le_octets, u32_le_octets}
use Rattle.cf_view.specs.LinkTypes.{link_kind}
use Rattle.cf_view.specs.declared.LinkKind.{LinkKind}
use Rattle.cf_view.specs.declared.LinkKind.TheVariants as link
use Rattle.cf_view.specs.declared.LinkSet.{LinkSet}
use Rattle.cf_view.specs.declared.LinkSet.TheVariants as set
use Rattle.cf_pcap.specs.declared.header.Header.{Header}
use Rattle.cf_pcap.specs.declared.header.HeaderRefusal.{HeaderRefusal}
use Rattle.cf_pcap.specs.declared.header.HeaderRefusal.TheVariants as refusal
use Rattle.cf_pcap.specs.declared.header.TheConstants.{MICROSECONDS, NANOSECONDS}

-- the numbers of two and of four octets in a file's byte order
abbrev pub u16_at : Bool → List ℕ → ℕ → ℕ
u16_at big_endian octets i = if big_endian then u16_be_at octets i else u16_le_at octets i

-- the number of four octets at a place, in the byte order of the file
abbrev pub u32_at : Bool → List ℕ → ℕ → ℕ
u32_at big_endian octets i = if big_endian then u32_be_at octets i else u32_le_at octets i

-- the magic of a file whose fractions of a second are microseconds, or nanoseconds
abbrev pub is_magic : ℕ → Bool
is_magic n = (n == MICROSECONDS) || (n == NANOSECONDS)

-- the version is 2.4: the major one in octets 4 and 5, the minor one in octets 6 and 7
abbrev pub is_version : Bool → List ℕ → Bool
is_version big_endian octets = (u16_at big_endian octets 4 == 2) && (u16_at big_endian octets 6 == 4)

-- a header whose link type is one that is read, or is none
abbrev pub header_by : (big_endian nanos : Bool) → Option LinkKind → Result Header HeaderRefusal
header_by big_endian nanos (Some kind) = Ok (record { big_endian = big_endian; nanos = nanos; link = kind })
header_by big_endian nanos None = Err refusal.LinkType

-- what the fields of a header in this byte order say: the link type stands in octets 20 to 23
abbrev pub fields_of : LinkSet → Bool → List ℕ → Result Header HeaderRefusal
fields_of kinds big_endian octets =
    if not (is_version big_endian octets) then Err refusal.Version
    else header_by big_endian (u32_at big_endian octets 0 == NANOSECONDS) (link_kind kinds (u32_at big_endian octets 20))

-- the header that begins a file of one of these link types; the byte order in which its magic stands is that of the whole file
abbrev pub header_in : LinkSet → List ℕ → Result Header HeaderRefusal
header_in kinds octets =
    if nat_lt (length octets) 24 then Err refusal.Short
    else if is_magic (u32_be_at octets 0) then fields_of kinds true octets
    else if is_magic (u32_le_at octets 0) then fields_of kinds false octets
    else Err refusal.Magic

-- the header that begins a file of Ethernet or raw IP
abbrev pub header_of : List ℕ → Result Header HeaderRefusal
header_of octets = header_in set.Plain octets

-- the header of the files that are written: little-endian, microseconds, version 2.4, zone 0, accuracy 0, snap length
-- 262,144, raw IP. This project's own choice
abbrev pub output_header : Header
output_header = record { big_endian = false; nanos = false; link = link.RawIp }

-- the header of a file that is written: version 2.4, little-endian, microseconds, raw IP
abbrev pub output_octets : List ℕ
output_octets =
    u32_le_octets MICROSECONDS ++ u16_le_octets 2 ++ u16_le_octets 4 ++ u32_le_octets 0 ++ u32_le_octets 0
    ++ u32_le_octets 262144 ++ u32_le_octets 101
