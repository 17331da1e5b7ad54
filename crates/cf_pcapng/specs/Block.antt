-- What stands at the front of octets of a section: block_at, by the first of ten tests that applies. The blocks are those of
-- draft-ietf-opsawg-pcapng, sections 3.1 and 4.1 to 4.3; the order of the tests and all limits are this project's own.
use Rattle.std.specs.Prelude.{ℕ, ◌+◌, ◌-◌, ◌*◌, ◌%◌, ◌==◌, ◌&&◌, ◌||◌, not, nat_lt, Bool, false, if◌then◌else◌, List, [], ◌∷◌, ◌++◌, length}
use Rattle.std.specs.Prelude.{is_some, slice_get, slice_range, unwrap_or, Option, Some, None}
use Rattle.cf_view.specs.LinkTypes.{link_kind}
use Rattle.cf_view.specs.Octets.{u32_be_at}
use Rattle.cf_view.specs.declared.LinkKind.{LinkKind}
use Rattle.cf_view.specs.declared.LinkKind.TheVariants as link
use Rattle.cf_view.specs.declared.LinkSet.{LinkSet}
use Rattle.cf_pcap.specs.Header.{u16_at, u32_at}
use Rattle.cf_pcap.specs.declared.record.TheConstants.{CAPTURED_LIMIT}
use Rattle.cf_pcapng.specs.declared.block.BlockKind.{BlockKind}
use Rattle.cf_pcapng.specs.declared.block.BlockKind.TheVariants as kind
use Rattle.cf_pcapng.specs.declared.block.Interface.{Interface}
use Rattle.cf_pcapng.specs.declared.block.TheConstants.{BLOCK_LIMIT, BYTE_ORDER, ENHANCED_PACKET, INTERFACE_DESCRIPTION, INTERFACE_LIMIT}
use Rattle.cf_pcapng.specs.declared.block.TheConstants.{REFUSED_BLOCK, REFUSED_INTERFACE, REFUSED_LENGTH, REFUSED_RESOLUTION}
use Rattle.cf_pcapng.specs.declared.block.TheConstants.{REFUSED_SECTION, SECTION_HEADER}
use Rattle.cf_pcapng.specs.Options.{options_of, padded, resolution_of}
use Rattle.cf_pcapng.specs.Section.{Section}
use Rattle.cf_pcapng.specs.Time.{stamp_of}

-- a packet: its stamp in microseconds, what stands before its IPv4 packet, and its captured octets
pub record Packet : Type 0 where
  pub stamp : ℕ
  pub link : LinkKind
  pub body : List ℕ

-- what a block says
pub data Block : Type 0 where
  -- a section begins, in this byte order
  Begins : (big_endian : Bool) → Block
  -- the next interface of the section
  Describes : Interface → Block
  -- an enhanced packet
  Holds : Packet → Block
  -- nothing that is read
  Other : Block

-- what stands at the front of octets
pub data Found : Type 0 where
  -- a block, of so many octets
  Is : Block → (used : ℕ) → Found
  -- fewer octets than so many
  Needs : ℕ → Found
  -- a block that is refused, by this number
  Refuses : ℕ → Found

-- ---- the fields of a block: its type, its length, its body, and its length again; the length counts all of it

-- the octets begin with the type of a section header, which reads the same in both byte orders
unfoldable pub is_section : List ℕ → Bool
is_section octets = nat_lt 3 (length octets) && (u32_be_at octets 0 == SECTION_HEADER)

-- the byte order of a block is that of its section. A section header has that in which its magic stands, for all its fields
unfoldable pub order_at : Bool → List ℕ → Bool
order_at big_endian octets = if is_section octets then nat_lt 11 (length octets) && (u32_be_at octets 8 == BYTE_ORDER) else big_endian

module _ (big_endian : Bool) (octets : List ℕ) where
  -- the kind of the block, by its type
  unfoldable pub kind_at : BlockKind
  kind_at =
      if is_section octets then kind.Section
      else if u32_at big_endian octets 0 == INTERFACE_DESCRIPTION then kind.Interface
      else if u32_at big_endian octets 0 == ENHANCED_PACKET then kind.Packet
      else kind.Other

  -- its first Block Total Length
  unfoldable pub length_at : ℕ
  length_at = u32_at big_endian octets 4

  -- the second length differs from the first
  unfoldable pub differs : Bool
  differs = not (u32_at big_endian octets (length_at - 4) == length_at)

  -- a section header has another magic, or another major version than 1
  unfoldable pub is_wrong_section : Bool
  is_wrong_section = is_section octets && not ((u32_at big_endian octets 8 == BYTE_ORDER) && (u16_at big_endian octets 12 == 1))

  -- an interface description: its link type, and its options after octet 16
  unfoldable pub interface_at : Interface
  interface_at = record {
    link = u16_at big_endian octets 8;
    resolution = resolution_of (options_of big_endian (slice_range octets 16 (length_at - 4)));
  }

  -- an enhanced packet: its interface, the high and the low half of its time, its captured length
  unfoldable pub number_at : ℕ
  number_at = u32_at big_endian octets 8

  -- the timestamp of an enhanced packet, in the units of its interface
  unfoldable pub ticks_at : ℕ
  ticks_at = u32_at big_endian octets 12 * 4294967296 + u32_at big_endian octets 16

  -- the Captured Packet Length of an enhanced packet
  unfoldable pub captured_at : ℕ
  captured_at = u32_at big_endian octets 20

-- the octets that tell the length of a block: those of a section header reach to its options
unfoldable pub least_told : List ℕ → ℕ
least_told octets = if is_section octets then 28 else 12

-- the least length of a block of its type
abbrev pub least_length : BlockKind → ℕ
least_length kind.Section = 28
least_length kind.Interface = 20
least_length kind.Packet = 32
least_length kind.Other = 12

-- whole groups of four octets, and neither too many nor too few for a block of its type
unfoldable pub is_allowed : ℕ → BlockKind → Bool
is_allowed size of_kind = (size % 4 == 0) && not (nat_lt BLOCK_LIMIT size) && not (nat_lt size (least_length of_kind))

-- the link type of an interface is one that is read
abbrev pub is_served : LinkSet → Option Interface → Bool
is_served kinds None = false
is_served kinds (Some interface) = is_some (link_kind kinds interface.link)

-- the link type of an interface, raw IP where there is none that is read
abbrev pub link_of : LinkSet → Option Interface → LinkKind
link_of kinds None = link.RawIp
link_of kinds (Some interface) = unwrap_or (link_kind kinds interface.link) link.RawIp

-- the unit of time of an interface, a power of ten down to nanoseconds: an octet above 9 has its top bit set, or stands for a smaller unit
abbrev pub unit_of : Option Interface → ℕ
unit_of None = 6
unit_of (Some interface) = interface.resolution

-- ---- the tests

-- the first test that applies decides
abbrev pub first_that_applies : List (Bool × Found) → Found → Found
first_that_applies [] otherwise = otherwise
first_that_applies (test ∷ tests) otherwise = if test.0 then test.1 else first_that_applies tests otherwise

-- the first three, which few octets decide
abbrev pub first_tests : Bool → List ℕ → List (Bool × Found)
first_tests big_endian octets =
    (nat_lt (length octets) (least_told octets), Needs (least_told octets))
    ∷ (is_wrong_section big_endian octets, Refuses REFUSED_SECTION)
    ∷ (not (is_allowed (length_at big_endian octets) (kind_at big_endian octets)), Refuses REFUSED_BLOCK)
    ∷ []

-- the interface of a packet, if it is described
abbrev pub described_at : List Interface → Bool → List ℕ → Option Interface
described_at interfaces big_endian octets = slice_get interfaces (number_at big_endian octets)

module _ (kinds : LinkSet) (interfaces : List Interface) (big_endian : Bool) (octets : List ℕ) where
  abbrev described : Option Interface
  described = described_at interfaces big_endian octets

  -- the last five: an interface is one too many; a packet's interface is not described, or its link type is not read; its captured length
  -- is too great; its bytes do not fit; its unit of time is not read
  abbrev pub last_tests : BlockKind → List (Bool × Found)
  last_tests kind.Section = []
  last_tests kind.Interface = (not (nat_lt (length interfaces) INTERFACE_LIMIT), Refuses REFUSED_INTERFACE) ∷ []
  last_tests kind.Packet =
      (not (is_served kinds described), Refuses REFUSED_INTERFACE)
      ∷ (nat_lt CAPTURED_LIMIT (captured_at big_endian octets), Refuses REFUSED_LENGTH)
      ∷ (nat_lt (length_at big_endian octets) (32 + padded (captured_at big_endian octets)), Refuses REFUSED_BLOCK)
      ∷ (nat_lt 9 (unit_of described), Refuses REFUSED_RESOLUTION)
      ∷ []
  last_tests kind.Other = []

  -- all ten, in their order
  abbrev pub tests : List (Bool × Found)
  tests =
      first_tests big_endian octets
      ++ (nat_lt (length octets) (length_at big_endian octets), Needs (length_at big_endian octets))
      ∷ (differs big_endian octets, Refuses REFUSED_BLOCK)
      ∷ last_tests (kind_at big_endian octets)

  -- what a block says that none refuses
  abbrev pub meaning_of : BlockKind → Block
  meaning_of kind.Section = Begins big_endian
  meaning_of kind.Interface = Describes (interface_at big_endian octets)
  meaning_of kind.Packet = Holds (record {
    stamp = stamp_of (unit_of described) (ticks_at big_endian octets);
    link = link_of kinds described;
    body = slice_range octets 28 (28 + captured_at big_endian octets);
  })
  meaning_of kind.Other = Other

  -- what stands at the front of octets in this byte order
  unfoldable pub block_in : Found
  block_in = first_that_applies tests (Is (meaning_of (kind_at big_endian octets)) (length_at big_endian octets))

  -- the last five tests of a block of a kind
  abbrev pub last_of : BlockKind → Found
  last_of of_kind = first_that_applies (last_tests of_kind) (Is (meaning_of of_kind) (length_at big_endian octets))

-- what stands at the front of octets of a section
abbrev pub block_at : Section → List ℕ → Found
block_at section octets = block_in section.kinds section.interfaces (order_at section.big_endian octets) octets

-- the first three tests alone: how many octets the block has
unfoldable pub size_in : Bool → List ℕ → Found
size_in big_endian octets = first_that_applies (first_tests big_endian octets) (Is Other (length_at big_endian octets))

-- the tests of the length alone, in the byte order of the block
abbrev pub size_at : Section → List ℕ → Found
size_at section octets = size_in (order_at section.big_endian octets) octets
