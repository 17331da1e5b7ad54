-- The numbers that a format, a document or this project fixes and that definitions cite by the names of the code's constants: HasNumbers,
-- read from the end. A constant that only its own crate can name is fixed by what its definition then says. What is read and kept at most
-- stands in `Limits`.
use Rattle.std.specs.Prelude.{◌≡◌, ◌≢◌, ◌<◌, ◌≤◌, ◌⊎◌, ◌*◌, ◌+◌, min, List, length, IsPermutation, IsSorted}
use Rattle.cf_audit.specs.declared.line.TheConstants.{NAME_LIMIT}
use Rattle.cf_compare.specs.Cells.{cells_of, code_cells, sum_below}
use Rattle.cf_compare.specs.declared.count.TheConstants.{MOST_CELLS}
use Rattle.cf_learn.specs.Greatest.{IsFullBefore}
use Rattle.cf_learn.specs.Rules.{MakesTooMany, Part, learned_rules, seen_cmp}
use Rattle.cf_learn.specs.declared.Seen.{Seen}
use Rattle.cf_pcap.specs.declared.header.TheConstants.{MICROSECONDS, NANOSECONDS}
use Rattle.cf_pcapng.specs.declared.block.TheConstants.{BYTE_ORDER, ENHANCED_PACKET, INTERFACE_DESCRIPTION, SECTION_HEADER}
use Rattle.cf_pcapng.specs.declared.block.TheConstants.{REFUSED_BLOCK, REFUSED_INTERFACE, REFUSED_LENGTH, REFUSED_RESOLUTION}
use Rattle.cf_pcapng.specs.declared.block.TheConstants.{REFUSED_SECTION}
use Rattle.cf_policy.specs.Site.{SiteValue, assets_of}
use Rattle.cf_policy.specs.declared.Asset.{Asset}
use Rattle.cf_policy.specs.declared.Protocol.TheVariants as protocol
use Rattle.cf_relay.specs.Reading.{most_back}
use Rattle.cf_relay.specs.declared.directions.Directions.TheVariants as both
use Rattle.cf_relay.specs.declared.limit.TheConstants.{MOST_BYTES}
use Rattle.cf_review.specs.declared.remark.TheConstants.{SHOWN}

-- the magics of a pcap file, of microseconds and of nanoseconds: draft-ietf-opsawg-pcap, section 4
pub record HasMagics : Type 0 where
  pub microseconds : MICROSECONDS ≡ 0xa1b2c3d4
  pub nanoseconds : NANOSECONDS ≡ 0xa1b23c4d

-- the types of blocks of a pcapng file and the magic of its byte order: draft-ietf-opsawg-pcapng, sections 4.1 to 4.3
pub record HasBlockTypes : Type 0 where
  pub section : SECTION_HEADER ≡ 0x0a0d0d0a
  pub byte_order : BYTE_ORDER ≡ 0x1a2b3c4d
  pub interface : INTERFACE_DESCRIPTION ≡ 1
  pub packet : ENHANCED_PACKET ≡ 6

-- the number by which a block is refused, which is that of the refusal of its capture
pub record HasBlockRefusals : Type 0 where
  pub length : REFUSED_LENGTH ≡ 5
  pub block : REFUSED_BLOCK ≡ 9
  pub section : REFUSED_SECTION ≡ 10
  pub interface : REFUSED_INTERFACE ≡ 11
  pub resolution : REFUSED_RESOLUTION ≡ 12

-- the numbers of a comparison: the cells that are compared at most, and those of two assets, of the codes below 256 and up to one more than
-- the most
pub record HasCells : Type 0 where
  pub most : MOST_CELLS ≡ 1000000
  pub cells : (ours other : Asset) → cells_of ours other ≡ min (sum_below (code_cells ours other) 256) 1000001

-- the numbers of learned rules: a rule has 64 runs before the next one of its kind, and those of an asset are too many exactly where they
-- are more than 1,024
pub record HasLearnedNumbers : Type 0 where
  pub runs : (part next : Part) → IsFullBefore part next → (part.kind ≢ next.kind) ⊎ (length part.points ≡ 64)
  pub more : (seen : List Seen) (many : MakesTooMany seen) → 1024 < length (learned_rules many.sorted)
  pub too_many :
      (seen sorted : List Seen) → IsPermutation seen sorted → IsSorted seen_cmp sorted → 1024 < length (learned_rules sorted)
      → MakesTooMany seen

-- letters that may wait for a side of a service as it is read, of the 131,072 for which a queue has room. Beside those that one turn can
-- add to it there is room for what unfinished fragments of DNP3 may still put out, 5,300 for each asset of the site: so from the third
-- asset on fewer may wait, with eight of them 71,088
pub record HasBack : Type 0 where
  pub modbus : (site : SiteValue) → site.first.protocol ≡ protocol.Modbus → most_back both.Separate site ≡ 98304
  pub iec104 : (site : SiteValue) → site.first.protocol ≡ protocol.Iec104 → most_back both.Separate site ≡ 98304
  pub few : (site : SiteValue) → site.first.protocol ≡ protocol.Dnp3 → length (assets_of site) ≤ 2 → most_back both.Separate site ≡ 98304
  pub more :
      (site : SiteValue) → site.first.protocol ≡ protocol.Dnp3 → 3 ≤ length (assets_of site) → length (assets_of site) ≤ 8
      → most_back both.Separate site + 5300 * length (assets_of site) ≡ 113488
  pub eight : (site : SiteValue) → site.first.protocol ≡ protocol.Dnp3 → length (assets_of site) ≡ 8 → most_back both.Separate site ≡ 71088

-- all numbers that are constants of the code, but for the limits
pub record HasNumbers : Type 0 where
  pub magics : HasMagics
  pub blocks : HasBlockTypes
  pub refusals : HasBlockRefusals
  pub cells : HasCells
  pub learned : HasLearnedNumbers
  -- octets that one call of a relay gives or takes at most
  pub bytes : MOST_BYTES ≡ 4096
  -- letters that may wait for a side of a service as it is read
  pub back : HasBack
  -- octets of a refused command that its line of a review shows at most, and those of a name in a line of the log
  pub shown : SHOWN ≡ 16
  pub name : NAME_LIMIT ≡ 32
