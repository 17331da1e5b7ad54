-- The data link frame of DNP3, `SpellsFrame`: 05 64, LENGTH, CONTROL, DESTINATION and SOURCE, two octets each and the low one first,
-- and the CRC of these eight; then the user octets in blocks of 16, the last one shorter, each followed by its CRC. LENGTH counts
-- control, addresses and user octets. IEEE 1815-2012, section 9.2. It is read from the end.
use Rattle.std.specs.Prelude.{◌≡◌, ℕ, zero, suc, ◌+◌, ◌/◌, ◌<◌, ◌≤◌, ◌^◌, nat_lt, if◌then◌else◌, List, [], ◌∷◌, ◌++◌, length, take, drop}
use Rattle.cf_view.specs.Octets.{IsOctets, u16_le_octets}
use Rattle.cf_view.specs.declared.Break.{Break}
use Rattle.cf_view.specs.declared.Break.TheVariants as break_
use Rattle.cf_dnplink.specs.Crc.{crc_of}
use Rattle.cf_dnplink.specs.declared.frame.Frame.{Frame}

-- octets and after them their CRC, its low octet first
abbrev pub with_crc : List ℕ → List ℕ
with_crc octets = octets ++ u16_le_octets (crc_of octets)

-- the first n blocks of user octets
unfoldable pub blocks_by : ℕ → List ℕ → List ℕ
blocks_by zero user = []
blocks_by (suc n) user = with_crc (take 16 user) ++ blocks_by n (drop 16 user)

-- all blocks of user octets
abbrev pub blocks_of : List ℕ → List ℕ
blocks_of user = blocks_by ((length user + 15) / 16) user

-- the ten octets of a header
abbrev pub header_of : ℕ → ℕ → ℕ → ℕ → List ℕ
header_of len control dest source =
    with_crc (0x05 ∷ 0x64 ∷ len ∷ control ∷ u16_le_octets dest ++ u16_le_octets source)

-- the octets of a frame with these user octets
abbrev pub spelling : ℕ → ℕ → ℕ → List ℕ → List ℕ
spelling control dest source user = header_of (length user + 5) control dest source ++ blocks_of user

-- a frame without where it lies in memory. Its blocks still hold their CRCs
pub record FrameValue : Type 0 where
  pub control : ℕ
  pub dest : ℕ
  pub source : ℕ
  pub blocks : List ℕ

-- what a contract sees of a `Frame`
abbrev pub frame_value : Frame → FrameValue
frame_value f = record { control = f.control; dest = f.dest; source = f.source; blocks = f.blocks.bytes }

-- the frame with these user octets
abbrev pub frame_with : ℕ → ℕ → ℕ → List ℕ → FrameValue
frame_with control dest source user = record { control = control; dest = dest; source = source; blocks = blocks_of user }

-- the octets are this frame
pub record SpellsFrame (f : FrameValue) (octets : List ℕ) : Type 0 where
  pub user : List ℕ
  pub control : f.control < 2 ^ 8
  pub dest : f.dest < 2 ^ 16
  pub source : f.source < 2 ^ 16
  pub user_octets : IsOctets user
  pub at_most : length user ≤ 250
  pub blocks : f.blocks ≡ blocks_of user
  pub spelled : octets ≡ spelling f.control f.dest f.source user

-- some octets are this frame
abbrev pub IsFrame : FrameValue → Type 0
IsFrame f = (octets : List ℕ) × SpellsFrame f octets

-- the break of a place: the start, the LENGTH, the CRC of the header, and the CRCs of the blocks
abbrev pub frame_break : ℕ → Break
frame_break place =
    if nat_lt place 2 then break_.Start else
    (if nat_lt place 3 then break_.FrameLength else
    (if nat_lt place 10 then break_.HeaderCrc else break_.BlockCrc))
