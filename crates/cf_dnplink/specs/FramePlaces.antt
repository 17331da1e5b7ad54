-- Steps of the proof: a link frame by places: which octet may follow those before it (`follows`), and how long the frame is
-- (`size_of`). The reader goes by these places; that they give the frames of `LinkFrame` is proved where the reader is.
use Rattle.std.specs.Prelude.{◌≡◌, ℕ, ◌+◌, ◌-◌, ◌*◌, ◌/◌, ◌%◌, ◌<◌, ◌≤◌, ◌==◌, nat_lt, nat_le, min, Bool, true, false, if◌then◌else◌, List, length, take}
use Rattle.std.specs.Prelude.{drop, slice_index, slice_range, Option, MatchOption}
use Rattle.cf_view.specs.Octets.{u16_le_at}
use Rattle.cf_view.specs.Places.{EachFollows, SpellsBy}
use Rattle.cf_dnplink.specs.Crc.{crc_of}
use Rattle.cf_dnplink.specs.LinkFrame.{FrameValue}

-- the size of a frame with this LENGTH, in octets
abbrev pub frame_size : ℕ → ℕ
frame_size len = 10 + (len - 5) + 2 * ((len - 5 + 15) / 16)

-- the size of the frame that the octets begin; the least one where they do not tell it
abbrev pub size_of : List ℕ → ℕ
size_of octets = if nat_lt (length octets) 3 then 10 else frame_size (slice_index octets 2)

-- the place at which the block begins that a place lies in, or whose CRC does; the header is the first block
abbrev pub block_start : ℕ → ℕ
block_start place = if nat_lt place 10 then 0 else 10 + (place - 10) / 18 * 18

-- the place at which the CRC of that block begins
abbrev pub block_end : ℕ → ℕ → ℕ
block_end len place =
    if nat_lt place 10 then 8 else block_start place + min 16 (len - 5 - (place - 10) / 18 * 16)

-- the CRC of the block
abbrev pub block_sum : List ℕ → ℕ → ℕ
block_sum octets place = crc_of (slice_range octets (block_start place) (block_end (slice_index octets 2) place))

-- an octet of a CRC, the low one first
abbrev pub crc_octet : ℕ → ℕ → ℕ
crc_octet crc i = if i == 0 then crc % 256 else crc / 256

-- past the LENGTH: whether an octet may stand at a place, after the octets before it
abbrev pub checks : ℕ → List ℕ → ℕ → ℕ → Bool
checks len before place octet =
    if nat_lt place (block_end len place) then true
    else octet == crc_octet (crc_of (slice_range before (block_start place) (block_end len place))) (place - block_end len place)

-- whether an octet may follow the octets before it
abbrev pub follows : List ℕ → ℕ → Bool
follows before octet =
    if length before == 0 then octet == 0x05 else
    (if length before == 1 then octet == 0x64 else
    (if length before == 2 then nat_le 5 octet else
    checks (slice_index before 2) before (length before) octet))

-- the frame whose octets these are
abbrev pub fields_of : List ℕ → FrameValue
fields_of octets =
    record { control = slice_index octets 3; dest = u16_le_at octets 4; source = u16_le_at octets 6; blocks = drop 10 octets }

-- the octets are this frame, place by place
abbrev pub SpellsByPlaces : FrameValue → List ℕ → Type 0
SpellsByPlaces = SpellsBy follows size_of fields_of

-- the first of the first n octets that may not follow those before it, where no more than `most` are looked at
abbrev pub IsFirstWrong : List ℕ → ℕ → ℕ → Option ℕ → Type 0
IsFirstWrong octets most n result =
    MatchOption result (EachFollows follows octets (min most n))
    (λ p. (p < most) × EachFollows follows octets p × (follows (take p octets) (slice_index octets p) ≡ false))

-- a block from start to stop in a frame with this LENGTH, with its CRC behind it
abbrev pub IsBlock : ℕ → ℕ → ℕ → Type 0
IsBlock len start stop = (p : ℕ) → start ≤ p → p < stop + 2 → (block_start p ≡ start) × (block_end len p ≡ stop)
